-- `enhance::enhance` meets its contract: refused with the first number that applies and nothing changed, or enhanced.
-- Assumes nothing.
use mathlib.Core.Path.{sym}
use Rattle.model.proofs.Outcomes.{output_refused_on, output_done_by}
use Rattle.enhance.proofs.enhance.Goals as goal

pub returns-in_err-refusal_of : goal.returns-in_err-refusal_of
returns-in_err-refusal_of c =
    output_refused_on c.from_residual.result _ c.from_residual.ensures.1 c.in_err-refusal_of.ensures

pub enhance_frame-requires : goal.enhance_frame-requires
enhance_frame-requires c = sym c.in_ok-refusal_of.ensures

pub returns : goal.returns
returns c =
    let enhances = c.enhance_frame.ensures in
    output_done_by (sym c.in_ok-refusal_of.ensures) enhances.over enhances.output_is
