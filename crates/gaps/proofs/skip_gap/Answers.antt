-- `gaps::skip_gap` meets its contract: where no piece begins the rest, the parser leaves all of it. Assumes nothing.
use mathlib.Core.Path.{sym, ◌∙◌}
use Rattle.gaps.proofs.Comments.{pieces_absent, pieces_digit}
use Rattle.gaps.proofs.skip_gap.Goals as goal

pub returns-in-Take : goal.returns-in-Take
returns-in-Take c =
    let left = pieces_digit c.loop-byte.rest.now c.in-Some.ensures.cases.0 (sym c.sorted.ensures ∙ c.in-Take.is) in
    cc

pub returns-in-Stop : goal.returns-in-Stop
returns-in-Stop c =
    let left = pieces_absent c.loop-byte.rest.now c.in-Some.ensures.cases.0 (sym c.sorted.ensures ∙ c.in-Stop.is) in
    cc
