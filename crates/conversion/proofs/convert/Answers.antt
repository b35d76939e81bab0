-- `conversion::convert` meets its contract: a refusal leaves the output alone, and else the list is put from its
-- beginning on. Assumes nothing.
use Rattle.std.proofs.Common.{sym, ap, ◌∙◌}
use Rattle.std.proofs.lemmas.Result.{err_from_is_err_and}
use Rattle.planes.specs.Refusals.{number}
use Rattle.texts.proofs.Writing.{wrote_refused, wrote_accepted}
use Rattle.conversion.proofs.convert.Goals as goal

pub returns-in_err-convert_refusal : goal.returns-in_err-convert_refusal
returns-in_err-convert_refusal c =
    let (d, is, same) = err_from_is_err_and c.from_residual.result c.from_residual.ensures.1 in
    rw is (wrote_refused _ _ _ d (ap number same ∙ c.in_err-convert_refusal.ensures))

pub put_converted-requires : goal.put_converted-requires
put_converted-requires c = sym c.in_ok-convert_refusal.ensures

pub returns : goal.returns
returns c = wrote_accepted _ _ _ _ _ c.in_ok-convert_refusal.ensures c.put_converted.ensures
