-- `capi::mlhe_pass` meets its contract: as the call, with both counts in the lent numbers. Assumes nothing.
use Rattle.cnumbers.proofs.Numbers.{returned}
use Rattle.capi.proofs.Calls.{pass_room, counts_room, counts_coded}
use Rattle.capi.proofs.mlhe_pass.Goals as goal

pub put_counts-requires : goal.put_counts-requires
put_counts-requires c =
    counts_room _ (pass_room _ _ _ _ _ _ _) c.counted_pass-answer.result c.counted_pass-answer.ensures

pub returns : goal.returns
returns c =
    let put = c.put_counts in
    counts_coded c.counted_pass-answer.result (returned put.type_inv put.ensures.0) put.ensures.1
    c.counted_pass-answer.ensures
