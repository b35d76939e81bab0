-- `capi::mlhe_enhance` meets its contract: as the call, with both counts in the lent numbers. Assumes nothing.
use Rattle.cnumbers.proofs.Numbers.{returned}
use Rattle.capi.proofs.Calls.{enhance_room, counts_room, output_coded}
use Rattle.capi.proofs.mlhe_enhance.Goals as goal

pub put_counts-requires : goal.put_counts-requires
put_counts-requires c =
    counts_room _ (enhance_room _ _ _ _ _ _ _ _ _) c.counted_enhancement-answer.result
    c.counted_enhancement-answer.ensures.retoned

pub returns : goal.returns
returns c =
    let put = c.put_counts in
    output_coded c.counted_enhancement-answer.result (returned put.type_inv put.ensures.0) put.ensures.1
    c.counted_enhancement-answer.ensures
