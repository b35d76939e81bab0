-- `capi::mlhe_run_list` meets its contract: as the call, with both counts in the lent numbers. Assumes nothing.
use Rattle.cnumbers.proofs.Numbers.{returned}
use Rattle.capi.proofs.Calls.{last_room, counts_room, counts_coded}
use Rattle.capi.proofs.mlhe_run_list.Goals as goal

pub put_counts-requires : goal.put_counts-requires
put_counts-requires c =
    counts_room _ (last_room _ _) c.counted_list-answer.result c.counted_list-answer.ensures

pub returns : goal.returns
returns c =
    let put = c.put_counts in
    counts_coded c.counted_list-answer.result (returned put.type_inv put.ensures.0) put.ensures.1
    c.counted_list-answer.ensures
