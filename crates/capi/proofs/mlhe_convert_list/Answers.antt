-- `capi::mlhe_convert_list` meets its contract: as the call. What is written is short enough for a signed number.
-- Assumes nothing.
use Rattle.cnumbers.proofs.Numbers.{returned}
use Rattle.capi.proofs.Calls.{write_coded, convert_short}
use Rattle.capi.proofs.mlhe_convert_list.Goals as goal

pub written_number-requires : goal.written_number-requires
written_number-requires c =
    let args = c.args in
    convert_short args.list.now c.convert.result c.convert.ensures

pub returns : goal.returns
returns c =
    write_coded c.convert.result (returned c.written_number.type_inv c.written_number.ensures)
    c.convert.ensures
