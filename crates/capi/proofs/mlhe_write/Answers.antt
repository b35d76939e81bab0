-- `capi::mlhe_write` meets its contract: as the call. What is written is short enough for a signed number. Assumes
-- nothing.
use Rattle.cnumbers.proofs.Numbers.{returned}
use Rattle.capi.proofs.Calls.{write_coded, write_short}
use Rattle.capi.proofs.mlhe_write.Goals as goal

pub written_number-requires : goal.written_number-requires
written_number-requires c =
    let args = c.args in
    write_short args.raster.now args.w args.h c.write.result
    c.write.ensures

pub returns : goal.returns
returns c =
    write_coded c.write.result (returned c.written_number.type_inv c.written_number.ensures)
    c.write.ensures
