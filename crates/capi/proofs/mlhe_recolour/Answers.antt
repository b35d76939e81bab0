-- `capi::mlhe_recolour` meets its contract: as the call. Assumes nothing.
use Rattle.cnumbers.proofs.Numbers.{returned}
use Rattle.capi.proofs.Calls.{recolour_coded}
use Rattle.capi.proofs.mlhe_recolour.Goals as goal

pub returns : goal.returns
returns c =
    recolour_coded c.recolour.result (returned c.status_number.type_inv c.status_number.ensures)
    c.recolour.ensures
