-- `capi::mlhe_intensity` meets its contract: as the call. Assumes nothing.
use Rattle.cnumbers.proofs.Numbers.{returned}
use Rattle.capi.proofs.Calls.{intensity_coded}
use Rattle.capi.proofs.mlhe_intensity.Goals as goal

pub returns : goal.returns
returns c =
    intensity_coded c.intensity.result (returned c.status_number.type_inv c.status_number.ensures)
    c.intensity.ensures
