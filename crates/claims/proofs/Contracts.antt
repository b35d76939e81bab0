-- The contracts as the crates declare them give the records of the claims: each is that record, and asks nothing.
-- Assumes nothing.
use Rattle.claims.specs.CallContracts.{Contracts, CContracts}

pub contracts : Contracts
contracts = record {
  of_intensity = λ κs a r s l. l;
  intensity_asks = λ κs a. tt;
  of_recolour = λ κs a r s l. l;
  recolour_asks = λ κs a. tt;
  of_pass = λ κs a r s l. l;
  pass_asks = λ κs a. tt;
  of_enhance = λ κs a r s l. l;
  enhance_asks = λ κs a. tt;
  of_list = λ κs a r s l. l;
  list_asks = λ κs a. tt;
  of_slice = λ κs a r s l. l;
  slice_asks = λ κs a. tt;
  of_passes = λ κs a r s l. l;
  passes_asks = λ κs a. tt;
  of_convert = λ κs a r s l. l;
  convert_asks = λ κs a. tt;
  of_read = λ κs a r s l. l;
  read_asks = λ κs a. tt;
  of_read_within = λ κs a r s l. l;
  read_within_asks = λ κs a. tt;
  of_write = λ κs a r s l. l;
  write_asks = λ κs a. tt;
  of_program = λ κs a r s l. l;
  program_asks = λ κs a. tt;
}

pub c_contracts : CContracts
c_contracts = record {
  of_intensity = λ κs a r s l. l;
  intensity_asks = λ κs a. tt;
  of_recolour = λ κs a r s l. l;
  recolour_asks = λ κs a. tt;
  of_pass = λ κs a r s l. l;
  pass_asks = λ κs a. tt;
  of_list = λ κs a r s l. l;
  list_asks = λ κs a. tt;
  of_convert = λ κs a r s l. l;
  convert_asks = λ κs a. tt;
  of_enhance = λ κs a r s l. l;
  enhance_asks = λ κs a. tt;
  of_read = λ κs a r s l. l;
  read_asks = λ κs a. tt;
  of_write = λ κs a r s l. l;
  write_asks = λ κs a. tt;
}
