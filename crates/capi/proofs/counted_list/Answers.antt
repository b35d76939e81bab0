-- `capi::counted_list` meets its contract: as the call, and 14 after all its refusals where too few numbers are lent.
-- Assumes nothing.
use Rattle.std.proofs.Common.{sym}
use Rattle.model.proofs.Outcomes.{outcome_number}
use Rattle.capi.proofs.Calls.{counts_enough}
use Rattle.capi.proofs.counted_list.Goals as goal

pub returns : goal.returns
returns c = outcome_number (sym (counts_enough _ _ c.if-counts-lt-COUNTS.false)) c.run_list.ensures
