-- `histograms::histogram` meets its contract: no count is above the number of values so far, and each value adds one to
-- its own. Assumes nothing.
use Rattle.std.proofs.Common.{arith}
use Rattle.std.proofs.lemmas.Grind.{common_steps}
use Rattle.histograms.proofs.Measured.{tally_begun, tally_taken}
use Rattle.histograms.proofs.histogram.Goals as goal

pub overflow_add-counts : goal.overflow_add-counts
overflow_add-counts c = grind (arith, common_steps, tally_begun _ _ c.from.result c.loop-value.invariant)

pub loop-value-preserved : goal.loop-value-preserved
loop-value-preserved c =
    tally_taken _ _ _ c.loop-value.invariant c.loop-value-test.true c.from.ensures (omega arith)
