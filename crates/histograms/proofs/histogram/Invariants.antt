-- `histograms::histogram` meets its contract: the counts are those of the plane's values so far. Assumes nothing.
use lib.ListN.{take}
use Rattle.histograms.specs.Histograms.{Tally}
use Rattle.histograms.proofs.histogram.Given as goal

abbrev pub invariant-loop-value : goal.invariant-loop-value
invariant-loop-value l = Tally (take l.value-index l.plane) l.counts
