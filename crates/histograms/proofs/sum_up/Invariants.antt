-- `histograms::sum_up` meets its contract: the entries from a to v are sums, and the others are as they were. Assumes
-- nothing.
use Prim.Native.Nat.{◌+◌}
use Rattle.planes.specs.Lists.{at}
use Rattle.histograms.specs.Values.{sum_to}
use Rattle.histograms.specs.Histograms.{Refilled}
use Rattle.histograms.proofs.sum_up.Given as goal

abbrev pub invariant-loop-v : goal.invariant-loop-v
invariant-loop-v l = Refilled (sum_to (at l.initial.counts) l.a) l.a (l.v + 1) l.initial.counts l.counts
