-- `plain::fill_plain` meets its contract: the entries from the least value to below v are tones, and `tone` is that of
-- the sum `last`. Assumes nothing.
use mathlib.Core.Path.{◌≡◌}
use Rattle.planes.specs.Lists.{at}
use Rattle.histograms.specs.Values.{scaled}
use Rattle.histograms.specs.Histograms.{Refilled}
use Rattle.plain.proofs.fill_plain.Given as goal

abbrev pub invariant-loop-v : goal.invariant-loop-v
invariant-loop-v l = record {
  toned : l.tone ≡ scaled l.a l.b l.last l.c.size;
  filled : Refilled (λ k. scaled l.a l.b (at l.sums k) l.c.size) l.c.least l.v l.initial.table l.table;
}
