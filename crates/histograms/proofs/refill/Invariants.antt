-- `histograms::refill` meets its contract: the entries from first to below v are given. Assumes nothing.
use Rattle.std.proofs.Common.{ℕ, ◌≡◌, ◌≤◌, ◌<◌, max}
use Rattle.histograms.specs.Histograms.{Refilled}
use Rattle.histograms.proofs.refill.Given as goal

abbrev pub invariant-loop-v : goal.invariant-loop-v
invariant-loop-v g l = record {
  within : l.v ≤ max l.first l.end;
  filled : (f : ℕ → ℕ) → ((v y : ℕ) → l.first ≤ v → v < l.end → goal.F-post g l.tone v y → y ≡ f v)
      → Refilled f l.first l.v l.initial.table l.table;
}
