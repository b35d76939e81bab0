-- `scans::take_plane` meets its contract. The invariant: the first entries are their own numbers. Assumes nothing.
use Rattle.std.proofs.Common.{ℕ, ◌<◌, ◌≡◌}
use Rattle.planes.specs.Lists.{at}
use Rattle.scans.proofs.take_plane.Given as goal

abbrev pub invariant-loop-k : goal.invariant-loop-k
invariant-loop-k l = (p : ℕ) → p < l.k → at l.q-items p ≡ p
