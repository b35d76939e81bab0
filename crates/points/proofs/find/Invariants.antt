-- `points::find` meets its contract: the sums of the values from x to below v are too small. Assumes nothing.
use Rattle.std.proofs.Common.{ℕ, ◌*◌, ◌≤◌, ◌<◌}
use Rattle.planes.specs.Lists.{at}
use Rattle.points.proofs.find.Given as goal

abbrev pub invariant-loop-v : goal.invariant-loop-v
invariant-loop-v l = (u : ℕ) → l.x ≤ u → u < l.v → l.n * at l.sums u < l.need
