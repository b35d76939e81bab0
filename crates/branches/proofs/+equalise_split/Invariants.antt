-- The measures of `branches::equalise` and `branches::split`: the width of the section, twice, and one more for
-- `equalise`.
use Prim.Native.Nat.{◌+◌, ◌-◌, ◌*◌}
use Rattle.branches.proofs.+equalise_split.Given as goal

abbrev pub decreases-equalise : goal.decreases-equalise
decreases-equalise l = 2 * (l.branch.b - l.branch.a) + 1

abbrev pub decreases-split : goal.decreases-split
decreases-split l = 2 * (l.branch.b - l.branch.a)
