-- `rows::skip` meets its contract. The invariant: no pixel from `at` on and before p has the code. The measure is
-- what is left before `end`. Assumes nothing.
use Prim.Native.Nat.{◌-◌}
use Rattle.rows.specs.Stretches.{Skipped}
use Rattle.rows.proofs.skip.Given as goal

abbrev pub invariant-loop-p : goal.invariant-loop-p
invariant-loop-p l =
    Skipped l.marks l.code l.at l.p

abbrev pub decreases-loop-p : goal.decreases-loop-p
decreases-loop-p l =
    l.end - l.p
