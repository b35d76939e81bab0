-- `conversion::put_converted` meets its contract. The invariant: where the loop began with the head put into a lent
-- output, the first j records are put (`Putting`). Assumes nothing.
use Prim.Native.Nat.{ℕ}
use mathlib.Core.List.{List}
use lib.ListN.{length}
use Rattle.conversion.proofs.Refusals.{Convertible}
use Rattle.conversion.proofs.Putting.{Putting}
use Rattle.conversion.proofs.put_converted.Given as goal

abbrev pub invariant-loop-j : goal.invariant-loop-j
invariant-loop-j l =
    (lent : List ℕ) → Convertible l.list (length lent) → Putting l.list lent 0 l.initial.at
    l.initial.output → Putting l.list lent l.j l.at l.output
