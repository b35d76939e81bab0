-- `rows::run_start` meets its contract. The invariant: all pixels from p on and before q have the code. Assumes
-- nothing.
use Rattle.std.proofs.Common.{ℕ, ◌≤◌, ◌<◌, ◌≡◌}
use Rattle.planes.specs.Lists.{at}
use Rattle.rows.proofs.run_start.Given as goal

abbrev pub invariant-loop-p : goal.invariant-loop-p
invariant-loop-p l = (x : ℕ) → l.p ≤ x → x < l.q → at l.marks x ≡ l.code
