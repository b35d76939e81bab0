-- `painting::mark_section` meets its contract. The invariant: the first marks are those of the pixels' values. Assumes
-- nothing.
use Rattle.std.proofs.Common.{ℕ, ◌<◌, ◌≡◌, cond}
use Rattle.planes.specs.Lists.{at}
use Rattle.model.specs.Passes.{within}
use Rattle.painting.proofs.mark_section.Given as goal

abbrev pub invariant-loop-p : goal.invariant-loop-p
invariant-loop-p l = (k : ℕ) → k < l.p → at l.mark-items k ≡ cond (within l.pass (at l.plane k)) 1 0
