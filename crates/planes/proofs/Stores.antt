-- What a store leaves in a list. Assumes nothing.
use Prim.Native.Nat.{ℕ, ◌<◌}
use mathlib.Core.Path.{◌≡◌}
use mathlib.Core.Logic.{inl, inr}
use mathlib.Core.List.{List}
use lib.ListN.{length, set}
use lib.Seq.{get_or-set_same, get_or-set_other}
use Rattle.planes.specs.Lists.{at}
use Rattle.planes.proofs.Tests.{eq_or_not}

-- what holds of an entry after a store, by whether it is the one stored to
pub at_set : (P : ℕ → Type 0) (l : List ℕ) (i j v : ℕ) → i < length l → (j ≡ i → P v)
    → ((j ≡ i → ⊥) → P (at l j)) → P (at (set l i v) j)
at_set P l i j v h s o = elim (eq_or_not j i) [
  | inl e ↦ rw (e, get_or-set_same l i v 0 h) (s e)
  | inr e ↦ rw (get_or-set_other l i j v 0 e) (o e)
]
