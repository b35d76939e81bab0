-- The values of a queue's first pixels, one by one. A queue that enumerates a set of pixels is a component, and its
-- values are those of the set in reading order, perhaps in another order. Assumes nothing.
use Prim.Native.Nat.{ℕ, zero, suc, ◌≤◌, ◌<◌}
use mathlib.Core.Path.{◌≡◌, refl, sym, ap, ◌∙◌}
use mathlib.Core.Bool.{Bool, true}
use mathlib.Core.List.{List, [], ◌∷◌, map}
use native.Mathlib.Nat.{min-eq_left, not-suc-le-zero, le_of_suc-le-suc}
use native.Mathlib.Omega.{arith}
use lib.ListN.{length, take, length-map, length-take}
use lib.Seq.{get_or-take}
use lib.Dec.{eqb}
use Rattle.planes.specs.Lists.{from, keep, at}
use Rattle.planes.specs.Enumerations.{Enumerates}
use Rattle.planes.proofs.Counts.{count_all}
use Rattle.planes.proofs.Enumerations.{values_count}
use Rattle.histograms.specs.Histograms.{values, Component, Alike}

-- ## Values of the queue's pixels

map_at : (f : ℕ → ℕ) (xs : List ℕ) (i : ℕ) → i < length xs → at (map f xs) i ≡ f (at xs i)
map_at f [] i h = absurd (not-suc-le-zero h)
map_at f (x ∷ xs) zero h = refl
map_at f (x ∷ xs) (suc i) h = map_at f xs i (le_of_suc-le-suc h)

module _ (plane queue : List ℕ) (m : ℕ) (room : m ≤ length queue) where
  taken : length (take m queue) ≡ m
  taken = length-take m queue ∙ min-eq_left room

  pub values_size : length (values plane queue m) ≡ m
  values_size = length-map (take m queue) (at plane) ∙ taken

  pub values_at : (i : ℕ) → i < m → at (values plane queue m) i ≡ at plane (at queue i)
  values_at i h = map_at (at plane) (take m queue) i (omega (arith, taken)) ∙ ap (at plane) (get_or-take m queue i 0 h)

-- as many values as the queue has entries
pub queue_size : (plane queue : List ℕ) {vs : List ℕ} {m : ℕ} → m ≤ length queue → Alike vs (values plane queue m)
    → length vs ≡ m
queue_size plane queue {m = m} h A = A.size ∙ values_size plane queue m h

-- ## Enumerations

module _ {queue : List ℕ} {m n : ℕ} {S : ℕ → Bool} (E : Enumerates queue m n S) (plane : List ℕ) where
  pub alike_of : Alike (map (at plane) (keep S (from 0 n))) (values plane queue m)
  alike_of =
      let all : ℕ → Bool = λ x. true in
      record {
        same = λ v. sym (values_count E plane (eqb v));
        size = sym (count_all (map (at plane) (keep S (from 0 n))))
            ∙ sym (values_count E plane all)
            ∙ count_all (values plane queue m);
      }

  pub component_of : {a b : ℕ} → n ≤ length plane → a ≤ b → 1 ≤ m → m ≤ 1048576
      → ((p : ℕ) → p < n → S p ≡ true → (a ≤ at plane p) × (at plane p ≤ b)) → Component plane queue m a b
  component_of size ab some few within = record {
    order = ab;
    some = some;
    few = few;
    room = E.fits;
    pixels = λ i im. omega (arith, E.below i im);
    once = E.distinct;
    within = λ i im. within (at queue i) (E.below i im) (E.inside i im);
  }
