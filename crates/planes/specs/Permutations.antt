-- Lists with the same members in another order, whatever they are lists of. Definitions only.
use Rattle.std.specs.Prelude.{List, [], ◌∷◌}

-- one list is a permutation of the other: equal behind an equal first member, the first two in turn, or a permutation
-- of a permutation
pub data Permutation {A : Type 0} : List A → List A → Type 0 where
  empty : Permutation [] []
  behind : {x : A} {xs ys : List A} → Permutation xs ys → Permutation (x ∷ xs) (x ∷ ys)
  swap : {x y : A} {xs : List A} → Permutation (x ∷ y ∷ xs) (y ∷ x ∷ xs)
  twice : {xs ys zs : List A} → Permutation xs ys → Permutation ys zs → Permutation xs zs
