-- Every list is a permutation of itself, and of each of its permutations. Assumes nothing.
use mathlib.Core.List.{List, [], ◌∷◌}
use Rattle.planes.specs.Permutations.{Permutation, empty, behind, swap, twice}

module _ {A : Type 0} where
  pub permutation_refl : (xs : List A) → Permutation xs xs
  permutation_refl [] = empty
  permutation_refl (x ∷ xs) = behind (permutation_refl xs)

  pub permutation_sym : {xs ys : List A} → Permutation xs ys → Permutation ys xs
  permutation_sym empty = empty
  permutation_sym (behind r) = behind (permutation_sym r)
  permutation_sym swap = swap
  permutation_sym (twice r q) = twice (permutation_sym q) (permutation_sym r)
