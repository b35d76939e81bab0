-- Properties of all passes of a list, in any order and in parts; and passes on pairwise disjoint intervals, which have
-- one effect in every order, since any two of them change places. Assumes nothing.
use Prim.Native.Nat.{◌≤◌}
use mathlib.Core.List.{List, [], ◌∷◌, ◌++◌}
use Rattle.planes.specs.Neighbours.{Near}
use Rattle.planes.specs.Permutations.{Permutation, empty, behind, swap, twice}
use Rattle.model.specs.declared.Pass.{Pass}
use Rattle.model.specs.Effects.{Same}
use Rattle.model.specs.Runs.{All, none, more}
use Rattle.model.proofs.Apart.{turn}
use Rattle.model.proofs.Recursion.{same_refl, same_trans, same_cons, swap as swapped}
use Rattle.schedules.specs.Orders.{PairwiseDisjoint, none, more}

-- ## All passes of a list

module _ {P : Pass → Type 0} where
  pub all_permuted : {xs ys : List Pass} → Permutation xs ys → All P xs → All P ys
  all_permuted empty none = none
  all_permuted (behind r) (more x a) = more x (all_permuted r a)
  all_permuted swap (more x (more y a)) = more y (more x a)
  all_permuted (twice r q) a = all_permuted q (all_permuted r a)

  pub all_parts : (xs : List Pass) {ys : List Pass} → All P (xs ++ ys) → All P xs × All P ys
  all_parts [] a = (none, a)
  all_parts (x ∷ xs) (more h a) = let both = all_parts xs a in (more h both.0, both.1)

-- two properties give a third
pub all_both : {P Q R : Pass → Type 0} {xs : List Pass} → ((s : Pass) → P s → Q s → R s) → All P xs → All Q xs
    → All R xs
all_both f none none = none
all_both f (more {s = s} x a) (more y b) = more (f s x y) (all_both f a b)

-- ## Pairwise disjoint passes

pub pairwise_permuted : {xs ys : List Pass} → Permutation xs ys → PairwiseDisjoint xs → PairwiseDisjoint ys
pairwise_permuted empty none = none
pairwise_permuted (behind r) (more a d) = more (all_permuted r a) (pairwise_permuted r d)
pairwise_permuted (swap {x = s} {y = t}) (more (more h a) (more b d)) = more (more (turn s t h) b) (more a d)
pairwise_permuted (twice r q) d = pairwise_permuted q (pairwise_permuted r d)

pub pairwise_parts : (xs : List Pass) {ys : List Pass} → PairwiseDisjoint (xs ++ ys)
    → PairwiseDisjoint xs × PairwiseDisjoint ys
pairwise_parts [] d = (none, d)
pairwise_parts (x ∷ xs) (more a d) =
    let both = pairwise_parts xs d in
    (more (all_parts xs a).0 both.0, both.1)

-- a pass with an interval that is not empty, as every accepted one has
abbrev pub Ordered : Pass → Type 0
Ordered s = s.a ≤ s.b

-- whatever plane they start from, they come to one plane and the same sums
pub permuted_same : (by : Pass → Near) {xs ys : List Pass} → Permutation xs ys → All Ordered xs → PairwiseDisjoint xs
    → Same by xs ys
permuted_same by empty none none = same_refl by []
permuted_same by (behind {x = s} r) (more o a) (more h d) = same_cons by s (permuted_same by r a d)
permuted_same by (swap {x = s} {y = t} {xs = zs}) (more o (more u a)) (more (more h b) d) = swapped by s t zs (o, u, h)
permuted_same by (twice r q) a d =
    same_trans by (permuted_same by r a d) (permuted_same by q (all_permuted r a) (pairwise_permuted r d))
