-- What a run of passes on pairwise disjoint intervals leaves and counts, said of the first plane alone: no pass sees
-- what the others did. By induction over the list: a pass leaves the sections of all later ones alike, and none of
-- these touches a pixel of its own section again. For any neighbour relations, of each pass its own. Assumes nothing.
--
--   Ran            a plane has, for each pixel, the tone that the pass of its interval gives it on the first plane
--   run_ran        a run leaves such a plane
--   total_first    the counts of a run are the sums of those that each pass has on the first plane
--   run_fine       a run keeps the order of neighbours, for any relation inside those of all its passes
use Prim.Native.Nat.{ℕ, ◌+◌, ◌<◌}
use mathlib.Core.Path.{◌≡◌, refl, sym, ap, ap₂, subst, ◌∙◌}
use mathlib.Core.Bool.{Bool, true, false}
use mathlib.Core.List.{List, [], ◌∷◌, ◌++◌}
use native.Mathlib.Nat.{add_assoc, zero-add}
use lib.ListN.{length}
use Rattle.planes.specs.Lists.{at}
use Rattle.planes.specs.Neighbours.{Near}
use Rattle.planes.specs.Shapes.{Narrower}
use Rattle.planes.specs.declared.Shape.{Shape}
use Rattle.model.specs.declared.Pass.{Pass}
use Rattle.model.specs.Neighbourhoods.{pass_neighbours}
use Rattle.model.specs.Passes.{within, new_tone, passed, component_count}
use Rattle.model.specs.Effects.{Effect, nothing, then, pass_effect, run_effect}
use Rattle.model.specs.Runs.{All, none, more, Disjoint, run}
use Rattle.model.proofs.Apart.{Alike, tone_alike, count_alike, not_both, turn, section_stays, other_alike}
use Rattle.model.proofs.Chains.{Fine, fine_refl, fine_trans}
use Rattle.model.proofs.Components.{out_tone}
use Rattle.model.proofs.Neighbourhoods.{pass_sym}
use Rattle.model.proofs.Order.{length_passed, passed_at, passed_keeps}
use Rattle.model.proofs.Recursion.{all_map}
use Rattle.schedules.specs.Orders.{PairwiseDisjoint, none, more}
use Rattle.schedules.proofs.Orders.{all_both, Ordered}

-- ## Sums

-- the sum of a number over some passes
unfoldable pub sum_over : (Pass → ℕ) → List Pass → ℕ
sum_over g [] = 0
sum_over g (s ∷ ss) = g s + sum_over g ss

pub sum_append : (g : Pass → ℕ) (xs ys : List Pass) → sum_over g (xs ++ ys) ≡ sum_over g xs + sum_over g ys
unfolding sum_over
sum_append g [] ys = sym (zero-add (sum_over g ys))
sum_append g (x ∷ xs) ys = ap (g x +◌) (sum_append g xs ys) ∙ sym (add_assoc (g x) (sum_over g xs) (sum_over g ys))

sum_same : {g g' : Pass → ℕ} {xs : List Pass} → All (λ s. g s ≡ g' s) xs → sum_over g xs ≡ sum_over g' xs
unfolding sum_over
sum_same none = refl
sum_same (more e a) = ap₂ ◌+◌ e (sum_same a)

module _ (by : Pass → Near) where
  -- the section of a pass is alike before and after one that is disjoint from it
  pub later_alike : (s t : Pass) → Disjoint s t → Ordered s → (p : List ℕ) → Alike t p (passed (by s) s p)
  later_alike s t d o p = other_alike (by s) t s (turn s t d) o p

  -- ## Planes

  -- a pixel of the section of a pass has the tone that the pass gives it on p; a pixel of none stays
  pub record Ran (ss : List Pass) (p q : List ℕ) : Type 0 where
    pub size : length q ≡ length p
    pub sections : All (λ s. (i : ℕ) → i < length p → within s (at p i) ≡ true → at q i ≡ new_tone (by s) s p i) ss
    pub elsewhere : (i : ℕ) → i < length p → All (λ s. within s (at p i) ≡ false) ss → at q i ≡ at p i

  -- from the plane after the first pass on, all others; so all of them, from the plane before it
  module _ (s : Pass) (ss : List Pass) (o : Ordered s) (d : All (Disjoint s) ss) (p last : List ℕ)
      (R : Ran ss (passed (by s) s p) last) where
    abbrev q : List ℕ
    q = passed (by s) s p

    still : (i : ℕ) → i < length p → i < length q
    still i h = subst (i <◌) (sym (length_passed (by s) s p)) h

    -- a pixel of the first section is in no later one
    own : (i : ℕ) → i < length p → within s (at p i) ≡ true → at last i ≡ new_tone (by s) s p i
    own i h w =
        let new = passed_at (by s) s p i h in
        let stays : within s (at q i) ≡ true = ap (within s) new ∙ section_stays (by s) s o p i w in
        R.elsewhere i (still i h) (all_map (λ t x. not_both s t x (at q i) stays) d) ∙ new

    later : (t : Pass) → Disjoint s t
        → ((i : ℕ) → i < length q → within t (at q i) ≡ true → at last i ≡ new_tone (by t) t q i)
        → (i : ℕ) → i < length p → within t (at p i) ≡ true → at last i ≡ new_tone (by t) t p i
    later t x f i h w =
        let A = later_alike s t x o p in
        f i (still i h) (A.section i h ∙ w) ∙ tone_alike (by t) t p q A i h w

    other : (i : ℕ) → i < length p → All (λ t. within t (at p i) ≡ false) (s ∷ ss) → at last i ≡ at p i
    other i h (more u n) =
        let same : at q i ≡ at p i = passed_at (by s) s p i h ∙ out_tone (by s) s p i u in
        R.elsewhere i (still i h) (all_map (λ t x. ap (within t) same ∙ x) n) ∙ same

    ran-more : Ran (s ∷ ss) p last
    ran-more = record {
      size = R.size ∙ length_passed (by s) s p;
      sections = more own (all_both later d R.sections);
      elsewhere = other;
    }

  pub run_ran : (ss : List Pass) → All Ordered ss → PairwiseDisjoint ss → (p : List ℕ) → Ran ss p (run by ss p)
  unfolding run_effect
  run_ran [] none none p = record { size = refl; sections = none; elsewhere = λ i h a. refl }
  run_ran (s ∷ ss) (more o a) (more d e) p = ran-more s ss o d p _ (run_ran ss a e (passed (by s) s p))

  -- ## Counts

  -- k is one of an effect's counts: the number of components whose values pass the test f
  module _ (f : Pass → List ℕ → Bool) (k : Effect → ℕ)
      (of_pass : (s : Pass) (p : List ℕ) → k (pass_effect by s p) ≡ component_count (f s) (by s) s p)
      (of_none : (p : List ℕ) → k (nothing p) ≡ 0)
      (of-then : (d e : Effect) → k (then d e) ≡ k d + k e) where
    pub total_first : (ss : List Pass) → All Ordered ss → PairwiseDisjoint ss → (p : List ℕ)
        → k (run_effect by ss p) ≡ sum_over (λ s. component_count (f s) (by s) s p) ss
    unfolding run_effect sum_over
    total_first [] none none p = of_none p
    total_first (s ∷ ss) (more o a) (more d e) p =
        let q = passed (by s) s p in
        of-then (pass_effect by s p) (run_effect by ss q)
        ∙ ap₂ ◌+◌ (of_pass s p) (total_first ss a e q
        ∙ sum_same (all_map (λ t x. count_alike (by t) t p q (later_alike s t x o p) (f t)) d))

-- ## Order

-- for any relation inside those of all passes
pub run_fine : (near : Near) (z : Shape) (ss : List Pass)
    → All (λ s. Ordered s × Narrower near (pass_neighbours z s)) ss → (p : List ℕ)
    → Fine near p (run (pass_neighbours z) ss p)
unfolding run_effect
run_fine near z [] none p = fine_refl near p
run_fine near z (s ∷ ss) (more o a) p =
    let q = passed (pass_neighbours z s) s p in
    fine_trans near p q _
    (record {
      size = length_passed (pass_neighbours z s) s p;
      keeps = passed_keeps near (pass_neighbours z s) o.1 (pass_sym z s) s p o.0;
    })
    (run_fine near z ss a q)
