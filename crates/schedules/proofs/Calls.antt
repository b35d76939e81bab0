-- Sequences of accepted calls of `pass`: what they leave is the run of their passes, and where these are on pairwise
-- disjoint intervals, each pass answers what it answers on the first plane. So two orders of them end in one plane, and
-- each pass answers the same in both. Assumes nothing.
use Prim.Native.Nat.{ℕ, ◌+◌}
use mathlib.Core.Path.{◌≡◌, refl, sym, ap, ap₂, subst, ◌∙◌}
use mathlib.Core.Logic.{◌↔◌}
use mathlib.Core.List.{List, [], ◌∷◌}
use lib.ListN.{length}
use Rattle.planes.specs.Neighbours.{Near}
use Rattle.planes.specs.Permutations.{Permutation}
use Rattle.planes.specs.Replies.{Reply, gives}
use Rattle.planes.specs.declared.Shape.{Shape}
use Rattle.planes.proofs.Permutations.{permutation_sym}
use Rattle.model.specs.declared.Pass.{Pass}
use Rattle.model.specs.Neighbourhoods.{pass_neighbours}
use Rattle.model.specs.Passes.{changes, kept_back, passed}
use Rattle.model.specs.Effects.{Effect, counts, pass_effect, run_effect}
use Rattle.model.specs.Runs.{All, none, more, Disjoint}
use Rattle.model.specs.Calls.{Call, retoned_in, kept_in, total, AllAccepted, none, more}
use Rattle.model.proofs.Apart.{count_alike}
use Rattle.model.proofs.Chains.{ordered, accepted}
use Rattle.model.proofs.Outcomes.{outcome_given}
use Rattle.model.proofs.Recursion.{effect_same}
use Rattle.passes.specs.Calls.{call_on, PassOutcome, Sequence, none, more}
use Rattle.schedules.specs.Orders.{PairwiseDisjoint, none, more, passes_in, Answered, now, later}
use Rattle.schedules.proofs.Orders.{all_permuted, all_both, pairwise_permuted, Ordered, permuted_same}
use Rattle.schedules.proofs.Runs.{later_alike}

-- the pass of a call has what all passes of the calls have
pub answered_has : {P : Pass → Type 0} {s : Pass} {reply : Reply} {cs : List Call} {rs : List Reply}
    → Answered s reply cs rs → All P (passes_in cs) → P s
answered_has {P = P} (now e is) (more x a) = subst P e x
answered_has (later y) (more x a) = answered_has y a

module _ (z : Shape) where
  abbrev by : Pass → Near
  by = pass_neighbours z

  -- what a call that gave its values had, answered and left
  given : (s : Pass) {plane marks queue values plane' marks' queue' : List ℕ}
      → PassOutcome z s plane marks queue (gives values) plane' marks' queue'
      → Ordered s × (values ≡ counts (pass_effect by s plane)) × (plane' ≡ passed (by s) s plane)
  given s {plane} {marks} {queue} O =
      let done = outcome_given O in
      let fine = accepted z (length plane) (call_on (length marks) (length queue) s) done.0 in
      (ordered s fine.1, done.1.0, done.1.1)

  -- accepted calls are the run of their passes
  pub sequence_run : {p q : List ℕ} {cs : List Call} {rs : List Reply} → Sequence z p cs rs q → AllAccepted rs
      → All Ordered (passes_in cs)
      × (run_effect by (passes_in cs) p ≡ record { plane = q; retoned = total retoned_in rs; kept = total kept_in rs })
  unfolding run_effect
  sequence_run none none = (none, refl)
  sequence_run {q = q} (more {s = s} {plane = plane} {plane' = plane'} {cs = cs} {rs = rs} O S) (more {values} a) =
      let now = given s O in
      let rest = sequence_run S a in
      let same : run_effect by (passes_in cs) (passed (by s) s plane)
      ≡ record { plane = q; retoned = total retoned_in rs; kept = total kept_in rs } =
      ap (run_effect by (passes_in cs)) (sym now.2) ∙ rest.1 in (
        more now.0 rest.0,
        effect_same (ap (λ (e : Effect). e.plane) same)
            (ap₂ (λ (vs : List ℕ) (e : Effect). retoned_in (gives vs) + e.retoned) (sym now.1) same)
            (ap₂ (λ (vs : List ℕ) (e : Effect). kept_in (gives vs) + e.kept) (sym now.1) same),
      )

  -- ## Answers

  -- what a pass answers on a plane
  abbrev pub answer_on : List ℕ → Pass → Reply
  answer_on p s = gives (counts (pass_effect by s p))

  -- it answers the same after one that is disjoint from it
  answer-alike : (s t : Pass) → Disjoint s t → Ordered s → (p : List ℕ)
      → answer_on (passed (by s) s p) t ≡ answer_on p t
  answer-alike s t d o p =
      let A = later_alike by s t d o p in
      let q = passed (by s) s p in
      ap₂ (λ (j k : ℕ). gives (j ∷ k ∷ [])) (count_alike (by t) t p q A (changes t))
      (count_alike (by t) t p q A (kept_back t))

  -- every pass answers what it answers on the first plane
  pub all_answered : {p q : List ℕ} {cs : List Call} {rs : List Reply} → Sequence z p cs rs q → AllAccepted rs
      → PairwiseDisjoint (passes_in cs) → All (λ s. Answered s (answer_on p s) cs rs) (passes_in cs)
  all_answered none none none = none
  all_answered (more {s = s} {plane = p} {plane' = p'} {cs = cs} {rs = rs} O S) (more a) (more d e) =
      let now-is = given s O in
      more (now refl (ap gives now-is.1))
      (all_both (λ t x y. later (subst (λ (r : Reply). Answered t r cs rs)
      (ap (λ (q : List ℕ). answer_on q t) now-is.2 ∙ answer-alike s t x now-is.0 p) y))
      d (all_answered S a e))

  -- and nothing else
  pub answered_is : {p q : List ℕ} {cs : List Call} {rs : List Reply} {s : Pass} {reply : Reply}
      → Sequence z p cs rs q → AllAccepted rs → PairwiseDisjoint (passes_in cs) → Answered s reply cs rs
      → reply ≡ answer_on p s
  answered_is none _ _ x = elim x [ ]
  answered_is {p = p} (more {s = t} O S) (more a) (more d e) (now same is) =
      sym is ∙ ap gives (given t O).1 ∙ ap (answer_on p) same
  answered_is {p = p} {s = s} (more {s = t} O S) (more a) (more d e) (later y) =
      let now-is = given t O in
      answered_is S a e y
      ∙ ap (λ (q : List ℕ). answer_on q s) now-is.2
      ∙ answer-alike t s (answered_has y d) now-is.0 p

  -- ## Two orders

  module _ {first last₁ last₂ : List ℕ} {cs₁ cs₂ : List Call} {rs₁ rs₂ : List Reply}
      (S₁ : Sequence z first cs₁ rs₁ last₁) (S₂ : Sequence z first cs₂ rs₂ last₂)
      (a₁ : AllAccepted rs₁) (a₂ : AllAccepted rs₂)
      (d : PairwiseDisjoint (passes_in cs₁)) (r : Permutation (passes_in cs₁) (passes_in cs₂)) where
    pub orders_plane : last₁ ≡ last₂
    orders_plane =
        let run₁ = sequence_run S₁ a₁ in
        ap (λ (e : Effect). e.plane)
        (sym run₁.1 ∙ (permuted_same by r run₁.0 d).effects first ∙ (sequence_run S₂ a₂).1)

    -- what is answered in one order is answered in the other
    orders-answer : (s : Pass) (reply : Reply) → Answered s reply cs₁ rs₁ → Answered s reply cs₂ rs₂
    orders-answer s reply y =
        let all = all_answered S₂ a₂ (pairwise_permuted r d) in
        let there : Answered s (answer_on first s) cs₂ rs₂ = answered_has y (all_permuted (permutation_sym r) all) in
        subst (λ (x : Reply). Answered s x cs₂ rs₂) (sym (answered_is S₁ a₁ d y)) there

  -- both ways
  pub orders_answers : {first last₁ last₂ : List ℕ} {cs₁ cs₂ : List Call} {rs₁ rs₂ : List Reply}
      → Sequence z first cs₁ rs₁ last₁ → Sequence z first cs₂ rs₂ last₂ → AllAccepted rs₁ → AllAccepted rs₂
      → PairwiseDisjoint (passes_in cs₁) → Permutation (passes_in cs₁) (passes_in cs₂) → (s : Pass) (reply : Reply)
      → Answered s reply cs₁ rs₁ ↔ Answered s reply cs₂ rs₂
  orders_answers S₁ S₂ a₁ a₂ d r s reply = (
    orders-answer S₁ S₂ a₁ a₂ d r s reply,
    orders-answer S₂ S₁ a₂ a₁ (pairwise_permuted r d) (permutation_sym r) s reply,
  )
