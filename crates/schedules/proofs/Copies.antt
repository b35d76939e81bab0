-- Copies of a plane, each worked on by accepted calls, put together: where all passes are on pairwise disjoint
-- intervals, that is the plane of every sequence of them, and the counts are those of the copies. Pixel by pixel: the
-- work that has a pixel's old value in an interval, and the run of all passes, give the pixel the tone that its pass
-- gives it on the first plane. Assumes nothing.
--
--   works_ordered                     the passes of works were accepted
--   together_run                      the copies put together are the run of all passes
--   works_answered, work_answered_is  each pass answers in its work what it answers on the first plane, and only that
--   copies_effect                     plane and counts of the works are those of a run of their passes, in any order
--   rounds_effect                     the same round by round
use Prim.Native.Nat.{ℕ, ◌+◌, ◌<◌}
use mathlib.Core.Path.{◌≡◌, refl, sym, ap, ap₂, subst, ◌∙◌}
use mathlib.Core.Logic.{inl, inr, ◌↔◌}
use mathlib.Core.Bool.{Bool, true, false, cond, false≢true}
use mathlib.Core.List.{List, [], ◌∷◌, ◌++◌}
use lib.ListN.{length}
use lib.Seq.{ext_get_or}
use Rattle.planes.specs.Lists.{at}
use Rattle.planes.specs.Neighbours.{Near}
use Rattle.planes.specs.Permutations.{Permutation}
use Rattle.planes.specs.Replies.{Reply}
use Rattle.planes.specs.declared.Shape.{Shape}
use Rattle.planes.proofs.Lists.{all_at, length_all}
use Rattle.planes.proofs.Permutations.{permutation_sym}
use Rattle.planes.proofs.Tests.{or_cases, or_none}
use Rattle.model.specs.declared.Pass.{Pass}
use Rattle.model.specs.Neighbourhoods.{pass_neighbours}
use Rattle.model.specs.Passes.{within, changes, kept_back, new_tone, component_count}
use Rattle.model.specs.Effects.{Effect, nothing, then, pass_effect, run_effect}
use Rattle.model.specs.Runs.{All, none, more, run}
use Rattle.model.specs.Calls.{Call, retoned_in, kept_in, total, AllAccepted}
use Rattle.model.proofs.Recursion.{all_append, all_map, effect_same, run_append}
use Rattle.passes.specs.Calls.{Sequence}
use Rattle.schedules.specs.Orders.{PairwiseDisjoint, passes_in, Answered}
use Rattle.schedules.specs.Copies.{Work, Worked, none, more, work_passes, WorkAnswered, now, later, work_total}
use Rattle.schedules.specs.Copies.{taken, handed_back, together, Rounds, none, more, rounds_total}
use Rattle.schedules.proofs.Orders.{all_permuted, all_parts, all_both, pairwise_permuted, pairwise_parts}
use Rattle.schedules.proofs.Orders.{Ordered, permuted_same}
use Rattle.schedules.proofs.Runs.{Ran, run_ran, sum_over, sum_append, total_first}
use Rattle.schedules.proofs.Calls.{sequence_run, answer_on, answered_has, all_answered, answered_is}

-- ## Intervals that have a value

-- what every pass with the value in its interval gives holds where one of the passes has it
taken_gives : {X : Type 0} (ss : List Pass) (v : ℕ) → taken ss v ≡ true → All (λ s. within s v ≡ true → X) ss → X
unfolding taken
taken_gives [] v e none = absurd (false≢true e)
taken_gives (s ∷ ss) v e (more f a) = elim (or_cases (within s v) (taken ss v) e) [
  | inl w ↦ f w
  | inr w ↦ taken_gives ss v w a
]

untaken : (ss : List Pass) (v : ℕ) → taken ss v ≡ false → All (λ s. within s v ≡ false) ss
unfolding taken
untaken [] v e = none
untaken (s ∷ ss) v e = let both = or_none (within s v) (taken ss v) e in more both.0 (untaken ss v both.1)

-- the pass of a call in a work has what all passes of the works have
work_has : {P : Pass → Type 0} {s : Pass} {reply : Reply} {ws : List Work} → WorkAnswered s reply ws
    → All P (work_passes ws) → P s
unfolding work_passes
work_has (now {w = w} y) a = answered_has y (all_parts (passes_in w.calls) a).0
work_has (later {w = w} y) a = work_has y (all_parts (passes_in w.calls) a).1

module _ (z : Shape) (p : List ℕ) where
  abbrev by : Pass → Near
  by = pass_neighbours z

  pub works_ordered : {ws : List Work} → Worked z p ws → All Ordered (work_passes ws)
  unfolding work_passes
  works_ordered none = none
  works_ordered (more S a W) = all_append (sequence_run z S a).0 (works_ordered W)

  -- ## The plane

  -- the copy of a work is the run of its passes
  work-ran : {cs : List Call} {rs : List Reply} {q : List ℕ} → Sequence z p cs rs q → AllAccepted rs
      → PairwiseDisjoint (passes_in cs) → Ran by (passes_in cs) p q
  work-ran {cs} S a d =
      let made = sequence_run z S a in
      subst (Ran by (passes_in cs) p) (ap (λ (e : Effect). e.plane) made.1)
      (run_ran by (passes_in cs) made.0 d p)

  -- a pixel of the sections of a work: its value in the copy, where q has the tones of the passes, and else the rest
  own-handed : (q : List ℕ) (i : ℕ) → i < length p → (w : Work) → Ran by (passes_in w.calls) p w.plane
      → All (λ s. within s (at p i) ≡ true → at q i ≡ new_tone (by s) s p i) (passes_in w.calls) → (rest : ℕ)
      → (All (λ s. within s (at p i) ≡ false) (passes_in w.calls) → at q i ≡ rest)
      → at q i ≡ cond (taken (passes_in w.calls) (at p i)) (at w.plane i) rest
  own-handed q i h w R tones rest other = go (taken (passes_in w.calls) (at p i)) refl
    where
      go : (t : Bool) → taken (passes_in w.calls) (at p i) ≡ t → at q i ≡ cond t (at w.plane i) rest
      go true e = taken_gives (passes_in w.calls) (at p i) e
          (all_both (λ s f g u. f u ∙ sym (g i h u)) tones R.sections)
      go false e = other (untaken (passes_in w.calls) (at p i) e)

  -- a plane that has the tones of all passes has at pixel i what is handed back
  handed : (q : List ℕ) (i : ℕ) → i < length p → {ws : List Work} → Worked z p ws → PairwiseDisjoint (work_passes ws)
      → All (λ s. within s (at p i) ≡ true → at q i ≡ new_tone (by s) s p i) (work_passes ws)
      → (All (λ s. within s (at p i) ≡ false) (work_passes ws) → at q i ≡ at p i)
      → at q i ≡ handed_back ws i (at p i)
  unfolding work_passes handed_back
  handed q i h none d tones rest = rest none
  handed q i h (more {w = w} {ws = ws} S a W) d tones rest =
      let own = passes_in w.calls in
      let apart = pairwise_parts own d in
      let parts = all_parts own tones in
      own-handed q i h w (work-ran S a apart.0) parts.0 (handed_back ws i (at p i))
      (λ n. handed q i h W apart.1 parts.1 (λ m. rest (all_append n m)))

  pub together_run : {ws : List Work} → Worked z p ws → PairwiseDisjoint (work_passes ws)
      → together ws p ≡ run by (work_passes ws) p
  unfolding together
  together_run {ws} W d = ext_get_or 0 _ _ (size ∙ sym R.size) (λ i h. pixel i (subst (i <◌) size h))
    where
      back : ℕ → ℕ
      back i = handed_back ws i (at p i)

      size : length (together ws p) ≡ length p
      size = length_all back (length p)

      R : Ran by (work_passes ws) p (run by (work_passes ws) p)
      R = run_ran by (work_passes ws) (works_ordered W) d p

      pixel : (i : ℕ) → i < length p → at (together ws p) i ≡ at (run by (work_passes ws) p) i
      pixel i h =
          all_at back (length p) i h
          ∙ sym (handed (run by (work_passes ws) p) i h W d
          (all_map (λ s f. f i h) R.sections) (R.elsewhere i h))

  -- ## Answers

  pub works_answered : {ws : List Work} → Worked z p ws → PairwiseDisjoint (work_passes ws)
      → All (λ s. WorkAnswered s (answer_on z p s) ws) (work_passes ws)
  unfolding work_passes
  works_answered none d = none
  works_answered (more {w = w} S a W) d =
      let apart = pairwise_parts (passes_in w.calls) d in
      all_append (all_map (λ s x. now x) (all_answered z S a apart.0))
      (all_map (λ s x. later x) (works_answered W apart.1))

  pub work_answered_is : {s : Pass} {reply : Reply} {ws : List Work} → Worked z p ws → PairwiseDisjoint (work_passes ws)
      → WorkAnswered s reply ws → reply ≡ answer_on z p s
  unfolding work_passes
  work_answered_is none d x = elim x [ ]
  work_answered_is (more {w = w} S a W) d (now y) =
      answered_is z S a (pairwise_parts (passes_in w.calls) d).0 y
  work_answered_is (more {w = w} S a W) d (later y) =
      work_answered_is W (pairwise_parts (passes_in w.calls) d).1 y

  -- the works and any sequence of their passes, from one plane
  module _ {ws : List Work} {cs : List Call} {rs : List Reply} {last : List ℕ} (W : Worked z p ws)
      (S : Sequence z p cs rs last) (a : AllAccepted rs) (d : PairwiseDisjoint (work_passes ws))
      (r : Permutation (work_passes ws) (passes_in cs)) where
    pub copies_plane : last ≡ together ws p
    copies_plane =
        let same = (permuted_same by r (works_ordered W) d).effects p in
        sym (together_run W d ∙ ap (λ (e : Effect). e.plane) (same ∙ (sequence_run z S a).1))

    pub copies_answers : (s : Pass) (reply : Reply) → WorkAnswered s reply ws ↔ Answered s reply cs rs
    copies_answers s reply = (
      (λ y. subst (λ (x : Reply). Answered s x cs rs) (sym (work_answered_is W d y))
          (work_has y (all_permuted (permutation_sym r) (all_answered z S a (pairwise_permuted r d))))),
      (λ y. subst (λ (x : Reply). WorkAnswered s x ws) (sym (answered_is z S a (pairwise_permuted r d) y))
          (answered_has y (all_permuted r (works_answered W d)))),
    )

  -- ## Counts

  -- one of both counts, of effects and of replies
  module _ (f : Pass → List ℕ → Bool) (k : Effect → ℕ) (c : Reply → ℕ)
      (of_pass : (s : Pass) (p : List ℕ) → k (pass_effect by s p) ≡ component_count (f s) (by s) s p)
      (of_none : (p : List ℕ) → k (nothing p) ≡ 0)
      (of-then : (d e : Effect) → k (then d e) ≡ k d + k e)
      (of-run : (cs : List Call) (rs : List Reply) (q : List ℕ) → Sequence z p cs rs q → AllAccepted rs
      → k (run_effect by (passes_in cs) p) ≡ total c rs) where
    abbrev each : Pass → ℕ
    each s = component_count (f s) (by s) s p

    works-sum : {ws : List Work} → Worked z p ws → PairwiseDisjoint (work_passes ws)
        → work_total c ws ≡ sum_over each (work_passes ws)
    unfolding work_total work_passes sum_over
    works-sum none d = refl
    works-sum (more {w = w} {ws = ws} S a W) d =
        let own = passes_in w.calls in
        let apart = pairwise_parts own d in
        ap₂ ◌+◌ (sym (of-run w.calls w.replies w.plane S a)
        ∙ total_first by f k of_pass of_none of-then own (sequence_run z S a).0 apart.0 p)
        (works-sum W apart.1)
        ∙ sym (sum_append each own (work_passes ws))

    works-count : {ws : List Work} → Worked z p ws → PairwiseDisjoint (work_passes ws)
        → k (run_effect by (work_passes ws) p) ≡ work_total c ws
    works-count {ws} W d =
        total_first by f k of_pass of_none of-then (work_passes ws) (works_ordered W) d p ∙ sym (works-sum W d)

  works-effect : {ws : List Work} → Worked z p ws → PairwiseDisjoint (work_passes ws)
      → run_effect by (work_passes ws) p
      ≡ record { plane = together ws p; retoned = work_total retoned_in ws; kept = work_total kept_in ws }
  works-effect W d = effect_same (sym (together_run W d))
      (works-count changes (λ e. e.retoned) retoned_in (λ s q. refl) (λ q. refl) (λ x y. refl)
      (λ cs rs q S a. ap (λ (e : Effect). e.retoned) (sequence_run z S a).1) W d)
      (works-count kept_back (λ e. e.kept) kept_in (λ s q. refl) (λ q. refl) (λ x y. refl)
      (λ cs rs q S a. ap (λ (e : Effect). e.kept) (sequence_run z S a).1) W d)

  pub copies_effect : {ws : List Work} {ss : List Pass} → Worked z p ws → Permutation (work_passes ws) ss
      → PairwiseDisjoint ss
      → run_effect by ss p
      ≡ record { plane = together ws p; retoned = work_total retoned_in ws; kept = work_total kept_in ws }
  copies_effect W r d =
      let apart = pairwise_permuted (permutation_sym r) d in
      sym ((permuted_same by r (works_ordered W) apart).effects p) ∙ works-effect W apart

-- ## Round by round

-- the passes of all rounds, one round after the other
unfoldable pub joined_rounds : List (List Pass) → List Pass
joined_rounds [] = []
joined_rounds (ss ∷ sss) = ss ++ joined_rounds sss

-- in each round they are pairwise disjoint
pub data EachDisjoint : List (List Pass) → Type 0 where
  no_round : EachDisjoint []
  round : {ss : List Pass} {sss : List (List Pass)} → PairwiseDisjoint ss → EachDisjoint sss → EachDisjoint (ss ∷ sss)

pub rounds_effect : {z : Shape} {sss : List (List Pass)} {wss : List (List Work)} {p q : List ℕ}
    → Rounds z sss wss p q → EachDisjoint sss
    → run_effect (pass_neighbours z) (joined_rounds sss) p
    ≡ record { plane = q; retoned = rounds_total retoned_in wss; kept = rounds_total kept_in wss }
unfolding joined_rounds rounds_total run_effect
rounds_effect none no_round = refl
rounds_effect {z} {p = p} (more {ss = ss} {sss = sss} {ws = ws} W r R) (round d e) =
    let by = pass_neighbours z in
    let now : Effect =
    record { plane = together ws p; retoned = work_total retoned_in ws; kept = work_total kept_in ws } in
    run_append by ss (joined_rounds sss) p
    ∙ ap (λ (x : Effect). then x (run_effect by (joined_rounds sss) x.plane)) (copies_effect z p W r d)
    ∙ ap (then now) (rounds_effect R e)
