-- The passes of an enhancement are a list. Run on a plane, as the intensity of a frame, they give the plane and both
-- counts of the enhancement: level by level, and also in the order of the recursion, each section before its lower and
-- its upper half. In memory and as a file of version 2 with 4 and with 8 neighbours, as a file of version 1 with 4.
-- Assumes nothing.
--
--   Sections                  some passes are the sections of an enhancement, in an order that has the same effect
--   by_levels, by_recursion   level by level they are, and in the order of the recursion: 1 for level 0 alone, 255 for
--                             all levels
--   Accepted                  settings that are not refused
--   sections_few              so there are few, and a list may have as many
--   sections_accepted         they are not refused in memory
--   sections_stored           nor as a file, which is read as these passes
--   memory_enhances           the outcome of the list in memory is the enhancement's plane and counts
--   file_enhances             so is that of the file
use Prim.Native.Nat.{ℕ, zero, suc, ◌+◌, ◌-◌, ◌*◌, ◌^◌, ◌≤◌, ◌<◌}
use mathlib.Core.Path.{◌≡◌, refl, sym, ap, ap₂, subst, ◌∙◌}
use mathlib.Core.Logic.{◌⊎◌, inl, inr}
use mathlib.Core.Bool.{Bool, ◌||◌}
use mathlib.Core.List.{List, [], ◌∷◌, map}
use native.Mathlib.Nat.{mul-le-mul, suc-mul, le_refl}
use native.Mathlib.Omega.{arith}
use lib.Pow.{pow-add, pow_mono, pow_pos}
use lib.ListN.{length}
use lib.Dec.{ltb, eqb}
use borrow.Author.Tests.{le-ltb, ltb-false}
use Rattle.planes.specs.Lists.{from}
use Rattle.planes.specs.Refusals.{when, ◌▷◌, greatest_pixels}
use Rattle.planes.specs.Shapes.{pixels, lent_refusal}
use Rattle.planes.specs.declared.Shape.{Shape}
use Rattle.planes.specs.Replies.{Reply, gives, replied, after}
use Rattle.planes.proofs.Tests.{or_none}
use Rattle.planes.proofs.Refusals.{when_none}
use Rattle.planes.proofs.Shapes.{lent_fits, lent_none}
use Rattle.tones.specs.declared.Rule.{Rule}
use Rattle.model.specs.declared.Pass.{Pass}
use Rattle.tones.specs.Refusals.{rule_refusal}
use Rattle.model.specs.Neighbourhoods.{pass_neighbours}
use Rattle.model.specs.Effects.{Effect, counts, run_effect, Same}
use Rattle.model.specs.Calls.{area_refusal, neighbour_refusal, numbers_refusal, pass_refusal, chain_effect}
use Rattle.model.specs.Runs.{All, none, more}
use Rattle.model.specs.Enhancement.{section, level, levels, passes, enhanced, call_of, deep, recursive}
use Rattle.model.proofs.Recursion.{all_append, all_map, double, recursion_listed}
use Rattle.model.proofs.Enhancement.{start_runs}
use Rattle.tones.specs.Numbers.{RuleFits}
use Rattle.tones.proofs.Numbers.{accepted_fits}
use Rattle.listformat.specs.declared.Edition.{Edition}
use Rattle.listformat.specs.Format.{passes_of, greatest_count, encode, NeighboursFit, Storable}
use Rattle.listformat.proofs.Format.{passes_encode}
use Rattle.listchecks.specs.Refusals.{first_refusal, list_refusal, passes_refusal}
use Rattle.listchecks.proofs.Refusals.{encoded_refusal}
use Rattle.passlists.specs.Outcomes.{run_passes_refusal, ListOutcome, PassesOutcome}
use Rattle.passlists.proofs.Lists.{same_outcomes}

-- ## The sections

-- a pass with the rule and the number of neighbours, and with area 1 or the given one, on an interval of bytes
pub record Proper (area : ℕ) (rule : Rule) (number : ℕ) (s : Pass) : Type 0 where
  pub order : s.a ≤ s.b
  pub top : s.b < 256
  pub area_is : (s.area ≡ 1) ⊎ (s.area ≡ area)
  pub rule_is : s.rule ≡ rule
  pub number_is : s.neighbours ≡ number

module _ (area : ℕ) (rule : Rule) (number : ℕ) where
  -- the first j sections of level l end at 256 or before
  ends : (l j : ℕ) → l ≤ 8 → j ≤ 2 ^ l → j * 2 ^ (8 - l) ≤ 256
  ends l j deep h =
      let sum : l + (8 - l) ≡ 8 = omega arith in
      let all : 2 ^ l * 2 ^ (8 - l) ≡ 256 = sym (pow-add 2 l (8 - l)) ∙ ap (2 ^◌) sum in
      subst (j * 2 ^ (8 - l) ≤◌) all (mul-le-mul {n₂ = 2 ^ l} {m₂ = 2 ^ (8 - l)} h (le_refl (2 ^ (8 - l))))

  -- a section that ends at 256 or before, with either area
  proper-at : (used a width : ℕ) → (used ≡ 1) ⊎ (used ≡ area) → 0 < width → a + width ≤ 256
      → Proper area rule number (section used rule number a width)
  unfolding section
  proper-at used a width is some h = record {
    order = omega arith;
    top = omega arith;
    area_is = is;
    rule_is = refl;
    number_is = refl;
  }

  -- section j of level l
  proper-section : (used l j : ℕ) → (used ≡ 1) ⊎ (used ≡ area) → l ≤ 8 → j < 2 ^ l
      → Proper area rule number (section used rule number (j * 2 ^ (8 - l)) (2 ^ (8 - l)))
  proper-section used l j is deep h =
      let end = subst (◌≤ 256) (suc-mul j (2 ^ (8 - l))) (ends l (suc j) deep h) in
      proper-at used (j * 2 ^ (8 - l)) (2 ^ (8 - l)) is (pow_pos (8 - l)) end

  proper-level : (used l : ℕ) → (used ≡ 1) ⊎ (used ≡ area) → l ≤ 8
      → All (Proper area rule number) (level l used rule number)
  unfolding level
  proper-level used l is deep = go 0 (2 ^ l) (omega arith)
    where
      go : (j m : ℕ) → j + m ≤ 2 ^ l
          → All (Proper area rule number)
          (map (λ i. section used rule number (i * 2 ^ (8 - l)) (2 ^ (8 - l))) (from j m))
      go j zero h = none
      go j (suc m) h = more (proper-section used l j is deep (omega arith)) (go (suc j) m (omega arith))

  proper-levels : (i m : ℕ) → i + m ≤ 9 → All (Proper area rule number) (levels (from i m) area rule number)
  unfolding levels
  proper-levels i zero h = none
  proper-levels i (suc m) h =
      all_append (proper-level area i (inr refl) (omega arith)) (proper-levels (suc i) m (omega arith))

  proper : (last : ℕ) → last ≤ 7 → All (Proper area rule number) (passes last area rule number)
  unfolding passes
  proper last h = all_append (proper-level 1 0 (inl refl) (omega arith)) (proper-levels 1 last (omega arith))

  -- a section of the recursion and those below it
  proper-deep : (k d a : ℕ) → a + 2 ^ (d + k) ≤ 256 → All (Proper area rule number) (deep k area rule number d a)
  unfolding deep
  proper-deep k zero a h = more (proper-at area a (2 ^ (0 + k)) (inr refl) (pow_pos (0 + k)) h) none
  proper-deep k (suc d) a h =
      let halves = double d k in
      more (proper-at area a (2 ^ (suc d + k)) (inr refl) (pow_pos (suc d + k)) h)
      (all_append (proper-deep k d a (omega arith)) (proper-deep k d (a + 2 ^ (d + k)) (omega arith)))

  proper-recursive : (last : ℕ) → last ≤ 7 → All (Proper area rule number) (recursive last area rule number)
  unfolding recursive
  proper-recursive zero h = more (proper-at 1 0 256 (inl refl) (omega arith) (omega arith)) none
  proper-recursive (suc m) h =
      let sum : m + (7 - m) ≡ 7 = omega arith in
      let half : 2 ^ (m + (7 - m)) ≡ 128 = ap (2 ^◌) sum in
      more (proper-at 1 0 256 (inl refl) (omega arith) (omega arith))
      (all_append (proper-deep (7 - m) m 0 (omega arith))
      (proper-deep (7 - m) m (0 + 2 ^ (m + (7 - m))) (omega arith)))

-- how many there are, and that they are proper, in an order that has the same effect as level by level
pub record Sections (last area : ℕ) (rule : Rule) (number : ℕ) (ss : List Pass) : Type 0 where
  pub size : length ss + 1 ≡ 2 ^ (last + 1)
  pub each : All (Proper area rule number) ss
  pub same : (z : Shape) → Same (pass_neighbours z) ss (passes last area rule number)

sizes : (last area : ℕ) (rule : Rule) (number : ℕ) → last ≤ 7
    → (length (passes last area rule number) + 1 ≡ 2 ^ (last + 1))
    × (length (recursive last area rule number) + 1 ≡ 2 ^ (last + 1))
unfolding passes level levels recursive deep section
sizes zero area rule number h = (refl, refl)
sizes (suc zero) area rule number h = (refl, refl)
sizes (suc (suc zero)) area rule number h = (refl, refl)
sizes (suc (suc (suc zero))) area rule number h = (refl, refl)
sizes (suc (suc (suc (suc zero)))) area rule number h = (refl, refl)
sizes (suc (suc (suc (suc (suc zero))))) area rule number h = (refl, refl)
sizes (suc (suc (suc (suc (suc (suc zero)))))) area rule number h = (refl, refl)
sizes (suc (suc (suc (suc (suc (suc (suc zero))))))) area rule number h = (refl, refl)
sizes (suc (suc (suc (suc (suc (suc (suc (suc l)))))))) area rule number h = absurd (omega arith)

module _ (last area : ℕ) (rule : Rule) (number : ℕ) (levels-fine : last ≤ 7) where
  pub by_levels : Sections last area rule number (passes last area rule number)
  by_levels = record {
    size = (sizes last area rule number levels-fine).0;
    each = proper area rule number last levels-fine;
    same = λ z. record { effects = λ p. refl };
  }

  pub by_recursion : Sections last area rule number (recursive last area rule number)
  by_recursion = record {
    size = (sizes last area rule number levels-fine).1;
    each = proper-recursive area rule number last levels-fine;
    same = λ z. recursion_listed (pass_neighbours z) last area rule number levels-fine;
  }

-- ## Their numbers are accepted, and fit

small : (used : ℕ) → area_refusal used ≡ 0 → used < 4294967296
unfolding area_refusal
small used e =
    let none = when_none (eqb used 0 || ltb greatest_pixels used) 5 e in
    let tests = or_none (eqb used 0) (ltb greatest_pixels used) none in
    omega (arith, ltb-false greatest_pixels used tests.1)

module _ (area : ℕ) (rule : Rule) (number : ℕ) (area_fine : area_refusal area ≡ 0) (rule_fine : rule_refusal rule ≡ 0)
  where
    accepted-area : (used : ℕ) → (used ≡ 1) ⊎ (used ≡ area) → area_refusal used ≡ 0
    unfolding area_refusal
    accepted-area used (inl e) = ap area_refusal e
    accepted-area used (inr e) = ap area_refusal e ∙ area_fine

    accepted-pass : neighbour_refusal number ≡ 0 → (s : Pass) → Proper area rule number s → numbers_refusal s ≡ 0
    unfolding numbers_refusal
    accepted-pass number_fine s p =
        ap₂ (λ (t : Bool) (k : ℕ). when t 5 ▷ k ▷ rule_refusal s.rule ▷ neighbour_refusal s.neighbours)
        (le-ltb s.b s.a p.order) (accepted-area s.area p.area_is)
        ∙ ap₂ ◌▷◌ (ap rule_refusal p.rule_is ∙ rule_fine) (ap neighbour_refusal p.number_is ∙ number_fine)

    storable-pass : (e : Edition) → NeighboursFit e number → (s : Pass) → Proper area rule number s → Storable e s
    storable-pass e fits s p = record {
      a_fits = omega (arith, p.order, p.top);
      b_fits = p.top;
      area_fits = small s.area (accepted-area s.area p.area_is);
      rule_fits = subst RuleFits (sym p.rule_is) (accepted_fits rule rule_fine);
      neighbours_fit = subst (NeighboursFit e) (sym p.number_is) fits;
    }

-- ## The list

first_fine : (ss : List Pass) → All (λ s. numbers_refusal s ≡ 0) ss → first_refusal (map numbers_refusal ss) ≡ 0
first_fine [] none = refl
first_fine (s ∷ ss) (more e a) = ap₂ ◌▷◌ e (first_fine ss a)

-- room for n pixels is enough
enough : (z : Shape) (plane marks queue : ℕ) → lent_refusal z plane marks queue ≡ 0
    → lent_refusal z (pixels z) (pixels z) (pixels z) ≡ 0
enough z plane marks queue e = lent_none z (pixels z) (pixels z) (pixels z) (record {
  size = (lent_fits z plane marks queue e).size;
  whole = refl;
  covered = le_refl (pixels z);
  spare = le_refl (pixels z);
})

-- settings that are not refused
pub record Accepted (last area : ℕ) (rule : Rule) (number : ℕ) : Type 0 where
  pub last_fine : last ≤ 7
  pub area_fine : area_refusal area ≡ 0
  pub rule_fine : rule_refusal rule ≡ 0
  pub number_fine : neighbour_refusal number ≡ 0

module _ {last area : ℕ} {rule : Rule} {number : ℕ} (A : Accepted last area rule number) {ss : List Pass}
    (S : Sections last area rule number ss) where
  pub sections_few : length ss ≤ 255
  sections_few =
      let most : 2 ^ (last + 1) ≤ 256 = pow_mono {i = last + 1} {j = 8} (omega (arith, A.last_fine)) in
      omega (arith, S.size)

  each-fine : {ps : List Pass} → All (Proper area rule number) ps → All (λ s. numbers_refusal s ≡ 0) ps
  each-fine = all_map (accepted-pass area rule number A.area_fine A.rule_fine A.number_fine)

  pub sections_accepted : passes_refusal ss ≡ 0
  unfolding passes_refusal
  sections_accepted =
      ap₂ (λ (t : Bool) (k : ℕ). when t 16 ▷ k) (le-ltb greatest_count (length ss) (omega (arith, sections_few)))
      (first_fine ss (each-fine S.each))

  -- ## As a file: in version 2 by either number, in version 1 by 4

  module _ (e : Edition) (fits : NeighboursFit e number) where
    storable : All (Storable e) ss
    storable = all_map (storable-pass area rule number A.area_fine A.rule_fine e fits) S.each

    told : length ss < 65536
    told = omega (arith, sections_few)

    pub sections_stored : (list_refusal (encode e ss) ≡ 0) × (passes_of (encode e ss) ≡ ss)
    sections_stored = (encoded_refusal e ss told storable ∙ sections_accepted, (passes_encode e ss told storable).0)

  -- ## Runs

  module _ (z : Shape) (plane marks queue : List ℕ)
      (lent-fine : lent_refusal z (length plane) (length marks) (length queue) ≡ 0) where
    -- the enhancement's plane and counts
    abbrev Enhances : Reply → List ℕ → Type 0
    Enhances reply plane' =
        (plane' ≡ (enhanced z plane last area rule number).plane)
        × (reply ≡ gives (counts (chain_effect (enhanced z plane last area rule number))))

    -- the model's enhancement is the run of the sections
    enhancement-runs : chain_effect (enhanced z plane last area rule number)
        ≡ run_effect (pass_neighbours z) (passes last area rule number) plane
    unfolding enhanced call_of pass_refusal
    enhancement-runs =
        let whole = (lent_fits z (length plane) (length marks) (length queue) lent-fine).whole in
        let room = enough z (length plane) (length marks) (length queue) lent-fine in
        let fine = each-fine (proper area rule number last A.last_fine) in
        start_runs z (passes last area rule number) (all_map (λ s y. ap₂ ◌▷◌ room y) fine) plane whole

    pub memory_enhances : (reply : Reply) (plane' marks' queue' : List ℕ)
        → PassesOutcome z ss plane marks queue reply plane' marks' queue' → Enhances reply plane'
    memory_enhances reply plane' marks' queue' out =
        let refusal : run_passes_refusal z ss plane marks queue ≡ 0 = ap₂ ◌▷◌ lent-fine sections_accepted in
        let same = (S.same z).effects plane ∙ sym enhancement-runs in (
          out.plane_is ∙ ap₂ (λ (k : ℕ) (e : Effect). after k plane e.plane) refusal same,
          out.answer ∙ ap₂ (λ (k : ℕ) (e : Effect). replied k (counts e)) refusal same,
        )

    -- a file has the outcome of the list in memory
    pub file_enhances : (e : Edition) → NeighboursFit e number → (reply : Reply) (plane' marks' queue' : List ℕ)
        → ListOutcome z (encode e ss) plane marks queue reply plane' marks' queue' → Enhances reply plane'
    file_enhances e fits reply plane' marks' queue' out =
        memory_enhances reply plane' marks' queue' (subst (λ (T : Type 0). T)
        (same_outcomes e ss (told e fits) (storable e fits) z plane marks queue reply plane' marks' queue') out)
