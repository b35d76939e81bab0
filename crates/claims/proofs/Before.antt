-- By 4 neighbours passes and enhancements are what they were before there was a choice: their effects are those by the
-- four neighbours, and 19 does not apply. So are lists in files that do not name version 2. Lists of few passes are
-- refused as when a list might have more of them, and those of many get 16. Assumes nothing.
use Prim.Native.Nat.{ℕ, ◌≤◌, ◌<◌}
use mathlib.Core.Path.{◌≡◌, refl, sym, ap, ap₂, ◌∙◌}
use mathlib.Core.Bool.{Bool, true, false, not, cond, ◌||◌, or-false, or-true}
use mathlib.Core.List.{List, [], ◌∷◌, map}
use native.Mathlib.Omega.{arith}
use lib.ListN.{length}
use lib.Dec.{ltb, eqb}
use borrow.Author.Tests.{le-ltb, lt-ltb, ne_eqb}
use Rattle.planes.specs.Refusals.{when, ◌▷◌, output_refusal}
use Rattle.planes.specs.Lists.{from, at}
use Rattle.planes.specs.Neighbours.{Near}
use Rattle.planes.specs.Shapes.{neighbours, adjacency}
use Rattle.planes.specs.declared.Shape.{Shape}
use Rattle.planes.proofs.Refusals.{▷_last}
use Rattle.planes.proofs.Shapes.{adjacency_other}
use Rattle.tones.specs.Refusals.{rule_refusal}
use Rattle.tones.specs.Numbers.{malformed}
use Rattle.colours.specs.Frames.{intensity}
use Rattle.model.specs.declared.Pass.{Pass}
use Rattle.model.specs.Neighbourhoods.{pass_neighbours}
use Rattle.model.specs.Effects.{pass_effect, run_effect, always}
use Rattle.model.specs.Runs.{All, Carries, none, more}
use Rattle.model.specs.Published.{published}
use Rattle.model.specs.Calls.{interval_refusal, area_refusal, neighbour_refusal, numbers_refusal}
use Rattle.model.proofs.Neighbourhoods.{pass_by, four_accepted}
use Rattle.model.proofs.Connected.{run_carries}
use Rattle.levels.specs.declared.Settings.{Settings}
use Rattle.levels.specs.Levels.{level_refusal, settings_refusal}
use Rattle.enhance.specs.Published.{published_of}
use Rattle.listformat.specs.declared.Edition.{Edition}
use Rattle.listformat.specs.declared.Edition.TheVariants.{First, Second}
use Rattle.listformat.specs.Format.{other, version, head_length, record_start, version_of, count_of, edition_of}
use Rattle.listformat.specs.Format.{numbers_at}
use Rattle.listformat.specs.Format.{pass_at}
use Rattle.listformat.specs.Format.{passes_of, greatest_count, misnamed, miscounted, head_refusal}
use Rattle.listchecks.specs.Refusals.{first_refusal, record_refusal, record_refusals, list_refusal, passes_refusal}
use Rattle.listchecks.specs.Refusals.{places_refusal}
use Rattle.conversion.specs.Conversion.{converted, convert_refusal}
use Rattle.claims.specs.Before.{numbers_before, settings_before, start_before, pass_before, record_before, head_before}
use Rattle.claims.specs.Before.{list_before, passes_before, greatest_before, list_within, passes_within}

-- the four neighbours are those by 4
pub by_four : (z : Shape) → adjacency z 4 ≡ neighbours z
by_four z = adjacency_other z 4 refl

pub numbers_before_lem : (s : Pass) → Carries 4 s → numbers_refusal s ≡ numbers_before s
unfolding numbers_refusal
numbers_before_lem s e =
    ap (λ (k : ℕ). interval_refusal s.a s.b ▷ area_refusal s.area ▷ k)
    (▷_last (rule_refusal s.rule) (neighbour_refusal s.neighbours) (four_accepted e))

pub settings_before_lem : (t : Settings) → t.neighbours ≡ 4 → settings_refusal t ≡ settings_before t
unfolding settings_refusal
settings_before_lem t e =
    ap (λ (k : ℕ). level_refusal t.last ▷ area_refusal t.area ▷ k)
    (▷_last (rule_refusal t.rule) (neighbour_refusal t.neighbours) (four_accepted e))

pub pass_before_lem : (z : Shape) (s : Pass) (plane : List ℕ) → Carries 4 s
    → pass_effect (pass_neighbours z) s plane ≡ pass_effect (always (neighbours z)) s plane
pass_before_lem z s plane e = ap (λ (near : Near). pass_effect (always near) s plane) (pass_by z s e ∙ by_four z)

-- ## How many passes a list may have

-- the limit does not matter to lists that keep to it
within_both : (m n : ℕ) (bs : List ℕ) → count_of bs ≤ m → count_of bs ≤ n → list_within m bs ≡ list_within n bs
within_both m n bs h k =
    let odd = not (eqb (length bs) (record_start (edition_of bs) (count_of bs))) in
    ap (λ (t : Bool). (when (ltb (length bs) head_length) 16 ▷ when (misnamed bs) 15 ▷ when (t || odd) 16)
    ▷ first_refusal (record_refusals bs))
    (le-ltb m (count_of bs) h ∙ sym (le-ltb n (count_of bs) k))

pub few_listed : (list : List ℕ) → count_of list ≤ greatest_count → list_refusal list ≡ list_within greatest_before list
unfolding list_refusal head_refusal miscounted
few_listed list h = within_both greatest_count greatest_before list h (omega (arith, h))

pub few_passes : (ss : List Pass) → length ss ≤ greatest_count → passes_refusal ss ≡ passes_within greatest_before ss
unfolding passes_refusal
few_passes ss h =
    ap (λ (t : Bool). when t 16 ▷ first_refusal (map numbers_refusal ss))
    (le-ltb greatest_count (length ss) h ∙ sym (le-ltb greatest_before (length ss) (omega (arith, h))))

pub many_listed : (list : List ℕ) → greatest_count < count_of list → head_length ≤ length list → misnamed list ≡ false
    → list_refusal list ≡ 16
unfolding list_refusal head_refusal miscounted
many_listed list h long named =
    let odd = not (eqb (length list) (record_start (edition_of list) (count_of list))) in
    let records = first_refusal (record_refusals list) in
    ap₂ (λ (s t : Bool). (when s 16 ▷ when t 15 ▷ when (ltb greatest_count (count_of list) || odd) 16) ▷ records)
    (le-ltb (length list) head_length long) named
    ∙ ap (λ (t : Bool). when (t || odd) 16 ▷ records) (lt-ltb greatest_count (count_of list) h)

pub many_passes : (ss : List Pass) → greatest_count < length ss → passes_refusal ss ≡ 16
unfolding passes_refusal
many_passes ss h =
    ap (λ (t : Bool). when t 16 ▷ first_refusal (map numbers_refusal ss)) (lt-ltb greatest_count (length ss) h)

-- what a list is refused for, its conversion is refused for
pub convert_by : (list : List ℕ) {number : ℕ} → list_refusal list ≡ number → (output : ℕ) → convert_refusal list output
    ≡ number ▷ places_refusal (other (edition_of list)) (passes_of list)
    ▷ output_refusal output (length (converted list))
unfolding convert_refusal
convert_by list e output =
    ap (λ (k : ℕ). k ▷ places_refusal (other (edition_of list)) (passes_of list)
    ▷ output_refusal output (length (converted list))) e

-- ## Lists in files

-- a list that does not name version 2 is of version 1
of_first : (list : List ℕ) → (version_of list ≡ 2 → ⊥) → edition_of list ≡ First
unfolding edition_of
of_first list other = ap (λ (t : Bool). cond t Second First) (ne_eqb (version_of list) 2 other)

-- the head, a record and all records of a list, were it of this edition
abbrev head_in : Edition → List ℕ → ℕ
head_in e bs =
    when (ltb (length bs) 7) 16
    ▷ when (not (eqb (at bs 0) 77) || not (eqb (at bs 1) 76) || not (eqb (at bs 2) 80)
    || not (eqb (version_of bs) (version e))) 15
    ▷ when (ltb greatest_before (count_of bs) || not (eqb (length bs) (record_start e (count_of bs)))) 16

record-before : (bs : List ℕ) (i : ℕ) → record_refusal First bs i ≡ record_before bs i
unfolding record_refusal pass_at
record-before bs i =
    ap₂ (λ (t : Bool) (k : ℕ). when t 17 ▷ k) (or-false (malformed (numbers_at bs i)))
    (numbers_before_lem (pass_before bs i) refl)

records_before : (bs js : List ℕ)
    → map (λ j. record_refusal First bs (record_start First j)) js ≡ map (λ j. record_before bs (start_before j)) js
records_before bs [] = refl
records_before bs (j ∷ js) = ap₂ ◌∷◌ (record-before bs (start_before j)) (records_before bs js)

version_before : (list : List ℕ) → (version_of list ≡ 2 → ⊥) → list_within greatest_before list ≡ list_before list
unfolding misnamed record_refusals
version_before list other =
    ap (λ (e : Edition). head_in e list
    ▷ first_refusal (map (λ j. record_refusal e list (record_start e j)) (from 0 (count_of list))))
    (of_first list other)
    ∙ ap (λ (ks : List ℕ). head_before list ▷ first_refusal ks) (records_before list (from 0 (count_of list)))

pub refusal_before : (list : List ℕ) → (version_of list ≡ 2 → ⊥) → count_of list ≤ greatest_count
    → list_refusal list ≡ list_before list
refusal_before list other h = few_listed list h ∙ version_before list other

passes_before_lem : (list : List ℕ) → (version_of list ≡ 2 → ⊥) → passes_of list ≡ passes_before list
unfolding passes_of pass_at
passes_before_lem list other =
    ap (λ (e : Edition). map (λ j. pass_at e list (record_start e j)) (from 0 (count_of list))) (of_first list other)

before_carries : (list : List ℕ) → All (Carries 4) (passes_before list)
before_carries list = go (from 0 (count_of list))
  where
    go : (js : List ℕ) → All (Carries 4) (map (λ j. pass_before list (start_before j)) js)
    go [] = none
    go (j ∷ js) = more refl (go js)

pub list_before_lem : (z : Shape) (list plane : List ℕ) → (version_of list ≡ 2 → ⊥)
    → run_effect (pass_neighbours z) (passes_of list) plane
    ≡ run_effect (always (neighbours z)) (passes_before list) plane
list_before_lem z list plane other =
    ap (λ (ss : List Pass). run_effect (pass_neighbours z) ss plane) (passes_before_lem list other)
    ∙ run_carries z 4 (before_carries list) plane
    ∙ ap (λ (near : Near). run_effect (always near) (passes_before list) plane) (by_four z)

-- version 2 got 15
pub second_before : (list : List ℕ) → version_of list ≡ 2 → head_length ≤ length list → list_before list ≡ 15
second_before list named long =
    let mark = not (eqb (at list 0) 77) || not (eqb (at list 1) 76) || not (eqb (at list 2) 80) in
    let unknown : not (eqb (version_of list) 1) ≡ true = ap (λ (n : ℕ). not (eqb n 1)) named in
    let misnamed = ap (mark ||◌) unknown ∙ or-true mark in
    ap₂ (λ (s t : Bool). (when s 16 ▷ when t 15
    ▷ when (ltb greatest_before (count_of list) || not (eqb (length list) (start_before (count_of list)))) 16)
    ▷ first_refusal (map (λ j. record_before list (start_before j)) (from 0 (count_of list))))
    (le-ltb (length list) head_length long) misnamed

pub enhance_before : (z : Shape) (t : Settings) (frame : List ℕ) → t.neighbours ≡ 4
    → published_of z t frame ≡ published (neighbours z) t.last t.area t.rule (intensity frame)
enhance_before z t frame e =
    ap (λ (near : Near). published near t.last t.area t.rule (intensity frame))
    (ap (adjacency z) e ∙ by_four z)
