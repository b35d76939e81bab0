-- A list of bytes and its passes in memory meet with the same refusals. Assumes nothing.
--
--   records_length, records_at, record_told   the refusals of a list's records, one for each
--   decoded_refusal   a list that is read meets with the refusal of its passes
--   formed_each       no record of a list that is not refused is malformed
--   accepted_list     a list that is not refused is read, and its passes are not refused
--   encoded_refusal   passes that are written, in either edition, meet with the refusal that they meet with in memory
--   places_second     version 2 has a place for every pass
--   passes_at, passes_length   the refusals of passes in memory
--   places_length, places_at   the refusals of a list's passes by their places, one for each
use Prim.Native.Nat.{ℕ, zero, suc, ◌≤◌, ◌<◌}
use mathlib.Core.Path.{◌≡◌, refl, sym, ap, ap₂, subst, ◌∙◌}
use mathlib.Core.Bool.{Bool, true, false, not, cond, ◌&&◌}
use mathlib.Core.List.{List, [], ◌∷◌, map}
use mathlib.Core.Option.{none, some}
use mathlib.Mathlib.Data.Bool.Basic.{and_elim_left, and_elim_right, and_intro}
use native.Mathlib.Omega.{arith}
use lib.ListN.{length, get_or, length-map}
use lib.Dec.{ltb, eqb}
use borrow.Author.Tests.{le-ltb, eq-eqb, not-true}
use Rattle.planes.specs.Lists.{from, every, at}
use Rattle.planes.specs.Refusals.{when, ◌▷◌}
use Rattle.planes.proofs.Lists.{all_at, length_all}
use Rattle.planes.proofs.Refusals.{when_none, ▷_none}
use Rattle.model.specs.declared.Pass.{Pass}
use Rattle.model.specs.Calls.{numbers_refusal}
use Rattle.model.specs.Runs.{All}
use Rattle.listformat.specs.declared.Edition.{Edition}
use Rattle.listformat.specs.declared.Edition.TheVariants.{Second}
use Rattle.listformat.specs.Format.{edition_of, record_start, count_of, pass_here, passes_of, greatest_count}
use Rattle.listformat.specs.Format.{malformed_at, form_at, pass_at}
use Rattle.listformat.specs.Format.{well, head_refusal, decode, encode, Storable}
use Rattle.listformat.proofs.Format.{headed, decoded, length_passes_of, head_encode, passes_encode}
use Rattle.listchecks.specs.Refusals.{first_refusal, record_refusal, record_refusals, list_refusal}
use Rattle.listchecks.specs.Refusals.{passes_refusal, place_refusal, places_refusal}
use Rattle.listchecks.proofs.First.{clear_each}

module _ (bs : List ℕ) where
  abbrev refusal_here : ℕ → ℕ
  refusal_here j = record_refusal (edition_of bs) bs (record_start (edition_of bs) j)

  abbrev bad : ℕ → Bool
  bad j = malformed_at (edition_of bs) bs (record_start (edition_of bs) j)

  pub records_length : length (record_refusals bs) ≡ count_of bs
  unfolding record_refusals
  records_length = length_all refusal_here (count_of bs)

  pub records_at : (j : ℕ) → j < count_of bs → at (record_refusals bs) j ≡ refusal_here j
  unfolding record_refusals
  records_at j h = all_at refusal_here (count_of bs) j h

  -- the refusal of a record, by where it starts
  pub record_told : (j : ℕ) → j < count_of bs → {e : Edition} {i : ℕ} → e ≡ edition_of bs → i ≡ record_start e j
      → form_at e bs i ▷ numbers_refusal (pass_at e bs i) ≡ at (record_refusals bs) j
  unfolding record_refusal
  record_told j h {e} {i} d f =
      let start : i ≡ record_start (edition_of bs) j = f ∙ ap (λ (e : Edition). record_start e j) d in
      ap₂ (λ (e : Edition) (i : ℕ). form_at e bs i ▷ numbers_refusal (pass_at e bs i)) d start ∙ sym (records_at j h)

  -- a record that is not malformed meets with the refusal of its pass
  refusal-formed : (j : ℕ) → well bs j ≡ true → refusal_here j ≡ numbers_refusal (pass_here bs j)
  unfolding record_refusal
  refusal-formed j e =
      ap (λ (t : Bool). when t 17 ▷ numbers_refusal (pass_here bs j)) (not-true (bad j) e)

  refusals-formed : (js : List ℕ) → every (well bs) js ≡ true
      → map refusal_here js ≡ map numbers_refusal (map (pass_here bs) js)
  refusals-formed [] e = refl
  refusals-formed (j ∷ js) e =
      ap₂ ◌∷◌ (refusal-formed j (and_elim_left (well bs j) (every (well bs) js) e))
      (refusals-formed js (and_elim_right (well bs j) (every (well bs) js) e))

  -- the records' refusals are those of the passes
  pub records_passes : every (well bs) (from 0 (count_of bs)) ≡ true
      → record_refusals bs ≡ map numbers_refusal (passes_of bs)
  unfolding record_refusals passes_of
  records_passes = refusals-formed (from 0 (count_of bs))

  -- records that are not refused are not malformed
  unrefused : (js : List ℕ) → first_refusal (map refusal_here js) ≡ 0 → every (well bs) js ≡ true
  unfolding record_refusal
  unrefused [] e = refl
  unrefused (j ∷ js) e =
      let two = ▷_none (refusal_here j) (first_refusal (map refusal_here js)) e in
      let one = ▷_none (when (bad j) 17) (numbers_refusal (pass_here bs j)) two.0 in
      and_intro (ap not (when_none (bad j) 16 one.0)) (unrefused js two.1)

  few_passes : head_refusal bs ≡ 0 → when (ltb greatest_count (length (passes_of bs))) 16 ≡ 0
  few_passes e =
      let few = subst (◌≤ greatest_count) (sym (length_passes_of bs)) (headed bs e).few in
      ap (λ (t : Bool). when t 16) (le-ltb greatest_count (length (passes_of bs)) few)

  formed-refusal : head_refusal bs ≡ 0 → every (well bs) (from 0 (count_of bs)) ≡ true
      → list_refusal bs ≡ passes_refusal (passes_of bs)
  unfolding list_refusal passes_refusal
  formed-refusal h e =
      ap₂ ◌▷◌ h (ap first_refusal (records_passes e))
      ∙ ap (◌▷ first_refusal (map numbers_refusal (passes_of bs))) (sym (few_passes h))

  pub decoded_refusal : (ss : List Pass) → decode bs ≡ some ss → list_refusal bs ≡ passes_refusal ss
  decoded_refusal ss e =
      let d = decoded bs ss e in
      formed-refusal d.head d.formed ∙ ap passes_refusal d.passes

  pub accepted_list : list_refusal bs ≡ 0 → (decode bs ≡ some (passes_of bs)) × (passes_refusal (passes_of bs) ≡ 0)
  unfolding list_refusal record_refusals decode
  accepted_list e =
      let two = ▷_none (head_refusal bs) (first_refusal (record_refusals bs)) e in
      let formed = unrefused (from 0 (count_of bs)) two.1 in
      let read : (eqb (head_refusal bs) 0 && every (well bs) (from 0 (count_of bs))) ≡ true =
      and_intro (eq-eqb (head_refusal bs) 0 two.0) formed in
      (ap (λ (t : Bool). cond t (some (passes_of bs)) none) read, sym (formed-refusal two.0 formed) ∙ e)

-- no record of a list that is not refused is malformed
pub formed_each : (bs : List ℕ) → list_refusal bs ≡ 0 → (j : ℕ) → j < count_of bs
    → malformed_at (edition_of bs) bs (record_start (edition_of bs) j) ≡ false
unfolding list_refusal record_refusal
formed_each bs e j h =
    let records = (▷_none (head_refusal bs) (first_refusal (record_refusals bs)) e).1 in
    let inside = subst (j <◌) (sym (records_length bs)) h in
    let none = sym (records_at bs j h) ∙ clear_each (record_refusals bs) records j inside in
    when_none (bad bs j) 16 (▷_none (when (bad bs j) 17) (numbers_refusal (pass_here bs j)) none).0

-- any passes that a list's count can tell, also more than it may have, in either edition
module _ (e : Edition) (ss : List Pass) (told : length ss < 65536) (fit : All (Storable e) ss) where
  pub encoded_refusal : list_refusal (encode e ss) ≡ passes_refusal ss
  unfolding list_refusal passes_refusal
  encoded_refusal =
      let records = passes_encode e ss told fit in
      ap₂ ◌▷◌ (head_encode e ss told)
      (ap first_refusal (records_passes (encode e ss) records.1 ∙ ap (map numbers_refusal) records.0))

-- ## Places for neighbours

-- version 2 has a place for every pass
pub places_second : (ss : List Pass) → places_refusal Second ss ≡ 0
unfolding places_refusal
places_second [] = refl
places_second (s ∷ ss) = places_second ss

module _ (e : Edition) (bs : List ℕ) where
  compose : (js : List ℕ) → map (place_refusal e) (map (pass_here bs) js)
      ≡ map (λ j. place_refusal e (pass_here bs j)) js
  compose [] = refl
  compose (j ∷ js) = ap (place_refusal e (pass_here bs j) ∷◌) (compose js)

  -- 20 of each pass of a list, where it applies
  abbrev pub places : List ℕ
  places = map (place_refusal e) (passes_of bs)

  pub places_length : length places ≡ count_of bs
  places_length = length-map (passes_of bs) (place_refusal e) ∙ length_passes_of bs

  pub places_at : (j : ℕ) → j < count_of bs → at places j ≡ place_refusal e (pass_here bs j)
  unfolding passes_of
  places_at j h =
      ap (λ (ks : List ℕ). at ks j) (compose (from 0 (count_of bs)))
      ∙ all_at (λ j. place_refusal e (pass_here bs j)) (count_of bs) j h

-- ## Passes in memory

-- the refusal of a pass, read by any pass past the end
pub passes_at : (ss : List Pass) (i : ℕ) (d : Pass) → i < length ss
    → at (map numbers_refusal ss) i ≡ numbers_refusal (get_or ss i d)
passes_at [] i d h = absurd (omega arith)
passes_at (s ∷ ss) zero d h = refl
passes_at (s ∷ ss) (suc i) d h = passes_at ss i d (omega arith)

pub passes_length : (ss : List Pass) → length (map numbers_refusal ss) ≡ length ss
passes_length ss = length-map ss numbers_refusal
