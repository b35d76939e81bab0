-- The refusals of a conversion. Assumes nothing.
--
--   length_converted   how long the list is in the other edition
--   convert_order      the refusals in the order in which they are tested
--   Convertible        what a list has that is not refused
--   refused_head, refused_record, refused_room
--                      each result, by the tests that led to it
use Prim.Native.Nat.{ℕ, ◌≤◌}
use mathlib.Core.Path.{◌≡◌, sym, ap, ap₂, ◌∙◌}
use mathlib.Core.List.{List}
use lib.ListN.{length}
use Rattle.std.specs.Prelude.{Result}
use Rattle.std.specs.Result.{IsErrAnd}
use Rattle.planes.specs.declared.refusal.Refusal.{Refusal}
use Rattle.planes.specs.Refusals.{number, number_in, ◌▷◌, output_refusal}
use Rattle.planes.proofs.Refusals.{▷_none, ▷_both, ▷_assoc, output_fits, output_none}
use Rattle.planes.proofs.Refusals.{refused_by, passed_first}
use Rattle.listformat.specs.declared.Edition.{Edition}
use Rattle.listformat.specs.Format.{other, record_start, count_of, edition_of, passes_of, head_refusal}
use Rattle.listformat.proofs.Format.{length_encode, length_passes_of}
use Rattle.listchecks.specs.Refusals.{first_refusal, record_refusals, list_refusal, places_refusal}
use Rattle.conversion.specs.Conversion.{converted, convert_refusal}

module _ (bs : List ℕ) where
  pub length_converted : length (converted bs) ≡ record_start (other (edition_of bs)) (count_of bs)
  unfolding converted
  length_converted =
      length_encode (other (edition_of bs)) (passes_of bs)
      ∙ ap (record_start (other (edition_of bs))) (length_passes_of bs)

  -- 20, by the passes
  abbrev pub unplaced : ℕ
  unplaced = places_refusal (other (edition_of bs)) (passes_of bs)

  -- those of the head, then those of the records and 20, then 14
  pub convert_order : (output : ℕ) → convert_refusal bs output
      ≡ head_refusal bs ▷ (first_refusal (record_refusals bs) ▷ unplaced)
      ▷ output_refusal output (record_start (other (edition_of bs)) (count_of bs))
  unfolding convert_refusal list_refusal
  convert_order output =
      let records = first_refusal (record_refusals bs) in
      let short = output_refusal output (length (converted bs)) in
      ▷_assoc (head_refusal bs) records (unplaced ▷ short)
      ∙ ap (head_refusal bs ▷◌) (sym (▷_assoc records unplaced short))
      ∙ ap (λ (n : ℕ). head_refusal bs ▷ (records ▷ unplaced) ▷ output_refusal output n) length_converted

-- a list that is accepted as a list, whose passes have a place in the other edition, and for which there is room
pub record Convertible (bs : List ℕ) (output : ℕ) : Type 0 where
  pub sound : list_refusal bs ≡ 0
  pub placed : places_refusal (other (edition_of bs)) (passes_of bs) ≡ 0
  pub room : length (converted bs) ≤ output

module _ (bs : List ℕ) (output : ℕ) where
  pub convertible : convert_refusal bs output ≡ 0 → Convertible bs output
  unfolding convert_refusal
  convertible e =
      let short = output_refusal output (length (converted bs)) in
      let tests = ▷_none (list_refusal bs) (unplaced bs ▷ short) e in
      let others = ▷_none (unplaced bs) short tests.1 in
      record { sound = tests.0; placed = others.0; room = output_fits output (length (converted bs)) others.1 }

  pub convertible_none : Convertible bs output → convert_refusal bs output ≡ 0
  unfolding convert_refusal
  convertible_none fine =
      ▷_both _ _ fine.sound (▷_both _ _ fine.placed (output_none output (length (converted bs)) fine.room))

-- its head is not refused
pub head_sound : (bs : List ℕ) {output : ℕ} → Convertible bs output → head_refusal bs ≡ 0
unfolding list_refusal
head_sound bs fine = (▷_none (head_refusal bs) (first_refusal (record_refusals bs)) fine.sound).0

-- ## The results, by the tests that led to them

module _ (bs : List ℕ) (output : ℕ) where
  abbrev needed : ℕ
  needed = record_start (other (edition_of bs)) (count_of bs)

  pub refused_head : {A : Type 0} (r : Result A Refusal) (d : Refusal) → IsErrAnd r (λ x. x ≡ d)
      → number d ≡ head_refusal bs → number_in r ≡ convert_refusal bs output
  refused_head r d h e = refused_by r d _ _ h e ∙ sym (convert_order bs output)

  module _ (head : 0 ≡ head_refusal bs) {e : Edition} (edition : e ≡ other (edition_of bs)) where
    -- the refusal of the records, by the edition that they go to
    records-told : {k : ℕ} → k ≡ first_refusal (record_refusals bs) ▷ places_refusal e (passes_of bs)
        → k ≡ first_refusal (record_refusals bs) ▷ unplaced bs
    records-told told =
        told ∙ ap (λ (d : Edition). first_refusal (record_refusals bs) ▷ places_refusal d (passes_of bs)) edition

    pub refused_record : {A : Type 0} (r : Result A Refusal) (d : Refusal) → IsErrAnd r (λ x. x ≡ d)
        → number d ≡ first_refusal (record_refusals bs) ▷ places_refusal e (passes_of bs)
        → number_in r ≡ convert_refusal bs output
    refused_record r d h told =
        passed_first _ _ _ head (refused_by r d _ _ h (records-told told)) ∙ sym (convert_order bs output)

    pub refused_room : {k n count : ℕ}
        → 0 ≡ first_refusal (record_refusals bs) ▷ places_refusal e (passes_of bs) → n ≡ record_start e count
        → count ≡ count_of bs → k ≡ output_refusal output n → k ≡ convert_refusal bs output
    refused_room none start counted told =
        passed_first _ _ _ head
        (passed_first _ _ _ (records-told none)
        (told ∙ ap (output_refusal output) (start ∙ ap₂ record_start edition counted)))
        ∙ sym (convert_order bs output)
