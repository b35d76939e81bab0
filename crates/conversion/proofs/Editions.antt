-- Both editions of a list. Assumes nothing.
--
--   encoded_converts   passes that version 1 can store, in either edition, are refused as in memory, and then with 14
--   converted_passes   a list that may be converted has the same passes in the other edition, and is not refused there
--   there_and_back     converted, it may be converted again, and that restores it byte for byte
--   restored           so two calls of `convert`, one on what the other wrote, restore the list
use Prim.Native.Nat.{ℕ, ◌≤◌, ◌<◌}
use mathlib.Core.Path.{◌≡◌, refl, sym, ap, ap₂, subst, ◌∙◌}
use mathlib.Core.Bool.{not, ◌||◌, or-false}
use mathlib.Core.Option.{some}
use mathlib.Core.List.{List, [], ◌∷◌, map}
use native.Mathlib.Omega.{arith}
use lib.ListN.{length, take}
use lib.Dec.{eqb}
use borrow.Author.Tests.{eqb-true, not-false}
use Rattle.planes.specs.Refusals.{when, ◌▷◌, output_refusal}
use Rattle.planes.specs.Replies.{Reply, gives}
use Rattle.planes.proofs.Refusals.{when_none, ▷_none, ▷_both}
use Rattle.planes.proofs.Replies.{replied_none}
use Rattle.texts.proofs.Writing.{wrote_none, wrote_bytes}
use Rattle.model.specs.declared.Pass.{Pass}
use Rattle.tones.specs.Refusals.{rule_refusal}
use Rattle.model.specs.Calls.{interval_refusal, area_refusal, neighbour_refusal, numbers_refusal}
use Rattle.model.specs.Runs.{All, none, more}
use Rattle.model.proofs.Recursion.{all_map}
use Rattle.listformat.specs.declared.Edition.{Edition}
use Rattle.listformat.specs.declared.Edition.TheVariants.{First, Second}
use Rattle.listformat.specs.Format.{other, record_start, edition_of, passes_of, greatest_count, decode, encode, Bytes}
use Rattle.listformat.specs.Format.{Storable}
use Rattle.listformat.proofs.Format.{headed, length_passes_of, length_encode, storable_passes, passes_encode}
use Rattle.listformat.proofs.Format.{edition_encode}
use Rattle.listformat.proofs.Format.{encode_decode}
use Rattle.listchecks.specs.Refusals.{first_refusal, list_refusal, count_refusal, passes_refusal, place_refusal}
use Rattle.listchecks.specs.Refusals.{places_refusal}
use Rattle.listchecks.proofs.Refusals.{accepted_list, encoded_refusal}
use Rattle.conversion.specs.Conversion.{converted, convert_refusal, ConvertOutcome}
use Rattle.conversion.proofs.Refusals.{Convertible, convertible, convertible_none, head_sound}

-- ## Passes that both editions can store

wider : {s : Pass} → Storable First s → Storable Second s
wider f = record {
  a_fits = f.a_fits;
  b_fits = f.b_fits;
  area_fits = f.area_fits;
  rule_fits = f.rule_fits;
  neighbours_fit = omega (arith, f.neighbours_fit);
}

-- an accepted number of neighbours that is not 8 is 4
only_four : (number : ℕ) → neighbour_refusal number ≡ 0 → when (eqb number 8) 20 ≡ 0 → number ≡ 4
unfolding neighbour_refusal
only_four number known not_eight =
    let either = not-false (eqb number 4 || eqb number 8) (when_none (not (eqb number 4 || eqb number 8)) 18 known) in
    let other-one = when_none (eqb number 8) 19 not_eight in
    eqb-true number 4 (sym (or-false (eqb number 4)) ∙ ap (eqb number 4 ||◌) (sym other-one) ∙ either)

-- what version 1 can store either can
pub stored : (e : Edition) (ss : List Pass) → All (Storable First) ss → All (Storable e) ss
stored First ss fit = fit
stored Second ss fit = all_map (λ s f. wider f) fit

narrower : (s : Pass) → Storable Second s → numbers_refusal s ≡ 0 → place_refusal First s ≡ 0 → Storable First s
unfolding numbers_refusal
narrower s f fine place =
    let one = (▷_none (interval_refusal s.a s.b) _ fine).1 in
    let two = (▷_none (area_refusal s.area) _ one).1 in
    let three = (▷_none (rule_refusal s.rule) _ two).1 in
    record {
      a_fits = f.a_fits;
      b_fits = f.b_fits;
      area_fits = f.area_fits;
      rule_fits = f.rule_fits;
      neighbours_fit = only_four s.neighbours three place;
    }

-- accepted passes that the other edition has a place for
storable_other : (e : Edition) (ss : List Pass) → All (Storable e) ss → first_refusal (map numbers_refusal ss) ≡ 0
    → places_refusal (other e) ss ≡ 0 → All (Storable (other e)) ss
unfolding places_refusal
storable_other e [] f fine place = none
storable_other First (s ∷ ss) (more f fs) fine place =
    let later = (▷_none (numbers_refusal s) (first_refusal (map numbers_refusal ss)) fine).1 in
    more (wider f) (storable_other First ss fs later place)
storable_other Second (s ∷ ss) (more f fs) fine place =
    let passes = ▷_none (numbers_refusal s) (first_refusal (map numbers_refusal ss)) fine in
    let places = ▷_none (place_refusal First s) (first_refusal (map (place_refusal First) ss)) place in
    more (narrower s f passes.0 places.0) (storable_other Second ss fs passes.1 places.1)

-- an edition has a place for the passes that it can store
has_place : (e : Edition) (ss : List Pass) → All (Storable e) ss → places_refusal e ss ≡ 0
unfolding places_refusal
has_place e [] f = refl
has_place First (s ∷ ss) (more f fs) =
    ▷_both (place_refusal First s) (first_refusal (map (place_refusal First) ss))
    (ap (λ (number : ℕ). when (eqb number 8) 20) f.neighbours_fit) (has_place First ss fs)
has_place Second (s ∷ ss) (more f fs) = has_place Second ss fs

other_other : (e : Edition) → other (other e) ≡ e
other_other First = refl
other_other Second = refl

-- passes that version 1 can store, in either edition, are refused as they are in memory, and then with 14
pub encoded_converts : (ss : List Pass) → length ss < 65536 → All (Storable First) ss → (e : Edition) (output : ℕ)
    → convert_refusal (encode e ss) output
    ≡ passes_refusal ss ▷ output_refusal output (record_start (other e) (length ss))
unfolding convert_refusal converted
encoded_converts ss told fit e output =
    let short = output_refusal output (record_start (other e) (length ss)) in
    let fits = stored e ss fit in
    ap₂ (λ (d : Edition) (ps : List Pass).
    list_refusal (encode e ss) ▷ places_refusal (other d) ps ▷ output_refusal output (length (encode (other d) ps)))
    (edition_encode e ss) (passes_encode e ss told fits).0
    ∙ ap₂ (λ (k n : ℕ). k ▷ places_refusal (other e) ss ▷ output_refusal output n)
    (encoded_refusal e ss told fits) (length_encode (other e) ss)
    ∙ ap (λ (k : ℕ). passes_refusal ss ▷ k ▷ short) (has_place (other e) ss (stored (other e) ss fit))

-- ## A list and its other edition

module _ (bs : List ℕ) (b : Bytes bs) {output : ℕ} (fine : Convertible bs output) where
  abbrev ss : List Pass
  ss = passes_of bs

  abbrev e : Edition
  e = edition_of bs

  read : (decode bs ≡ some ss) × (passes_refusal ss ≡ 0)
  read = accepted_list bs fine.sound

  few : length ss ≤ greatest_count
  few = subst (◌≤ greatest_count) (sym (length_passes_of bs)) (headed bs (head_sound bs fine)).few

  fit : All (Storable (other e)) ss
  unfolding passes_refusal
  fit =
      let numbers = (▷_none (count_refusal (length ss)) (first_refusal (map numbers_refusal ss)) read.1).1 in
      storable_other e ss (storable_passes bs b) numbers fine.placed

  pub converted_edition : edition_of (converted bs) ≡ other e
  unfolding converted
  converted_edition = edition_encode (other e) ss

  pub converted_passes : passes_of (converted bs) ≡ ss
  unfolding converted
  converted_passes = (passes_encode (other e) ss (omega (arith, few)) fit).0

  pub converted_sound : list_refusal (converted bs) ≡ 0
  unfolding converted
  converted_sound = encoded_refusal (other e) ss (omega (arith, few)) fit ∙ read.1

  -- converted again, it is the list
  pub back : converted (converted bs) ≡ bs
  unfolding converted
  back =
      ap₂ (λ (d : Edition) (ps : List Pass). encode (other d) ps) converted_edition converted_passes
      ∙ ap (λ (d : Edition). encode d ss) (other_other e) ∙ sym (encode_decode bs b ss read.0)

  pub there_and_back : (room : ℕ) → length bs ≤ room → Convertible (converted bs) room
  there_and_back room h = record {
    sound = converted_sound;
    placed = ap₂ (λ (d : Edition) (ps : List Pass). places_refusal (other d) ps) converted_edition converted_passes
        ∙ ap (λ (d : Edition). places_refusal d ss) (other_other e) ∙ has_place e ss (storable_passes bs b);
    room = subst (◌≤ room) (sym (ap length back)) h;
  }

-- what `convert` wrote, converted again with room for it, is the list
pub restored : (bs : List ℕ) → Bytes bs → {output output' : List ℕ} {size : ℕ}
    → ConvertOutcome bs output (gives (size ∷ [])) output' → {lent lent' : List ℕ} {reply : Reply}
    → length bs ≤ length lent → ConvertOutcome (take size output') lent reply lent'
    → (reply ≡ gives (length bs ∷ [])) × (take (length bs) lent' ≡ bs)
restored bs b {output} {output'} {size} there {lent} {lent'} {reply} room again =
    let fine = convertible bs (length output) (wrote_none there) in
    let second = subst (λ (l : List ℕ). ConvertOutcome l lent reply lent') (wrote_bytes there) again in
    let accepted = convertible_none (converted bs) (length lent) (there_and_back bs b fine (length lent) room) in
    let given : reply ≡ gives (length bs ∷ []) =
    second.answer ∙ replied_none _ _ accepted ∙ ap (λ (l : List ℕ). gives (length l ∷ [])) (back bs b fine) in
    let wrote = subst (λ (r : Reply). ConvertOutcome (converted bs) lent r lent') given second in
    (given, wrote_bytes wrote ∙ back bs b fine)
