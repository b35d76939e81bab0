-- A list written in the other edition, record by record. What is put and what is left make up the whole. Assumes
-- nothing.
--
--   record_put   the fields of a record, and what follows them, are its pass's record in the other edition
--   Putting      the first records are put
use Prim.Native.Nat.{ℕ, ◌+◌, ◌-◌, ◌≤◌, ◌<◌, zero-le}
use mathlib.Core.Path.{◌≡◌, refl, sym, ap, ap₂, subst, ◌∙◌}
use mathlib.Core.List.{List, [], ◌∷◌, ◌++◌, append_assoc, append-nil}
use native.Mathlib.Numerals.{add-one}
use native.Mathlib.Nat.{add-zero}
use native.Mathlib.Omega.{arith}
use lib.ListN.{length, get_or, take, drop, length-append, length-drop, drop_of_length-le, take-append-drop}
use lib.Seq.{drop-cons, length-take-le}
use Rattle.planes.specs.Lists.{at}
use Rattle.texts.specs.Placing.{Put}
use Rattle.texts.proofs.Placing.{put_more, put_length}
use Rattle.model.specs.declared.Pass.{Pass}
use Rattle.listformat.specs.declared.Edition.{Edition}
use Rattle.listformat.specs.declared.Edition.TheVariants.{First, Second}
use Rattle.listformat.specs.Format.{other, record_length, fields_length, record_start, count_of, edition_of}
use Rattle.listformat.specs.Format.{pass_at, pass_here, passes_of, encode_rest, encode_pass, encode_passes}
use Rattle.listformat.specs.Format.{encode_head, encode, Bytes}
use Rattle.listformat.proofs.Format.{written_fields, length_pass, length_passes_of, no_pass, passes_of_at}
use Rattle.listformat.proofs.Format.{record-inside, fields_within}
use Rattle.listchecks.proofs.Refusals.{formed_each}
use Rattle.conversion.specs.Conversion.{converted}
use Rattle.conversion.proofs.Refusals.{Convertible, head_sound}

-- ## The parts of a list

pub put_nothing : (output : List ℕ) (at : ℕ) → Put output at [] at output
put_nothing output at = record {
  next = sym (add-zero at);
  leaves = sym (ap₂ (λ (l : List ℕ) (n : ℕ). l ++ drop n output) (append-nil (take at output)) (add-zero at)
      ∙ take-append-drop at output);
}

-- a record's fields, and what follows them
pub rest_long : (e : Edition) → fields_length + length (encode_rest e 4) ≡ record_length e
rest_long First = refl
rest_long Second = refl

pub fields_taken : (bs : List ℕ) (i : ℕ) → take (i + fields_length - i) (drop i bs) ≡ take fields_length (drop i bs)
fields_taken bs i = let e : i + fields_length - i ≡ fields_length = omega arith in ap (λ (n : ℕ). take n (drop i bs)) e

pub fields_long : (bs : List ℕ) (i : ℕ) → i + fields_length ≤ length bs
    → length (take (i + fields_length - i) (drop i bs)) ≡ fields_length
fields_long bs i h =
    ap length (fields_taken bs i) ∙ length-take-le fields_length (drop i bs) (omega (arith, length-drop i bs))

-- what becomes version 2 is of version 1, and takes the four neighbours; what becomes version 1 has no place for any
rest_same : (e : Edition) (bs : List ℕ) (i : ℕ)
    → encode_rest (other e) 4 ≡ encode_rest (other e) (pass_at e bs i).neighbours
unfolding pass_at
rest_same First bs i = refl
rest_same Second bs i = refl

module _ (bs : List ℕ) {output : ℕ} (fine : Convertible bs output) where
  abbrev target : Edition
  target = other (edition_of bs)

  abbrev starts : ℕ → ℕ
  starts = record_start (edition_of bs)

  -- the fields of record j stand in the list
  pub fields_inside : (j : ℕ) → j < count_of bs → starts j + fields_length ≤ length bs
  fields_inside j h =
      omega (arith, (record-inside bs j (head_sound bs fine) h).1, fields_within (edition_of bs))

  pub record_put : Bytes bs → (j : ℕ) → j < count_of bs
      → take fields_length (drop (starts j) bs) ++ encode_rest target 4 ≡ encode_pass target (pass_here bs j)
  unfolding encode_pass
  record_put b j h =
      ap₂ ◌++◌
      (written_fields (edition_of bs) bs (starts j) b (formed_each bs fine.sound j h) (fields_inside j h))
      (rest_same (edition_of bs) bs (starts j))

-- ## Record by record

next_pass : (bs : List ℕ) (j : ℕ) → j < count_of bs
    → drop j (passes_of bs) ≡ pass_here bs j ∷ drop (j + 1) (passes_of bs)
next_pass bs j h =
    let inside : j < length (passes_of bs) = subst (j <◌) (sym (length_passes_of bs)) h in
    let split : drop j (passes_of bs) ≡ get_or (passes_of bs) j no_pass ∷ drop (j + 1) (passes_of bs) =
    rw add-one (drop-cons (passes_of bs) j no_pass inside) in
    split ∙ ap (◌∷ drop (j + 1) (passes_of bs)) (passes_of_at bs j h)

-- the records from record j on, in the other edition
abbrev left : List ℕ → ℕ → List ℕ
left bs j = encode_passes (other (edition_of bs)) (drop j (passes_of bs))

-- the head and the first j records stand at the beginning of the output, up to `at`
pub record Putting (bs output₀ : List ℕ) (j at : ℕ) (output : List ℕ) : Type 0 where
  pub done : List ℕ
  pub put : Put output₀ 0 done at output
  pub upto : j ≤ count_of bs
  pub whole : done ++ left bs j ≡ converted bs

module _ {bs output₀ : List ℕ} where
  pub putting_none : {at : ℕ} {output : List ℕ}
      → Put output₀ 0 (encode_head (other (edition_of bs)) (count_of bs)) at output → Putting bs output₀ 0 at output
  unfolding converted encode
  putting_none p = record {
    done = encode_head (other (edition_of bs)) (count_of bs);
    put = p;
    upto = zero-le;
    whole = ap (λ (n : ℕ). encode_head (other (edition_of bs)) n ++ left bs 0) (sym (length_passes_of bs));
  }

  module _ (fine : Convertible bs (length output₀)) {j at : ℕ} {output : List ℕ}
      (p : Putting bs output₀ j at output) where
    -- what is put is no longer than the output
    size : at + length (left bs j) ≡ length (converted bs)
    size =
        let sum = sym (length-append p.done (left bs j)) ∙ ap length p.whole in
        omega (arith, p.put.next)

    pub put_same : length output ≡ length output₀
    put_same = put_length p.put (omega (arith, size, p.put.next, fine.room))

    left_next : j < count_of bs → left bs j ≡ encode_pass (other (edition_of bs)) (pass_here bs j) ++ left bs (j + 1)
    unfolding encode_passes
    left_next h = ap (encode_passes (other (edition_of bs))) (next_pass bs j h)

    pub record_room : j < count_of bs → at + record_length (other (edition_of bs)) ≤ length output
    record_room h =
        let bytes = encode_pass (other (edition_of bs)) (pass_here bs j) in
        let sum = ap length (left_next h) ∙ length-append bytes (left bs (j + 1)) in
        omega (arith, size, fine.room, put_same, length_pass (other (edition_of bs)) (pass_here bs j))

    pub putting_more : j < count_of bs → {r : ℕ} {output' : List ℕ}
        → Put output at (encode_pass (other (edition_of bs)) (pass_here bs j)) r output'
        → Putting bs output₀ (j + 1) r output'
    putting_more h q =
        let bytes = encode_pass (other (edition_of bs)) (pass_here bs j) in
        let room = record_room h in
        let long = length_pass (other (edition_of bs)) (pass_here bs j) in
        record {
          done = p.done ++ bytes;
          put = put_more p.put q (omega (arith, p.put.next, put_same));
          upto = omega arith;
          whole = append_assoc p.done bytes (left bs (j + 1)) ∙ ap (p.done ++◌) (sym (left_next h)) ∙ p.whole;
        }

  pub putting_all : {j at : ℕ} {output : List ℕ} → Putting bs output₀ j at output → count_of bs ≤ j
      → Put output₀ 0 (converted bs) at output
  unfolding encode_passes
  putting_all {j} {at} {output} p h =
      let none = drop_of_length-le (passes_of bs) {i = j} (subst (◌≤ j) (sym (length_passes_of bs)) h) in
      let all =
      sym (append-nil p.done)
      ∙ ap (λ (l : List Pass). p.done ++ encode_passes (other (edition_of bs)) l) (sym none) ∙ p.whole in
      subst (λ (u : List ℕ). Put output₀ 0 u at output) all p.put

-- ## A turn of the loop, by what the calls in it answer

module _ {bs lent : List ℕ} (fine : Convertible bs (length lent)) {e t : Edition} (edition : e ≡ edition_of bs)
    (turned : t ≡ other e) {i j at : ℕ} (start : i ≡ record_start e j) (due : j < count_of bs) {output : List ℕ}
    (p : Putting bs lent j at output) where
  into : t ≡ other (edition_of bs)
  into = turned ∙ ap other edition

  place : i ≡ record_start (edition_of bs) j
  place = start ∙ ap (λ (d : Edition). record_start d j) edition

  pub turn_asks : (at + record_length t ≤ length output) × (i + fields_length ≤ length bs)
  turn_asks = (
    subst (λ (d : Edition). at + record_length d ≤ length output) (sym into) (record_room fine p due),
    subst (λ (n : ℕ). n + fields_length ≤ length bs) (sym place) (fields_inside bs fine j due),
  )

  pub turn_puts : Bytes bs → {r : ℕ} {output' : List ℕ}
      → Put output at (take fields_length (drop i bs) ++ encode_rest t 4) r output'
      → Putting bs lent (j + 1) r output'
  turn_puts b {r} {output'} q =
      let bytes =
      ap₂ (λ (n : ℕ) (d : Edition). take fields_length (drop n bs) ++ encode_rest d 4) place into
      ∙ record_put bs fine b j due in
      putting_more fine p due (subst (λ (u : List ℕ). Put output at u r output') bytes q)
