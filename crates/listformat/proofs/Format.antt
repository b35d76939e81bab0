-- The byte format: a list that is written and read back gives its passes again, and a list of bytes is read exactly
-- when it is what its passes are written as, in either edition. Assumes nothing.
--
--   read_pass       a pass, written and read
--   written_fields  the fields that both editions have, read and written
--   written_pass    a record that is not malformed, read and written
--   decode_encode   passes, written and read
--   encode_decode   a list, read and written
--   decodes         the two together
use Prim.Native.Nat.{ℕ, zero, suc, ◌+◌, ◌*◌, ◌/◌, ◌%◌, ◌≤◌, ◌<◌}
use mathlib.Core.Path.{◌≡◌, refl, sym, ap, ap₂, subst, ◌∙◌}
use mathlib.Core.Logic.{◌↔◌}
use mathlib.Core.Bool.{Bool, true, false, not, cond, ◌&&◌, ◌||◌, or-false}
use mathlib.Core.List.{List, [], ◌∷◌, ◌++◌, map}
use mathlib.Core.Option.{none, some}
use mathlib.Mathlib.Data.Bool.Basic.{and_elim_left, and_elim_right, and_intro}
use native.Mathlib.Nat.{mod-eq_of_lt, add-zero, zero-add, le_refl}
use native.Mathlib.Omega.{arith}
use lib.ListN.{length, get_or, take, drop, length-append, length-drop, take-append-drop, drop_of_length-le, length-map}
use lib.Seq.{drop-drop, drop_at}
use lib.Dec.{ltb, eqb}
use borrow.Author.Tests.{ltb-false, eqb-true, not-true, not-false, le-ltb, eq-eqb}
use Rattle.planes.specs.Lists.{from, every, at}
use Rattle.planes.specs.Refusals.{when, ◌▷◌}
use Rattle.planes.proofs.Tests.{or_none}
use Rattle.planes.proofs.Counts.{length_from}
use Rattle.planes.proofs.Refusals.{when_none, ▷_none}
use Rattle.tones.specs.declared.Rule.{Rule}
use Rattle.tones.specs.declared.Rule.TheVariants.{Limited}
use Rattle.tones.specs.declared.RuleNumbers.{RuleNumbers}
use Rattle.tones.specs.Numbers.{rule_of, malformed, numbers_of}
use Rattle.tones.proofs.Numbers.{read_rule, formed_rule, written_rule, rule_numbers, numbers_rule}
use Rattle.model.specs.declared.Pass.{Pass}
use Rattle.model.specs.Runs.{All, none as no-pass, more}
use Rattle.listformat.specs.declared.Edition.{Edition}
use Rattle.listformat.specs.declared.Edition.TheVariants.{First, Second}
use Rattle.listformat.specs.Format.{version, record_length, fields_length, number16, head_length, record_start}
use Rattle.listformat.specs.Format.{version_of, count_of, edition_of, numbers_at, neighbours_at, pass_at, pass_here}
use Rattle.listformat.specs.Format.{passes_of, greatest_count, zero_set, malformed_at, well, misnamed}
use Rattle.listformat.specs.Format.{miscounted, head_refusal, decode, bytes16, encode_fields, encode_rest, encode_pass}
use Rattle.listformat.specs.Format.{encode_passes, encode_head, encode, Bytes, NeighboursFit, Storable, Listable}
use Rattle.listformat.proofs.Numbers.{join16, join32, split16, split32, at_drop, take_at, map_at}

-- ## A record

-- a record may be read where it stands, or with what stands before it dropped
module _ (bs : List ℕ) (o : ℕ) where
  moved : (i k : ℕ) → o + i ≡ k → at (drop o bs) i ≡ at bs k
  moved = at_drop bs o

  pub numbers_drop : numbers_at (drop o bs) 0 ≡ numbers_at bs o
  numbers_drop =
      cc (
        moved 2 (o + 2) refl,
        moved 3 (o + 3) refl,
        moved 8 (o + 8) refl,
        moved 9 (o + 8 + 1) (omega arith),
        moved 10 (o + 10) refl,
        moved 11 (o + 10 + 1) (omega arith),
      )

  neighbours-drop : (e : Edition) → neighbours_at e (drop o bs) 0 ≡ neighbours_at e bs o
  neighbours-drop First = refl
  neighbours-drop Second = moved 12 (o + 12) refl

  pub pass_drop : (e : Edition) → pass_at e (drop o bs) 0 ≡ pass_at e bs o
  unfolding pass_at
  pass_drop e =
      cc (
        moved 0 o (omega arith),
        moved 1 (o + 1) refl,
        moved 4 (o + 4) refl,
        moved 5 (o + 4 + 1) (omega arith),
        moved 6 (o + 4 + 2) (omega arith),
        moved 7 (o + 4 + 2 + 1) (omega arith),
        ap rule_of numbers_drop,
        neighbours-drop e,
      )

  zero-drop : (e : Edition) → zero_set e (drop o bs) 0 ≡ zero_set e bs o
  zero-drop First = refl
  zero-drop Second = cc (moved 13 (o + 13) refl, moved 14 (o + 14) refl, moved 15 (o + 15) refl)

  pub malformed_drop : (e : Edition) → malformed_at e (drop o bs) 0 ≡ malformed_at e bs o
  malformed_drop e = ap₂ ◌||◌ (ap malformed numbers_drop) (zero-drop e)

abbrev numbers : ℕ → ℕ → ℕ → ℕ → RuleNumbers
numbers code extra first second = record { code = code; extra = extra; first = first; second = second }

same_numbers : {c e f g c' e' f' g' : ℕ} → c ≡ c' → e ≡ e' → f ≡ f' → g ≡ g' → numbers c e f g ≡ numbers c' e' f' g'
same_numbers c e f g = cc

abbrev pass : ℕ → ℕ → ℕ → Rule → ℕ → Pass
pass a b area rule number = record { a = a; b = b; area = area; rule = rule; neighbours = number }

same_pass : {a b area number a' b' area' number' : ℕ} {rule rule' : Rule} → a ≡ a' → b ≡ b' → area ≡ area'
    → rule ≡ rule' → number ≡ number' → pass a b area rule number ≡ pass a' b' area' rule' number'
same_pass a b area rule number = cc

module _ (e : Edition) (s : Pass) (f : Storable e s) (rest : List ℕ) where
  -- a rule's numbers, written and read
  read-numbers : numbers_at (encode_pass e s ++ rest) 0 ≡ numbers_of s.rule
  unfolding encode_pass encode_fields
  read-numbers =
      let fits = rule_numbers s.rule f.rule_fits in
      same_numbers
      (mod-eq_of_lt fits.code_fits)
      (mod-eq_of_lt fits.extra_fits)
      (join16 (numbers_of s.rule).first fits.first_fits)
      (join16 (numbers_of s.rule).second fits.second_fits)

  -- a pass, written and read
  pub read_pass : pass_at e (encode_pass e s ++ rest) 0 ≡ s
  unfolding pass_at encode_pass encode_fields
  read_pass =
      same_pass
      (mod-eq_of_lt f.a_fits)
      (mod-eq_of_lt f.b_fits)
      (join32 s.area f.area_fits)
      (ap rule_of read-numbers ∙ read_rule s.rule)
      (go e f.neighbours_fit)
    where
      go : (e : Edition) → NeighboursFit e s.neighbours
          → neighbours_at e ((encode_fields s ++ encode_rest e s.neighbours) ++ rest) 0 ≡ s.neighbours
      go First fits = sym fits
      go Second fits = mod-eq_of_lt fits

  pub formed_pass : malformed_at e (encode_pass e s ++ rest) 0 ≡ false
  unfolding encode_pass encode_fields
  formed_pass = ap₂ ◌||◌ (ap malformed read-numbers ∙ formed_rule s.rule) (go e)
    where
      go : (e : Edition) → zero_set e (encode_pass e s ++ rest) 0 ≡ false
      go First = refl
      go Second = refl

pub length_pass : (e : Edition) (s : Pass) → length (encode_pass e s) ≡ record_length e
unfolding encode_pass encode_fields
length_pass First s = refl
length_pass Second s = refl

-- the fields of a record of bytes whose rule is one, read and written
fields_here : (e : Edition) (bs : List ℕ) → Bytes bs → malformed (numbers_at bs 0) ≡ false
    → map (at bs) (from 0 fields_length) ≡ encode_fields (pass_at e bs 0)
unfolding pass_at encode_fields
fields_here e bs b m =
    rw (written_rule (numbers_at bs 0) m)
    (cc (
      mod-eq_of_lt (b.each 0),
      mod-eq_of_lt (b.each 1),
      mod-eq_of_lt (b.each 2),
      mod-eq_of_lt (b.each 3),
      split32 _ _ _ _ (b.each 4) (b.each 5) (b.each 6) (b.each 7),
      split16 _ _ (b.each 8) (b.each 9),
      split16 _ _ (b.each 10) (b.each 11),
    ))

-- what follows them, likewise
rest_here : (bs : List ℕ) → Bytes bs → zero_set Second bs 0 ≡ false
    → at bs 12 ∷ at bs 13 ∷ at bs 14 ∷ at bs 15 ∷ [] ≡ encode_rest Second (neighbours_at Second bs 0)
rest_here bs b z =
    let zero : ℕ → Bool = λ place. eqb (at bs place) 0 in
    let all = not-false (zero 13 && (zero 14 && (zero 15 && true))) z in
    let others = and_elim_right (zero 13) (zero 14 && (zero 15 && true)) all in
    let last = and_elim_right (zero 14) (zero 15 && true) others in
    cc (
      mod-eq_of_lt (b.each 12),
      eqb-true (at bs 13) 0 (and_elim_left (zero 13) (zero 14 && (zero 15 && true)) all),
      eqb-true (at bs 14) 0 (and_elim_left (zero 14) (zero 15 && true) others),
      eqb-true (at bs 15) 0 (and_elim_left (zero 15) true last),
    )

-- a record of bytes that is not malformed, read and written
pub written_pass : (e : Edition) (bs : List ℕ) → Bytes bs → malformed_at e bs 0 ≡ false → record_length e ≤ length bs
    → take (record_length e) bs ≡ encode_pass e (pass_at e bs 0)
unfolding encode_pass pass_at
written_pass First bs b m h =
    let parts = or_none (malformed (numbers_at bs 0)) false m in
    take_at bs 0 (record_length First) h
    ∙ ap (◌++ []) (fields_here First bs b parts.0)
written_pass Second bs b m h =
    let parts = or_none (malformed (numbers_at bs 0)) (zero_set Second bs 0) m in
    take_at bs 0 (record_length Second) h
    ∙ ap₂ ◌++◌ (fields_here Second bs b parts.0) (rest_here bs b parts.1)

bytes_drop : (bs : List ℕ) (o : ℕ) → Bytes bs → Bytes (drop o bs)
bytes_drop bs o b = record { each = λ i. subst (◌< 256) (sym (at_drop bs o i (o + i) refl)) (b.each (o + i)) }

-- the fields of the record at an index
pub written_fields : (e : Edition) (bs : List ℕ) (o : ℕ) → Bytes bs → malformed_at e bs o ≡ false
    → o + fields_length ≤ length bs → take fields_length (drop o bs) ≡ encode_fields (pass_at e bs o)
written_fields e bs o b m h =
    let formed = ap malformed (numbers_drop bs o) ∙ (or_none (malformed (numbers_at bs o)) (zero_set e bs o) m).0 in
    take_at (drop o bs) 0 fields_length (omega (arith, length-drop o bs))
    ∙ fields_here e (drop o bs) (bytes_drop bs o b) formed ∙ ap encode_fields (pass_drop bs o e)

-- ## The records of a list

-- some passes fit an edition's records
abbrev Fit : Edition → List Pass → Type 0
Fit e = All (Storable e)

one_more : (e : Edition) (n : ℕ) → record_length e + record_length e * n ≡ record_length e * suc n
one_more First n = omega arith
one_more Second n = omega arith

pub start_next : (e : Edition) (j : ℕ) → record_start e j + record_length e ≡ record_start e (suc j)
start_next First j = omega arith
start_next Second j = omega arith

-- a record ends where the last one does, or before
pub ends_within : (e : Edition) (j n : ℕ) → j < n → record_start e j + record_length e ≤ record_start e n
ends_within First j n h = omega arith
ends_within Second j n h = omega arith

-- all records together are short
abbrev pub most_bytes : ℕ
most_bytes = record_length Second * greatest_count

pub records_low : (e : Edition) (j : ℕ) → j ≤ greatest_count → record_length e * j ≤ most_bytes
records_low First j h = omega arith
records_low Second j h = omega arith

pub fields_within : (e : Edition) → fields_length ≤ record_length e
fields_within First = omega arith
fields_within Second = omega arith

pub length_passes : (e : Edition) (ss : List Pass) → length (encode_passes e ss) ≡ record_length e * length ss
unfolding encode_passes
length_passes First [] = refl
length_passes Second [] = refl
length_passes e (s ∷ ss) =
    length-append (encode_pass e s) (encode_passes e ss)
    ∙ ap₂ ◌+◌ (length_pass e s) (length_passes e ss) ∙ one_more e (length ss)

module _ (e : Edition) (bs : List ℕ) where
  -- the pass of record j in this edition, and that it is not malformed
  abbrev pass_in : ℕ → Pass
  pass_in j = pass_at e bs (record_start e j)

  abbrev well_in : ℕ → Bool
  well_in j = not (malformed_at e bs (record_start e j))

  -- the bytes after record j
  next-record : (j : ℕ) → drop (record_length e) (drop (record_start e j) bs) ≡ drop (record_start e (suc j)) bs
  next-record j =
      drop-drop (record_length e) (record_start e j) bs ∙ ap (λ (o : ℕ). drop o bs) (start_next e j)

  -- records that are written from record j on are read as the passes
  read-passes : (ss : List Pass) (j : ℕ) → Fit e ss → drop (record_start e j) bs ≡ encode_passes e ss
      → (map pass_in (from j (length ss)) ≡ ss) × (every well_in (from j (length ss)) ≡ true)
  unfolding encode_passes
  read-passes [] j f d = (refl, refl)
  read-passes (s ∷ ss) j (more here f) d =
      let o = record_start e j in
      let rest : drop (record_start e (suc j)) bs ≡ encode_passes e ss =
      sym (next-record j) ∙ ap (drop (record_length e)) d
      ∙ drop_at (encode_pass e s) (encode_passes e ss) (record_length e) (length_pass e s) in
      let later = read-passes ss (suc j) f rest in
      let pass : pass_at e bs o ≡ s =
      sym (pass_drop bs o e) ∙ ap (λ (r : List ℕ). pass_at e r 0) d ∙ read_pass e s here (encode_passes e ss) in
      let fine : malformed_at e bs o ≡ false =
      sym (malformed_drop bs o e) ∙ ap (λ (r : List ℕ). malformed_at e r 0) d
      ∙ formed_pass e s here (encode_passes e ss) in
      (ap₂ ◌∷◌ pass later.0, and_intro (ap not fine) later.1)

  -- records of bytes, none of them malformed, are what their passes are written as
  written-passes : Bytes bs → (j m : ℕ) → length bs ≡ record_start e (j + m)
      → every well_in (from j m) ≡ true → drop (record_start e j) bs ≡ encode_passes e (map pass_in (from j m))
  unfolding encode_passes
  written-passes b j zero l d =
      let ends : length bs ≡ record_start e j = l ∙ ap (record_start e) (add-zero j) in
      drop_of_length-le bs {i = record_start e j} (subst (◌≤ record_start e j) (sym ends) (le_refl (record_start e j)))
  written-passes b j (suc m) l d =
      let o = record_start e j in
      let fine : malformed_at e (drop o bs) 0 ≡ false =
      malformed_drop bs o e ∙ not-true (malformed_at e bs o)
      (and_elim_left (well_in j) (every well_in (from (suc j) m)) d) in
      let inside : o + record_length e ≤ length bs =
      subst (o + record_length e ≤◌) (sym l) (ends_within e j (j + suc m) (omega arith)) in
      let here : take (record_length e) (drop o bs) ≡ encode_pass e (pass_at e bs o) =
      written_pass e (drop o bs) (bytes_drop bs o b) fine (omega (arith, length-drop o bs))
      ∙ ap (encode_pass e) (pass_drop bs o e) in
      let others = and_elim_right (well_in j) (every well_in (from (suc j) m)) d in
      let moved_on : j + suc m ≡ suc j + m = omega arith in
      let later = written-passes b (suc j) m (l ∙ ap (record_start e) moved_on) others in
      sym (take-append-drop (record_length e) (drop o bs)) ∙ ap₂ ◌++◌ here (next-record j ∙ later)

-- ## Lists

abbrev accepted : List ℕ → Bool
accepted bs = eqb (head_refusal bs) 0 && every (well bs) (from 0 (count_of bs))

-- what a list's head has that is not refused
pub record Headed (bs : List ℕ) : Type 0 where
  pub first : at bs 0 ≡ 77
  pub second : at bs 1 ≡ 76
  pub third : at bs 2 ≡ 80
  pub version : version_of bs ≡ version (edition_of bs)
  pub few : count_of bs ≤ greatest_count
  pub size : length bs ≡ record_start (edition_of bs) (count_of bs)

same_number : (x y : ℕ) → not (eqb x y) ≡ false → x ≡ y
same_number x y e = eqb-true x y (not-false (eqb x y) e)

pub headed : (bs : List ℕ) → head_refusal bs ≡ 0 → Headed bs
unfolding head_refusal misnamed miscounted
headed bs e =
    let mark = not (eqb (at bs 0) 77) in
    let name = not (eqb (at bs 1) 76) in
    let tests = ▷_none (when (ltb (length bs) head_length) 16) (when (misnamed bs) 15 ▷ when (miscounted bs) 16) e in
    let two = ▷_none (when (misnamed bs) 15) (when (miscounted bs) 16) tests.1 in
    let named = or_none _ (not (eqb (version_of bs) (version (edition_of bs)))) (when_none (misnamed bs) 14 two.0) in
    let third = or_none (mark || name) (not (eqb (at bs 2) 80)) named.0 in
    let first = or_none mark name third.0 in
    let counted = or_none (ltb greatest_count (count_of bs)) _ (when_none (miscounted bs) 15 two.1) in
    record {
      first = same_number (at bs 0) 77 first.0;
      second = same_number (at bs 1) 76 first.1;
      third = same_number (at bs 2) 80 third.1;
      version = same_number (version_of bs) (version (edition_of bs)) named.1;
      few = ltb-false greatest_count (count_of bs) counted.0;
      size = same_number (length bs) (record_start (edition_of bs) (count_of bs)) counted.1;
    }

-- a list whose head is not refused has a head
pub headed_long : (bs : List ℕ) → head_refusal bs ≡ 0 → head_length ≤ length bs
headed_long bs e = omega (arith, (headed bs e).size)

-- the records that a list counts stand in it
pub record-inside : (bs : List ℕ) (j : ℕ) → head_refusal bs ≡ 0 → j < count_of bs
    → (j ≤ greatest_count) × (record_start (edition_of bs) j + record_length (edition_of bs) ≤ length bs)
record-inside bs j e l =
    let head = headed bs e in
    let edition = edition_of bs in (
      omega (arith, head.few),
      subst (record_start edition j + record_length edition ≤◌) (sym head.size) (ends_within edition j (count_of bs) l),
    )

-- the edition of a list whose version is that of an edition
pub edition_named : (e : Edition) (bs : List ℕ) → version_of bs ≡ version e → edition_of bs ≡ e
unfolding edition_of
edition_named First bs v = ap (λ (t : Bool). cond t Second First) (ap (λ (n : ℕ). eqb n 2) v)
edition_named Second bs v = ap (λ (t : Bool). cond t Second First) (ap (λ (n : ℕ). eqb n 2) v)

module _ (e : Edition) (ss : List Pass) where
  pub length_encode : length (encode e ss) ≡ record_start e (length ss)
  unfolding encode
  length_encode = omega (arith, length_passes e ss)

  pub version_encode : version_of (encode e ss) ≡ version e
  unfolding encode
  version_encode = go e
    where
      go : (e : Edition) → version e % 256 + 256 * (version e / 256 % 256) ≡ version e
      go First = refl
      go Second = refl

  pub edition_encode : edition_of (encode e ss) ≡ e
  edition_encode = edition_named e (encode e ss) version_encode

  pub count_encode : length ss < 65536 → count_of (encode e ss) ≡ length ss
  unfolding encode
  count_encode h = join16 (length ss) h

  named-encode : misnamed (encode e ss) ≡ false
  unfolding misnamed encode
  named-encode =
      let same = version_encode ∙ ap version (sym edition_encode) in
      ap not (eq-eqb (version_of (encode e ss)) (version (edition_of (encode e ss))) same)

  counted-encode : length ss < 65536 → miscounted (encode e ss) ≡ ltb greatest_count (length ss)
  unfolding miscounted
  counted-encode h =
      let n = count_encode h in
      let size = length_encode ∙ ap₂ record_start (sym edition_encode) (sym n) in
      let same = eq-eqb (length (encode e ss))
      (record_start (edition_of (encode e ss)) (count_of (encode e ss))) size in
      ap₂ (λ (s t : Bool). s || not t) (ap (ltb greatest_count) n) same ∙ or-false (ltb greatest_count (length ss))

  -- of a list's head, only the count may be refused
  pub head_encode : length ss < 65536 → head_refusal (encode e ss) ≡ when (ltb greatest_count (length ss)) 16
  unfolding head_refusal
  head_encode h =
      let long = le-ltb (length (encode e ss)) head_length (omega (arith, length_encode)) in
      ap₂ (λ (s t : Bool). when s 16 ▷ when t 15 ▷ when (miscounted (encode e ss)) 16) long named-encode
      ∙ ap (λ (t : Bool). when t 16) (counted-encode h)

  -- the passes that a list of written passes is read as, and that no record of it is malformed
  records-encode : drop (record_start e 0) (encode e ss) ≡ encode_passes e ss
  unfolding encode
  records-encode = go e
    where
      go : (d : Edition) → drop (record_start d 0) (encode_head e (length ss) ++ encode_passes e ss)
          ≡ encode_passes e ss
      go First = refl
      go Second = refl

  pub passes_encode : length ss < 65536 → Fit e ss
      → (passes_of (encode e ss) ≡ ss) × (every (well (encode e ss)) (from 0 (count_of (encode e ss))) ≡ true)
  unfolding passes_of
  passes_encode h f =
      let n = count_encode h in
      let r = read-passes e (encode e ss) ss 0 f records-encode in (
        ap₂ (λ (d : Edition) (k : ℕ). map (pass_in d (encode e ss)) (from 0 k)) edition_encode n ∙ r.0,
        ap₂ (λ (d : Edition) (k : ℕ). every (well_in d (encode e ss)) (from 0 k)) edition_encode n ∙ r.1,
      )

  -- passes, written and read
  pub decode_encode : length ss ≤ greatest_count → Fit e ss → decode (encode e ss) ≡ some ss
  unfolding decode
  decode_encode h f =
      let cs = encode e ss in
      let head : head_refusal cs ≡ 0 =
      head_encode (omega arith) ∙ ap (λ (t : Bool). when t 16) (le-ltb greatest_count (length ss) h) in
      let records = passes_encode (omega arith) f in
      let read : (eqb (head_refusal cs) 0 && every (well cs) (from 0 (count_of cs))) ≡ true =
      and_intro (eq-eqb (head_refusal cs) 0 head) records.1 in
      ap (λ (t : Bool). cond t (some (passes_of cs)) none) read ∙ ap some records.0

-- what a list has that is read as the passes ss
pub record Decoded (bs : List ℕ) (ss : List Pass) : Type 0 where
  pub head : head_refusal bs ≡ 0
  pub formed : every (well bs) (from 0 (count_of bs)) ≡ true
  pub passes : passes_of bs ≡ ss

pub decoded : (bs : List ℕ) (ss : List Pass) → decode bs ≡ some ss → Decoded bs ss
unfolding decode
decoded bs ss e = go (accepted bs) refl e
  where
    go : (t : Bool) → accepted bs ≡ t → cond t (some (passes_of bs)) none ≡ some ss → Decoded bs ss
    go true d f = record {
      head = eqb-true (head_refusal bs) 0 (and_elim_left (eqb (head_refusal bs) 0) _ d);
      formed = and_elim_right (eqb (head_refusal bs) 0) _ d;
      passes = cc;
    }
    go false d f = let z : ◌≡◌ {A = ℕ} 0 1 = cc in absurd (omega arith)

pub length_passes_of : (bs : List ℕ) → length (passes_of bs) ≡ count_of bs
unfolding passes_of
length_passes_of bs = length-map (from 0 (count_of bs)) (pass_here bs) ∙ length_from 0 (count_of bs)

-- what stands past the end of a list of passes
abbrev pub no_pass : Pass
no_pass = record { a = 0; b = 0; area = 0; rule = Limited 0; neighbours = 4 }

-- among the passes stands that of each record
pub passes_of_at : (bs : List ℕ) (j : ℕ) → j < count_of bs → get_or (passes_of bs) j no_pass ≡ pass_here bs j
unfolding passes_of
passes_of_at bs j h = map_at (pass_here bs) no_pass (count_of bs) j h

-- the head of a list that is not refused
pub head_written : (bs : List ℕ) → Bytes bs → Headed bs
    → take head_length bs ≡ encode_head (edition_of bs) (length (passes_of bs))
head_written bs b h =
    let named : bytes16 (version (edition_of bs)) ≡ at bs 3 ∷ at bs 4 ∷ [] =
    ap bytes16 (sym h.version) ∙ split16 (at bs 3) (at bs 4) (b.each 3) (b.each 4) in
    let count : bytes16 (length (passes_of bs)) ≡ at bs 5 ∷ at bs 6 ∷ [] =
    ap bytes16 (length_passes_of bs) ∙ split16 (at bs 5) (at bs 6) (b.each 5) (b.each 6) in
    take_at bs 0 head_length (omega (arith, h.size)) ∙ cc (h.first, h.second, h.third)

-- a list, read and written
pub encode_decode : (bs : List ℕ) → Bytes bs → (ss : List Pass) → decode bs ≡ some ss → bs ≡ encode (edition_of bs) ss
unfolding passes_of encode
encode_decode bs b ss e =
    let d = decoded bs ss e in
    let h = headed bs d.head in
    let edition = edition_of bs in
    let size : length bs ≡ record_start edition (0 + count_of bs) =
    h.size ∙ ap (record_start edition) (sym (zero-add (count_of bs))) in
    let first : head_length ≡ record_start edition 0 = at_first edition in
    sym (take-append-drop head_length bs)
    ∙ ap₂ ◌++◌ (head_written bs b h)
    (ap (λ (o : ℕ). drop o bs) first ∙ written-passes edition bs b 0 (count_of bs) size d.formed)
    ∙ ap (encode edition) d.passes
  where
    at_first : (e : Edition) → head_length ≡ record_start e 0
    at_first First = refl
    at_first Second = refl

pub storable_at : (e : Edition) (bs : List ℕ) → Bytes bs → (i : ℕ) → Storable e (pass_at e bs i)
unfolding pass_at
storable_at e bs b i = record {
  a_fits = b.each i;
  b_fits = b.each (i + 1);
  area_fits = omega (arith, two (i + 4), two (i + 4 + 2));
  rule_fits = numbers_rule (numbers_at bs i) (b.each (i + 3)) (two (i + 8)) (two (i + 10));
  neighbours_fit = fits e;
}
  where
    two : (j : ℕ) → number16 bs j < 65536
    two j = omega (arith, b.each j, b.each (j + 1))

    fits : (e : Edition) → NeighboursFit e (neighbours_at e bs i)
    fits First = refl
    fits Second = b.each (i + 12)

pub storable_passes : (bs : List ℕ) → Bytes bs → Fit (edition_of bs) (passes_of bs)
unfolding passes_of
storable_passes bs b = go (from 0 (count_of bs))
  where
    go : (js : List ℕ) → Fit (edition_of bs) (map (pass_here bs) js)
    go [] = no-pass
    go (j ∷ js) = more (storable_at (edition_of bs) bs b (record_start (edition_of bs) j)) (go js)

-- a list of bytes is read as the passes ss and names an edition exactly when it is what they are written as in that
-- edition
pub decodes : (e : Edition) (bs : List ℕ) → Bytes bs → (ss : List Pass)
    → ((decode bs ≡ some ss) × (version_of bs ≡ version e)) ↔ (Listable e ss × (bs ≡ encode e ss))
decodes e bs b ss = (read, write)
  where
    read : (decode bs ≡ some ss) × (version_of bs ≡ version e) → Listable e ss × (bs ≡ encode e ss)
    read r =
        let d = decoded bs ss r.0 in
        let few = (headed bs d.head).few in
        let named = edition_named e bs r.1 in (
          record {
            few = subst (◌≤ greatest_count) (sym (length_passes_of bs) ∙ ap length d.passes) few;
            each = subst (λ (f : Edition). Fit f ss) named
                (subst (Fit (edition_of bs)) d.passes (storable_passes bs b));
          },
          encode_decode bs b ss r.0 ∙ ap (λ (f : Edition). encode f ss) named,
        )

    write : Listable e ss × (bs ≡ encode e ss) → (decode bs ≡ some ss) × (version_of bs ≡ version e)
    write l = (
      ap decode l.1 ∙ decode_encode e ss l.0.few l.0.each,
      ap version_of l.1 ∙ version_encode e ss,
    )
