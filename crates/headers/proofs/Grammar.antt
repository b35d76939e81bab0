-- The parts of a header, each where its parser passes: the bytes that it takes and the bytes that it leaves.
-- `header_passed` gathers them, whatever parser takes what stands before each number. Assumes nothing.
use Prim.Native.Nat.{ℕ, ◌+◌, ◌≤◌}
use mathlib.Core.Path.{◌≡◌, refl, sym, ap, ◌∙◌}
use mathlib.Core.Bool.{Bool, true, false, ◌&&◌, cond}
use mathlib.Core.List.{List, [], ◌∷◌}
use native.Mathlib.Omega.{arith}
use lib.Dec.{eqb, leb}
use lib.ListN.{length, take, drop, length-append}
use borrow.Author.Tests.{leb-true, eqb-true}
use Rattle.texts.specs.Ascii.{is_digit, value}
use lib.Pointwise.{pointwise}
use Rattle.std.specs.Prelude.{Option, Some, None, MatchOption}
use Rattle.std.specs.Borrow.{Bor}
use Rattle.gaps.specs.Bytes.{is_white, move_for}
use Rattle.gaps.specs.declared.Move.TheVariants.{Skip}
use Rattle.gaps.proofs.Bytes.{skipped, not_skipped}
use Rattle.gaps.specs.Parsers.{Parser, failed, parsed, next, check, one_byte, byte, take_while1, left}
use Rattle.gaps.specs.Gaps.{gap}
use Rattle.headers.specs.Grammar.{mark, numeral, field, Numbers, header_with, header}
use Rattle.gaps.proofs.Parsers.{next_passed, check_passed, Run, run_passed, run_splits, Head, one_passed}
use Rattle.gaps.proofs.Gaps.{gap_shorter}

-- a number after what another parser takes
module _ (before : Parser (Unit {0})) (bytes : List ℕ) where
  pub field_present : (rest : List ℕ) → before bytes ≡ parsed tt rest → field before bytes ≡ numeral rest
  unfolding field
  field_present rest e = rw e

-- a number that passes: its digits, and what they leave
pub record Digits (bytes : List ℕ) (v : ℕ) (rest : List ℕ) : Type 0 where
  pub digits : List ℕ
  pub taken : Run is_digit bytes digits rest
  pub few : length digits ≤ 6
  pub value_is : v ≡ value digits

pub number_passed : (bytes : List ℕ) (v : ℕ) (rest : List ℕ) → numeral bytes ≡ parsed v rest → Digits bytes v rest
unfolding numeral
number_passed bytes v rest e =
    let digits = next_passed (take_while1 is_digit bytes) _ v rest e in
    let test = next_passed (check (leb (length digits.value) 6) digits.left) _ v rest digits.second in
    let few = check_passed (leb (length digits.value) 6) digits.left test.value test.left test.first in
    let left : digits.left ≡ rest = cc (test.second, few.1) in
    let same : v ≡ value digits.value = cc test.second in
    record {
      digits = digits.value;
      taken = run_passed is_digit bytes digits.value rest (digits.first ∙ ap (parsed digits.value) left);
      few = leb-true (length digits.value) 6 few.0;
      value_is = same;
    }

-- a field that passes: what stands before the number, and the number
pub record Field (before : Parser (Unit {0})) (bytes : List ℕ) (v : ℕ) (rest : List ℕ) : Type 0 where
  pub left : List ℕ
  pub taken : before bytes ≡ parsed tt left
  pub then : Digits left v rest

pub field_passed : (before : Parser (Unit {0})) (bytes : List ℕ) (v : ℕ) (rest : List ℕ)
    → field before bytes ≡ parsed v rest → Field before bytes v rest
unfolding field
field_passed before bytes v rest e =
    let first = next_passed (before bytes) _ v rest e in
    record { left = first.left; taken = first.first; then = number_passed first.left v rest first.second }

-- it leaves less than all
digits_shorter : {bytes : List ℕ} {v : ℕ} {rest : List ℕ} → Digits bytes v rest → length rest ≤ length bytes
digits_shorter d = rw (run_splits d.taken).0 (simp length-append (omega arith))

field_shorter : {bytes : List ℕ} {v : ℕ} {rest : List ℕ} → Field gap bytes v rest → length rest ≤ length bytes
field_shorter {bytes} p = omega (arith, digits_shorter p.then, gap_shorter bytes p.left p.taken)

pub mark_passed : (bytes : List ℕ) (u : Unit {0}) (rest : List ℕ) → mark bytes ≡ parsed u rest → bytes ≡ 80 ∷ 54 ∷ rest
unfolding mark
mark_passed bytes u rest e =
    let both = next_passed (byte 80 bytes) _ u rest e in
    let p = one_passed (λ b. eqb b 80) bytes both.value both.left both.first in
    let six = one_passed (λ b. eqb b 54) both.left u rest both.second in
    let p-is : p.byte ≡ 80 = eqb-true p.byte 80 p.test in
    let six-is : six.byte ≡ 54 = eqb-true six.byte 54 six.test in
    p.is ∙ rw (p-is, six.is, six-is)

-- a header that passes: each of its parts, and what it leaves
pub record Parts (before : Parser (Unit {0})) (bytes : List ℕ) (n : Numbers) (raster : List ℕ) : Type 0 where
  pub after_mark : List ℕ
  pub after_width : List ℕ
  pub after_height : List ℕ
  pub after_maxval : List ℕ
  pub marked : bytes ≡ 80 ∷ 54 ∷ after_mark
  pub width_is : Field before after_mark n.width after_width
  pub height_is : Field before after_width n.height after_height
  pub maxval_is : Field before after_height n.maxval after_maxval
  pub separator : Head is_white after_maxval raster

pub header_passed_with : (before : Parser (Unit {0})) (bytes : List ℕ) (n : Numbers) (raster : List ℕ)
    → header_with before bytes ≡ parsed n raster → Parts before bytes n raster
unfolding header_with
header_passed_with before bytes n raster e =
    let a = next_passed (mark bytes) _ n raster e in
    let b = next_passed (field before a.left) _ n raster a.second in
    let c = next_passed (field before b.left) _ n raster b.second in
    let d = next_passed (field before c.left) _ n raster c.second in
    let s = next_passed (one_byte is_white d.left) _ n raster d.second in
    let numbers : record { width = b.value; height = c.value; maxval = d.value } ≡ n = cc s.second in
    let same : s.left ≡ raster = cc s.second in
    let width : field before a.left ≡ parsed n.width b.left =
    b.first ∙ ap (λ (m : Numbers). parsed m.width b.left) numbers in
    let height : field before b.left ≡ parsed n.height c.left =
    c.first ∙ ap (λ (m : Numbers). parsed m.height c.left) numbers in
    let maxval : field before c.left ≡ parsed n.maxval d.left =
    d.first ∙ ap (λ (m : Numbers). parsed m.maxval d.left) numbers in
    record {
      after_mark = a.left;
      after_width = b.left;
      after_height = c.left;
      after_maxval = d.left;
      marked = mark_passed bytes a.value a.left a.first;
      width_is = field_passed before a.left n.width b.left width;
      height_is = field_passed before b.left n.height c.left height;
      maxval_is = field_passed before c.left n.maxval d.left maxval;
      separator = one_passed is_white d.left s.value raster (s.first ∙ ap (parsed s.value) same);
    }

pub header_passed : (bytes : List ℕ) (n : Numbers) (raster : List ℕ) → header bytes ≡ parsed n raster
    → Parts gap bytes n raster
unfolding header
header_passed bytes n raster e = header_passed_with gap bytes n raster e

-- the raster is no longer than all
pub header_shorter : (bytes : List ℕ) (n : Numbers) (raster : List ℕ) → header bytes ≡ parsed n raster
    → length raster ≤ length bytes
header_shorter bytes n raster e =
    let p = header_passed bytes n raster e in
    let whole = ap length p.marked in
    let last = ap length p.separator.is in
    omega (arith, field_shorter p.width_is, field_shorter p.height_is, field_shorter p.maxval_is)

-- ## The mark and the separator, by what is read

-- the first two bytes, as they are compared with the mark
abbrev pub marks : List ℕ → Bool
marks bytes = pointwise eqb (take 2 bytes) (80 ∷ 54 ∷ [])

mark_by : (bytes : List ℕ) → mark bytes ≡ cond (marks bytes) (parsed tt (drop 2 bytes)) failed
unfolding mark
mark_by [] = refl
mark_by (x ∷ []) = elim (eqb x 80) as (λ s. next (cond s (parsed tt []) failed) (λ (u : Unit {0}). byte 54)
    ≡ cond (s && false) (parsed tt []) failed) [ true ↦ refl | false ↦ refl ]
mark_by (x ∷ y ∷ xs) = first (eqb x 80)
  where
    second : (t : Bool) → cond t (parsed (tt {0}) xs) failed ≡ cond (t && true) (parsed tt xs) failed
    second true = refl
    second false = refl

    first : (s : Bool) → next (cond s (parsed tt (y ∷ xs)) failed) (λ (u : Unit {0}). byte 54)
        ≡ cond (s && (eqb y 54 && true)) (parsed tt xs) failed
    first true = second (eqb y 54)
    first false = refl

pub mark_stripped : (bytes : List ℕ) (r : Option (Bor (List ℕ)))
    → MatchOption r (marks bytes ≡ false)
    (λ x. (marks bytes ≡ true) × (x.now ≡ drop 2 bytes) × (length x.now + 2 ≡ length bytes))
    → left r ≡ mark bytes
mark_stripped bytes None other = sym (mark_by bytes ∙ rw other)
mark_stripped bytes (Some rest) (mark-is, rest_is, long) =
    ap (parsed tt) rest_is ∙ sym (mark_by bytes ∙ rw mark-is)

pub white_there : (bytes : List ℕ) {b : ℕ} {rest : List ℕ} → bytes ≡ b ∷ rest → move_for b ≡ Skip
    → one_byte is_white bytes ≡ parsed tt rest
white_there bytes {b} is e = rw (is, skipped b e)

pub white_absent : (bytes : List ℕ) {b : ℕ} {rest : List ℕ} → bytes ≡ b ∷ rest → (move_for b ≡ Skip → ⊥)
    → one_byte is_white bytes ≡ failed
white_absent bytes {b} is h = rw (is, not_skipped b h)
