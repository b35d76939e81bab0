-- The grammar and the parts of a header say the same.
--
--   header_accepts   a header with these numbers, and then the raster: the grammar makes these numbers, and leaves it
--   header_parts     what the grammar makes of a list of bytes is a header with its numbers, and then what it leaves
--   header_iff       both
--
-- The first two hold with any parser of what stands before the numbers that takes the header's gaps, and nothing but
-- gaps (`header_accepts_with`, `header_parts_with`).
--
-- Assumes nothing.
use Prim.Native.Nat.{ℕ}
use mathlib.Core.Path.{◌≡◌, sym, ap, ◌∙◌}
use mathlib.Core.Logic.{◌↔◌}
use mathlib.Core.Bool.{true}
use mathlib.Core.List.{List, [], ◌∷◌, ◌++◌, append_assoc}
use mathlib.Mathlib.Data.Bool.Basic.{and_elim_left}
use native.Mathlib.Omega.{arith}
use lib.ListN.{length}
use borrow.Author.Tests.{le-leb}
use Rattle.planes.specs.Lists.{every}
use Rattle.texts.specs.Ascii.{is_digit, Numeral}
use Rattle.gaps.specs.Parsers.{Parser, parsed, take_while}
use Rattle.gaps.specs.Gaps.{Gap, gap}
use Rattle.headers.specs.Grammar.{mark, numeral, field, Numbers, header_with, header}
use Rattle.headers.specs.Headers.{IsHeader}
use Rattle.gaps.proofs.Bytes.{white_not_digit}
use Rattle.gaps.proofs.Parsers.{some_present, while_stops, run_splits}
use Rattle.gaps.proofs.Gaps.{GapSplit, gap_splits, gap_accepts, gap_no_digit, no_pieces}
use Rattle.headers.proofs.Grammar.{Field, Parts, field_present, header_passed}

-- ## From the parts to the grammar

number_accepts : {x : ℕ} {s : List ℕ} → Numeral x s → (t : List ℕ) → take_while is_digit t ≡ []
    → numeral (s ++ t) ≡ parsed x t
unfolding numeral
number_accepts {x} {s} n t none =
    let stops = while_stops is_digit s t n.digits none in
    rw (stops.0, stops.1, some_present s t n.present, le-leb (length s) 6 n.few)
    (ap (λ (v : ℕ). parsed v t) n.value_is)

-- a parser takes all of s that stands before a digit, and leaves the digit and what follows
abbrev pub Takes : Parser (Unit {0}) → List ℕ → Type 0
Takes before s = (b : ℕ) (t : List ℕ) → is_digit b ≡ true → before (s ++ (b ∷ t)) ≡ parsed tt (b ∷ t)

gap_taken : {s : List ℕ} → Gap s → Takes gap s
gap_taken g b t e = gap_accepts g (b ∷ t) ∙ no_pieces b t e

module _ (before : Parser (Unit {0})) where
  field-accepts : (s : List ℕ) {x : ℕ} {d : List ℕ} → Takes before s → Numeral x d → (t : List ℕ)
      → take_while is_digit t ≡ [] → field before (s ++ (d ++ t)) ≡ parsed x t
  field-accepts s {d = []} takes n t none = let some = n.present in absurd (omega arith)
  field-accepts s {d = b ∷ d} takes n t none =
      let digit : is_digit b ≡ true = and_elim_left (is_digit b) (every is_digit d) n.digits in
      field_present before (s ++ (b ∷ (d ++ t))) (b ∷ (d ++ t)) (takes b (d ++ t) digit) ∙ number_accepts n t none

  pub header_accepts_with : {bytes : List ℕ} {w h maxval : ℕ} {raster : List ℕ}
      (p : IsHeader bytes w h maxval raster) → Takes before p.gap₁ → Takes before p.gap₂ → Takes before p.gap₃
      → header_with before bytes ≡ parsed (record { width = w; height = h; maxval = maxval }) raster
  unfolding header_with mark
  header_accepts_with {bytes} {w} {h} {maxval} {raster} p takes₁ takes₂ takes₃ =
      let after_maxval = p.separator ∷ raster in
      let after-h = p.gap₃ ++ (p.maxval_digits ++ after_maxval) in
      let after-w = p.gap₂ ++ (p.h_digits ++ after-h) in
      let after_mark = p.gap₁ ++ (p.w_digits ++ after-w) in
      let nested : bytes ≡ 80 ∷ 54 ∷ after_mark = p.parts ∙ simp append_assoc in
      let w-field = field-accepts p.gap₁ takes₁ p.w_is after-w (gap_no_digit p.gap₂_is _) in
      let h-field = field-accepts p.gap₂ takes₂ p.h_is after-h (gap_no_digit p.gap₃_is _) in
      let end : take_while is_digit after_maxval ≡ [] = rw (white_not_digit p.separator p.separator_is) in
      let maxval-field = field-accepts p.gap₃ takes₃ p.maxval_is after_maxval end in
      rw (nested, w-field, h-field, maxval-field, p.separator_is)

pub header_accepts : {bytes : List ℕ} {w h maxval : ℕ} {raster : List ℕ} → IsHeader bytes w h maxval raster
    → header bytes ≡ parsed (record { width = w; height = h; maxval = maxval }) raster
unfolding header
header_accepts p =
    header_accepts_with gap p (gap_taken p.gap₁_is) (gap_taken p.gap₂_is) (gap_taken p.gap₃_is)

-- ## From the grammar to the parts

-- a gap, a number, and the rest
pub record Split (bytes : List ℕ) (x : ℕ) (rest : List ℕ) : Type 0 where
  pub gap : List ℕ
  pub numeral : List ℕ
  pub is : bytes ≡ gap ++ (numeral ++ rest)
  pub gap_is : Gap gap
  pub numeral_is : Numeral x numeral

-- a parser takes nothing but gaps
abbrev pub Splits : Parser (Unit {0}) → Type 0
Splits before = (bytes rest : List ℕ) → before bytes ≡ parsed tt rest → GapSplit bytes rest

module _ (before : Parser (Unit {0})) (splits : Splits before) where
  field-splits : {bytes : List ℕ} {x : ℕ} {rest : List ℕ} → Field before bytes x rest → Split bytes x rest
  field-splits {bytes} p =
      let first = splits bytes p.left p.taken in
      let digits = run_splits p.then.taken in
      record {
        gap = first.gap;
        numeral = p.then.digits;
        is = first.is ∙ ap (λ (l : List ℕ). first.gap ++ l) digits.0;
        gap_is = first.gap_is;
        numeral_is = record {
          digits = digits.1;
          present = p.then.taken.present;
          few = p.then.few;
          value_is = sym p.then.value_is;
        };
      }

  pub header_parts_with : {bytes : List ℕ} {n : Numbers} {raster : List ℕ} → Parts before bytes n raster
      → IsHeader bytes n.width n.height n.maxval raster
  header_parts_with {bytes} {n} {raster} p =
      let w = field-splits p.width_is in
      let h = field-splits p.height_is in
      let m = field-splits p.maxval_is in
      let from-maxval = m.is ∙ ap (λ (l : List ℕ). m.gap ++ (m.numeral ++ l)) p.separator.is in
      let from-h = h.is ∙ ap (λ (l : List ℕ). h.gap ++ (h.numeral ++ l)) from-maxval in
      let from-w = w.is ∙ ap (λ (l : List ℕ). w.gap ++ (w.numeral ++ l)) from-h in
      let after-h = m.gap ++ (m.numeral ++ (p.separator.byte ∷ raster)) in
      let nested : bytes ≡ 80 ∷ 54 ∷ (w.gap ++ (w.numeral ++ (h.gap ++ (h.numeral ++ after-h)))) =
      p.marked ∙ ap (λ (l : List ℕ). 80 ∷ 54 ∷ l) from-w in
      record {
        gap₁ = w.gap;
        w_digits = w.numeral;
        gap₂ = h.gap;
        h_digits = h.numeral;
        gap₃ = m.gap;
        maxval_digits = m.numeral;
        separator = p.separator.byte;
        parts = nested ∙ simp append_assoc;
        gap₁_is = w.gap_is;
        w_is = w.numeral_is;
        gap₂_is = h.gap_is;
        h_is = h.numeral_is;
        gap₃_is = m.gap_is;
        maxval_is = m.numeral_is;
        separator_is = p.separator.test;
      }

pub header_parts : {bytes : List ℕ} {n : Numbers} {raster : List ℕ} → Parts gap bytes n raster
    → IsHeader bytes n.width n.height n.maxval raster
header_parts = header_parts_with gap gap_splits

-- the grammar makes these numbers exactly of a header with them
pub header_iff : (bytes : List ℕ) (n : Numbers) (raster : List ℕ)
    → (header bytes ≡ parsed n raster) ↔ IsHeader bytes n.width n.height n.maxval raster
header_iff bytes n raster = (λ e. header_parts (header_passed bytes n raster e), header_accepts)
