-- Headers without comments are read as before, and no others were read.
--
--   uncommented_header_lem   where no number sign stands in a header that begins the bytes, the grammar makes of them
--                            what the grammar with whitespace alone makes of them
--   commented_header     where one does, the grammar with whitespace alone fails
--
-- Assumes nothing.
use Prim.Native.Nat.{ℕ, ◌-◌}
use mathlib.Core.Path.{◌≡◌, refl, sym, ap, ◌∙◌}
use mathlib.Core.Bool.{Bool, true, false, true≢false}
use mathlib.Core.List.{List, [], ◌∷◌, ◌++◌, append_assoc}
use native.Mathlib.Omega.{arith}
use lib.ListN.{length, take, length-append}
use lib.Seq.{take-append_seam}
use Rattle.planes.specs.Lists.{every}
use Rattle.planes.proofs.Lists.{every_both, every_append, every_parts}
use Rattle.gaps.specs.Bytes.{is_white, is_sign, not_sign}
use Rattle.gaps.specs.Parsers.{Parsed, failed, parsed, take_while, take_while1}
use Rattle.gaps.specs.Gaps.{Gap}
use Rattle.gaps.proofs.Bytes.{digit_not_white, digit_not_sign, white_not_sign}
use Rattle.gaps.proofs.Parsers.{next_passed, Run, run_passed, some_present, while_stops, run_splits}
use Rattle.gaps.proofs.Gaps.{gap_some, gap_spaces, spaces_gap}
use Rattle.headers.specs.Grammar.{Numbers, header}
use Rattle.headers.specs.Headers.{IsHeader}
use Rattle.headers.specs.Uncommented.{spaces, uncommented_header, signless, Uncommented}
use Rattle.headers.proofs.Grammar.{Field, Parts, header_passed, header_passed_with}
use Rattle.headers.proofs.Headers.{Takes, Splits}
use Rattle.headers.proofs.Headers.{header_accepts, header_accepts_with, header_parts, header_parts_with}

-- ## Whitespace alone

spaces_taken : {s : List ℕ} → Gap s → every is_white s ≡ true → Takes spaces s
unfolding spaces
spaces_taken {s} g e b t digit =
    let none : take_while is_white (b ∷ t) ≡ [] = rw (digit_not_white b digit) in
    let stops = while_stops is_white s (b ∷ t) e none in
    rw (stops.0, stops.1, some_present s (b ∷ t) (gap_some g))

spaces_splits : Splits spaces
unfolding spaces
spaces_splits bytes rest e =
    let first = next_passed (take_while1 is_white bytes) _ tt rest e in
    let run = run_passed is_white bytes first.value first.left first.first in
    let split = run_splits run in
    let left : first.left ≡ rest = cc first.second in
    record {
      gap = first.value;
      gap_is = spaces_gap first.value split.1 run.present;
      is = split.0 ∙ ap (λ (l : List ℕ). first.value ++ l) left;
    }

-- what the grammar with whitespace alone takes is a header
before_header : (bytes : List ℕ) (n : Numbers) (raster : List ℕ) → uncommented_header bytes ≡ parsed n raster
    → IsHeader bytes n.width n.height n.maxval raster
unfolding uncommented_header
before_header bytes n raster e = header_parts_with spaces spaces_splits (header_passed_with spaces bytes n raster e)

-- ## A header with no number sign

pub before_rest : (s t : List ℕ) → take (length (s ++ t) - length t) (s ++ t) ≡ s
before_rest s t =
    let counted = length-append s t in
    let place : length (s ++ t) - length t ≡ length s = omega arith in
    rw place (take-append_seam s t)

-- the three gaps of such a header are whitespace
record Spaced (gap₁ gap₂ gap₃ : List ℕ) : Type 0 where
  first : every is_white gap₁ ≡ true
  second : every is_white gap₂ ≡ true
  third : every is_white gap₃ ≡ true

spaced : {bytes : List ℕ} {w h maxval : ℕ} {raster : List ℕ} (p : IsHeader bytes w h maxval raster)
    → signless bytes raster ≡ true → Spaced p.gap₁ p.gap₂ p.gap₃
spaced {bytes} {raster = raster} p e =
    let after₃ = p.gap₃ ++ (p.maxval_digits ++ (p.separator ∷ [])) in
    let after₂ = p.gap₂ ++ (p.h_digits ++ after₃) in
    let after₁ = p.gap₁ ++ (p.w_digits ++ after₂) in
    let head = (80 ∷ 54 ∷ []) ++ after₁ in
    let whole : bytes ≡ head ++ raster = p.parts ∙ simp append_assoc in
    let is-head : take (length bytes - length raster) bytes ≡ head =
    ap (λ (l : List ℕ). take (length l - length raster) l) whole ∙ before_rest head raster in
    let plain₁ = (every_parts not_sign (80 ∷ 54 ∷ []) after₁ (sym (ap (every not_sign) is-head) ∙ e)).1 in
    let first = every_parts not_sign p.gap₁ (p.w_digits ++ after₂) plain₁ in
    let plain₂ = (every_parts not_sign p.w_digits after₂ first.1).1 in
    let second = every_parts not_sign p.gap₂ (p.h_digits ++ after₃) plain₂ in
    let plain₃ = (every_parts not_sign p.h_digits after₃ second.1).1 in
    let third = every_parts not_sign p.gap₃ (p.maxval_digits ++ (p.separator ∷ [])) plain₃ in
    record {
      first = gap_spaces p.gap₁_is first.0;
      second = gap_spaces p.gap₂_is second.0;
      third = gap_spaces p.gap₃_is third.0;
    }

-- so the grammar with whitespace alone takes it too
header_before : {bytes : List ℕ} {w h maxval : ℕ} {raster : List ℕ} (p : IsHeader bytes w h maxval raster)
    → signless bytes raster ≡ true
    → uncommented_header bytes ≡ parsed (record { width = w; height = h; maxval = maxval }) raster
unfolding uncommented_header
header_before p e =
    let white = spaced p e in
    header_accepts_with spaces p (spaces_taken p.gap₁_is white.first) (spaces_taken p.gap₂_is white.second)
    (spaces_taken p.gap₃_is white.third)

-- ## Both grammars

pub uncommented_header_lem : (bytes : List ℕ) → Uncommented bytes → header bytes ≡ uncommented_header bytes
uncommented_header_lem bytes none = now-is (header bytes) refl
  where
    before-is : (p : Parsed Numbers) → uncommented_header bytes ≡ p → header bytes ≡ failed → failed ≡ p
    before-is failed d e = refl
    before-is (parsed n raster) d e =
        let clash : failed ≡ parsed n raster = sym e ∙ header_accepts (before_header bytes n raster d) in
        clash

    now-is : (p : Parsed Numbers) → header bytes ≡ p → header bytes ≡ uncommented_header bytes
    now-is failed d = d ∙ before-is (uncommented_header bytes) refl d
    now-is (parsed n raster) d =
        let p = header_parts (header_passed bytes n raster d) in
        d ∙ sym (header_before p (none n.width n.height n.maxval raster p))

-- ## What was read has no number sign

-- bytes without a number sign, before the rest
record Plain (bytes rest : List ℕ) : Type 0 where
  part : List ℕ
  is : bytes ≡ part ++ rest
  plain : every not_sign part ≡ true

plain_then : {a b c : List ℕ} → Plain a b → Plain b c → Plain a c
plain_then s t = record {
  part = s.part ++ t.part;
  is = s.is ∙ ap (λ (l : List ℕ). s.part ++ l) t.is ∙ sym (append_assoc s.part t.part _);
  plain = every_append not_sign s.part t.part s.plain t.plain;
}

-- a run of bytes none of which is the number sign
plain_run : {f : ℕ → Bool} {bytes taken rest : List ℕ} → ((b : ℕ) → f b ≡ true → is_sign b ≡ false)
    → Run f bytes taken rest → Plain bytes rest
plain_run {f} {taken = taken} apart r =
    let split = run_splits r in
    let plain = every_both f f not_sign (λ b e _. rw (apart b e)) taken split.1 split.1 in
    record { part = taken; is = split.0; plain = plain }

plain_spaces : (bytes rest : List ℕ) → spaces bytes ≡ parsed tt rest → Plain bytes rest
unfolding spaces
plain_spaces bytes rest e =
    let first = next_passed (take_while1 is_white bytes) _ tt rest e in
    let left : first.left ≡ rest = cc first.second in
    let run = run_passed is_white bytes first.value rest (first.first ∙ ap (parsed first.value) left) in
    plain_run white_not_sign run

plain_field : {bytes : List ℕ} {v : ℕ} {rest : List ℕ} → Field spaces bytes v rest → Plain bytes rest
plain_field {bytes} f =
    plain_then (plain_spaces bytes f.left f.taken) (plain_run digit_not_sign f.then.taken)

plain_header : {bytes : List ℕ} {n : Numbers} {raster : List ℕ} → Parts spaces bytes n raster → Plain bytes raster
unfolding is_sign
plain_header p =
    let mark : Plain _ p.after_mark = record { part = 80 ∷ 54 ∷ []; is = p.marked; plain = refl } in
    let one = p.separator in
    let end : Plain p.after_maxval _ =
    record { part = one.byte ∷ []; is = one.is; plain = rw (white_not_sign one.byte one.test) } in
    plain_then mark (plain_then (plain_field p.width_is) (plain_then (plain_field p.height_is)
    (plain_then (plain_field p.maxval_is) end)))

plain_before : {bytes raster : List ℕ} → Plain bytes raster
    → signless bytes raster ≡ true
plain_before {raster = raster} s =
    ap (λ (l : List ℕ). every not_sign (take (length l - length raster) l)) s.is
    ∙ ap (every not_sign) (before_rest s.part raster) ∙ s.plain

pub commented_header : {bytes : List ℕ} {w h maxval : ℕ} {raster : List ℕ} → IsHeader bytes w h maxval raster
    → signless bytes raster ≡ false → uncommented_header bytes ≡ failed
unfolding uncommented_header
commented_header {bytes} {raster = raster} p e = go (uncommented_header bytes) refl
  where
    go : (q : Parsed Numbers) → uncommented_header bytes ≡ q → q ≡ failed
    go failed d = refl
    go (parsed n left) d =
        let both = sym (header_accepts (before_header bytes n left d)) ∙ header_accepts p in
        let same : left ≡ raster = cc in
        let plain = plain_before (plain_header (header_passed_with spaces bytes n left d)) in
        let clash : true ≡ false = sym (rw same at plain) ∙ e in
        absurd (true≢false clash)
