-- Gaps, by their parts and by their parsers.
--
--   gap_accepts   the parser takes a whole gap, and goes on behind it
--   no_pieces     before a digit it goes no further
--   gap_splits    where the parser passes, a gap begins the bytes, and what it leaves follows it
--   gap_some      a gap is not empty
--   gap_shorter   so that the parser leaves less than all
--   gap_spaces    a gap with no number sign is whitespace
--
-- Assumes nothing.
use Prim.Native.Nat.{ℕ, ◌≤◌, ◌<◌}
use mathlib.Core.Path.{◌≡◌, refl, sym, ap, ◌∙◌}
use mathlib.Core.Bool.{Bool, true, false, ◌||◌, cond, false≢true}
use mathlib.Core.Logic.{◌⊎◌, inl, inr}
use mathlib.Core.List.{List, [], ◌∷◌, ◌++◌, append_assoc}
use mathlib.Mathlib.Data.Bool.Basic.{and_elim_left, and_elim_right}
use native.Mathlib.Omega.{arith}
use lib.ListN.{length, length-append}
use borrow.Author.Tests.{not-true}
use Rattle.planes.specs.Lists.{every}
use Rattle.planes.proofs.Tests.{or_none}
use Rattle.planes.proofs.Lists.{every_append, every_parts}
use Rattle.texts.specs.Ascii.{is_digit}
use Rattle.gaps.specs.Bytes.{is_white, is_sign, not_sign, ends_comment}
use Rattle.gaps.specs.Parsers.{failed, parsed, take_while}
use Rattle.gaps.specs.Gaps.{is_text, Piece, white, comment, Gap, one, more, pieces, comment_and_then, begun, gap}
use Rattle.gaps.proofs.Bytes.{white_not_digit, digit_not_white, digit_not_sign}
use Rattle.gaps.proofs.Bytes.{sign_is, sign_not_digit}

-- ## One byte

module _ (b : ℕ) (bytes : List ℕ) where
  pub pieces_white : is_white b ≡ true → pieces (b ∷ bytes) ≡ pieces bytes
  unfolding pieces
  pieces_white e = rw e

  pub pieces_sign : is_white b ≡ false → is_sign b ≡ true → pieces (b ∷ bytes) ≡ comment_and_then bytes
  unfolding pieces
  pieces_sign d e = rw (d, e)

  pub pieces_stop : is_white b ≡ false → is_sign b ≡ false → pieces (b ∷ bytes) ≡ parsed tt (b ∷ bytes)
  unfolding pieces
  pieces_stop d e = rw (d, e)

  pub comment_end : ends_comment b ≡ true → comment_and_then (b ∷ bytes) ≡ pieces bytes
  unfolding pieces
  comment_end e = rw e

  pub comment_text : ends_comment b ≡ false → comment_and_then (b ∷ bytes) ≡ comment_and_then bytes
  unfolding pieces
  comment_text e = rw e

pub pieces_none : pieces [] ≡ parsed tt []
unfolding pieces
pieces_none = refl

pub comment_unended : comment_and_then [] ≡ failed
unfolding pieces
comment_unended = refl

-- ## From the parts to the parsers

sign_white : is_white 35 ≡ false
unfolding is_white
sign_white = refl

sign_sign : is_sign 35 ≡ true
unfolding is_sign
sign_sign = refl

comment_taken : (text : List ℕ) (end : ℕ) (t : List ℕ) → every is_text text ≡ true → ends_comment end ≡ true
    → comment_and_then (text ++ (end ∷ t)) ≡ pieces t
comment_taken [] end t e d = comment_end end t d
comment_taken (b ∷ text) end t e d =
    let here : ends_comment b ≡ false = not-true (ends_comment b) (and_elim_left (is_text b) (every is_text text) e) in
    comment_text b (text ++ (end ∷ t)) here
    ∙ comment_taken text end t (and_elim_right (is_text b) (every is_text text) e) d

piece_taken : {p : List ℕ} → Piece p → (t : List ℕ) → pieces (p ++ t) ≡ pieces t
piece_taken (white {b} e) t = pieces_white b t e
piece_taken (comment text end e d) t =
    pieces_sign 35 ((text ++ (end ∷ [])) ++ t) sign_white sign_sign
    ∙ rw append_assoc (comment_taken text end t e d)

gap_taken : {s : List ℕ} → Gap s → (t : List ℕ) → pieces (s ++ t) ≡ pieces t
gap_taken (one p) t = piece_taken p t
gap_taken (more {p} {s} first rest) t = rw append_assoc (piece_taken first (s ++ t) ∙ gap_taken rest t)

-- the first byte of a gap
pub record Begins (s : List ℕ) : Type 0 where
  pub byte : ℕ
  pub rest : List ℕ
  pub is : s ≡ byte ∷ rest
  pub begins : (is_white byte || is_sign byte) ≡ true

piece_begins : {p : List ℕ} → Piece p → Begins p
piece_begins (white {b} e) = record { byte = b; rest = []; is = refl; begins = rw e }
piece_begins (comment text end e d) =
    record { byte = 35; rest = text ++ (end ∷ []); is = refl; begins = rw (sign_white, sign_sign) }

pub gap_begins : {s : List ℕ} → Gap s → Begins s
gap_begins (one p) = piece_begins p
gap_begins (more {p} {s} first rest) =
    let b = piece_begins first in
    record { byte = b.byte; rest = b.rest ++ s; is = ap (λ (l : List ℕ). l ++ s) b.is; begins = b.begins }

-- a byte that begins a piece is no digit
begins_not_digit : (b : ℕ) → (is_white b || is_sign b) ≡ true → is_digit b ≡ false
begins_not_digit b e = go (is_white b) (is_sign b) refl refl e
  where
    go : (s t : Bool) → is_white b ≡ s → is_sign b ≡ t → (s || t) ≡ true → is_digit b ≡ false
    go true t d f h = white_not_digit b d
    go false true d f h = sign_not_digit b f
    go false false d f h = absurd (false≢true h)

pub gap_no_digit : {s : List ℕ} → Gap s → (t : List ℕ) → take_while is_digit (s ++ t) ≡ []
gap_no_digit g t =
    let b = gap_begins g in
    rw (b.is, begins_not_digit b.byte b.begins)

-- the parser takes a whole gap, and goes on behind it
pub gap_accepts : {s : List ℕ} → Gap s → (t : List ℕ) → gap (s ++ t) ≡ pieces t
unfolding gap
gap_accepts {s} g t =
    let b = gap_begins g in
    let test : begun (s ++ t) ≡ true = rw b.is b.begins in
    rw test (gap_taken g t)

-- before a digit there is none
pub no_pieces : (b : ℕ) (bytes : List ℕ) → is_digit b ≡ true → pieces (b ∷ bytes) ≡ parsed tt (b ∷ bytes)
no_pieces b bytes e = pieces_stop b bytes (digit_not_white b e) (digit_not_sign b e)

-- ## From the parsers to the parts

-- a gap, and what follows it
pub record GapSplit (bytes rest : List ℕ) : Type 0 where
  pub gap : List ℕ
  pub gap_is : Gap gap
  pub is : bytes ≡ gap ++ rest

-- no piece, or a gap, before the rest
abbrev Split : List ℕ → List ℕ → Type 0
Split bytes rest = (bytes ≡ rest) ⊎ GapSplit bytes rest

-- what is left of a comment, and then no piece or a gap before the rest
record CommentSplit (bytes rest : List ℕ) : Type 0 where
  text : List ℕ
  end : ℕ
  tail : List ℕ
  is : bytes ≡ text ++ (end ∷ tail)
  text_is : every is_text text ≡ true
  end_is : ends_comment end ≡ true
  then : Split tail rest

piece_then : {p tail rest : List ℕ} → Piece p → Split tail rest → GapSplit (p ++ tail) rest
piece_then {p} first (inl same) = record { gap = p; gap_is = one first; is = ap (λ (l : List ℕ). p ++ l) same }
piece_then {p} {tail} {rest} first (inr s) = record {
  gap = p ++ s.gap;
  gap_is = more first s.gap_is;
  is = rw append_assoc (ap (λ (l : List ℕ). p ++ l) s.is);
}

comment_then : (b : ℕ) (bytes rest : List ℕ) → b ≡ 35 → CommentSplit bytes rest → GapSplit (b ∷ bytes) rest
comment_then b bytes rest sign c =
    let first : Piece _ = comment c.text c.end c.text_is c.end_is in
    let whole : b ∷ bytes ≡ ((35 ∷ []) ++ c.text ++ (c.end ∷ [])) ++ c.tail = rw (sign, c.is) (simp append_assoc) in
    rw whole (piece_then first c.then)

module _ (b : ℕ) (bytes rest : List ℕ) where
  -- where a piece begins the bytes, by what follows its first byte
  split-begun : begun (b ∷ bytes) ≡ true → (pieces bytes ≡ parsed tt rest → Split bytes rest)
      → (comment_and_then bytes ≡ parsed tt rest → CommentSplit bytes rest)
      → pieces (b ∷ bytes) ≡ parsed tt rest → GapSplit (b ∷ bytes) rest
  split-begun begins after-white after-sign e = go (is_white b) (is_sign b) refl refl begins
    where
      go : (s t : Bool) → is_white b ≡ s → is_sign b ≡ t → (s || t) ≡ true → GapSplit (b ∷ bytes) rest
      go true t d f h = piece_then (white d) (after-white (sym (pieces_white b bytes d) ∙ e))
      go false true d f h = comment_then b bytes rest (sign_is b f) (after-sign (sym (pieces_sign b bytes d f) ∙ e))
      go false false d f h = absurd (false≢true h)

mutual
  split-pieces : (bytes rest : List ℕ) → pieces bytes ≡ parsed tt rest → Split bytes rest
  split-pieces [] rest e = let same = sym pieces_none ∙ e in inl (cc)
  split-pieces (b ∷ bytes) rest e =
      go (begun (b ∷ bytes)) refl (λ h. split-pieces bytes rest h) (λ h. split-comment bytes rest h)
    where
      go : (t : Bool) → begun (b ∷ bytes) ≡ t → (pieces bytes ≡ parsed tt rest → Split bytes rest)
          → (comment_and_then bytes ≡ parsed tt rest → CommentSplit bytes rest) → Split (b ∷ bytes) rest
      go true d after-white after-sign = inr (split-begun b bytes rest d after-white after-sign e)
      go false d after-white after-sign =
          let neither = or_none (is_white b) (is_sign b) d in
          let same = sym (pieces_stop b bytes neither.0 neither.1) ∙ e in
          inl (cc)

  split-comment : (bytes rest : List ℕ) → comment_and_then bytes ≡ parsed tt rest → CommentSplit bytes rest
  split-comment [] rest e =
      let none = sym comment_unended ∙ e in
      let clash : ◌≡◌ {A = ℕ} 0 1 = cc in
      absurd (omega arith)
  split-comment (b ∷ bytes) rest e =
      go (ends_comment b) refl (λ h. split-pieces bytes rest h) (λ h. split-comment bytes rest h)
    where
      go : (t : Bool) → ends_comment b ≡ t → (pieces bytes ≡ parsed tt rest → Split bytes rest)
          → (comment_and_then bytes ≡ parsed tt rest → CommentSplit bytes rest) → CommentSplit (b ∷ bytes) rest
      go true d after-end after_text = record {
        text = [];
        end = b;
        tail = bytes;
        is = refl;
        text_is = refl;
        end_is = d;
        then = after-end (sym (comment_end b bytes d) ∙ e);
      }
      go false d after-end after_text =
          let c = after_text (sym (comment_text b bytes d) ∙ e) in
          record {
            text = b ∷ c.text;
            end = c.end;
            tail = c.tail;
            is = ap (λ (l : List ℕ). b ∷ l) c.is;
            text_is = rw d c.text_is;
            end_is = c.end_is;
            then = c.then;
          }

pub gap_splits : (bytes rest : List ℕ) → gap bytes ≡ parsed tt rest → GapSplit bytes rest
unfolding gap
gap_splits [] rest e = let clash : ◌≡◌ {A = ℕ} 0 1 = cc in absurd (omega arith)
gap_splits (b ∷ bytes) rest e = go (begun (b ∷ bytes)) refl e
  where
    go : (t : Bool) → begun (b ∷ bytes) ≡ t → cond t (pieces (b ∷ bytes)) failed ≡ parsed tt rest
        → GapSplit (b ∷ bytes) rest
    go true d h = split-begun b bytes rest d (split-pieces bytes rest) (split-comment bytes rest) h
    go false d h = let clash : ◌≡◌ {A = ℕ} 0 1 = cc in absurd (omega arith)

-- it is not empty
pub gap_some : {s : List ℕ} → Gap s → 1 ≤ length s
gap_some g = let b = gap_begins g in rw b.is (omega arith)

-- so that it leaves less than all
pub gap_shorter : (bytes rest : List ℕ) → gap bytes ≡ parsed tt rest → length rest < length bytes
gap_shorter bytes rest e =
    let s = gap_splits bytes rest e in
    let some = gap_some s.gap_is in
    rw s.is (simp length-append (omega arith))

-- ## Gaps with no number sign

piece_white : {p : List ℕ} → Piece p → every not_sign p ≡ true → every is_white p ≡ true
unfolding is_sign
piece_white (white e) h = rw e
piece_white (comment text end e d) h = absurd (false≢true h)

pub gap_spaces : {s : List ℕ} → Gap s → every not_sign s ≡ true → every is_white s ≡ true
gap_spaces (one p) h = piece_white p h
gap_spaces (more {p} {s} first rest) h =
    let both = every_parts not_sign p s h in
    every_append is_white p s (piece_white first both.0) (gap_spaces rest both.1)

-- whitespace is a gap
pub spaces_gap : (s : List ℕ) → every is_white s ≡ true → 1 ≤ length s → Gap s
spaces_gap [] e some = absurd (omega arith)
spaces_gap (b ∷ []) e some = one (white (and_elim_left (is_white b) true e))
spaces_gap (b ∷ c ∷ s) e some =
    more (white (and_elim_left (is_white b) (every is_white (c ∷ s)) e))
    (spaces_gap (c ∷ s) (and_elim_right (is_white b) (every is_white (c ∷ s)) e) (omega arith))
