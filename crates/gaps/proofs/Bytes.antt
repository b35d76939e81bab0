-- What the reader's next move tells of the byte: a digit, whitespace, a number sign, or none of them. Assumes nothing.
use Prim.Native.Nat.{ℕ, ◌-◌, ◌≤◌}
use mathlib.Core.Path.{◌≡◌, refl, sym, ◌∙◌}
use mathlib.Core.Bool.{Bool, true, false, false≢true, ◌&&◌, ◌||◌, cond}
use mathlib.Mathlib.Data.Bool.Basic.{and_elim_left, and_elim_right}
use native.Mathlib.Omega.{arith}
use lib.Dec.{leb, eqb}
use borrow.Author.Tests.{leb-true, eqb-true, le-leb, lt-leb, ne_eqb, eq-eqb}
use Rattle.texts.specs.Ascii.{is_digit}
use Rattle.gaps.specs.Bytes.{is_white, is_sign, move_for}
use Rattle.gaps.specs.declared.Move.{Move}
use Rattle.gaps.specs.declared.Move.TheVariants.{Take, Skip, Comment, Stop}

-- a digit's code is 48 to 57
pub digit_range : (b : ℕ) → is_digit b ≡ true → (48 ≤ b) × (b ≤ 57)
unfolding is_digit
digit_range b e =
    (leb-true 48 b (and_elim_left (leb 48 b) (leb b 57) e), leb-true b 57 (and_elim_right (leb 48 b) (leb b 57) e))

-- no digit is whitespace
pub digit_not_white : (b : ℕ) → is_digit b ≡ true → is_white b ≡ false
unfolding is_white
digit_not_white b e =
    let range = digit_range b e in
    let least : 48 ≤ b = range.0 in
    simp (le-leb 9 b (omega arith), lt-leb b 13 (omega arith), ne_eqb b 32 (omega arith))

-- tests that never both pass, the other way round
turned : (s t : Bool) → (s ≡ true → t ≡ false) → t ≡ true → s ≡ false
turned true t apart e = absurd (false≢true (sym (apart refl) ∙ e))
turned false t apart e = refl

pub white_not_digit : (b : ℕ) → is_white b ≡ true → is_digit b ≡ false
white_not_digit b = turned (is_digit b) (is_white b) (digit_not_white b)

-- the number sign is neither a digit nor whitespace
pub sign_is : (b : ℕ) → is_sign b ≡ true → b ≡ 35
unfolding is_sign
sign_is b e = eqb-true b 35 e

pub digit_not_sign : (b : ℕ) → is_digit b ≡ true → is_sign b ≡ false
unfolding is_sign
digit_not_sign b e =
    let range = digit_range b e in
    let least : 48 ≤ b = range.0 in
    ne_eqb b 35 (omega arith)

pub sign_not_digit : (b : ℕ) → is_sign b ≡ true → is_digit b ≡ false
sign_not_digit b = turned (is_digit b) (is_sign b) (digit_not_sign b)

sign_not_white : (b : ℕ) → is_sign b ≡ true → is_white b ≡ false
unfolding is_white
sign_not_white b e = rw (sign_is b e)

pub white_not_sign : (b : ℕ) → is_white b ≡ true → is_sign b ≡ false
white_not_sign b = turned (is_sign b) (is_white b) (sign_not_white b)

-- ## Moves

-- the move by the answers of the three tests
abbrev pub moved : ℕ → Bool → Bool → Bool → Move
moved b digit white sign = cond digit (Take (b - 48)) (cond white Skip (cond sign Comment Stop))

module _ (b : ℕ) where
  pub skipped : move_for b ≡ Skip → is_white b ≡ true
  unfolding move_for
  skipped e = go (is_digit b) (is_white b) (is_sign b) refl e
    where
      go : (s t u : Bool) → is_white b ≡ t → moved b s t u ≡ Skip → is_white b ≡ true
      go true t u w h = cc
      go false true u w h = w
      go false false true w h = cc
      go false false false w h = cc

  pub opened : move_for b ≡ Comment → (is_white b ≡ false) × (is_sign b ≡ true)
  unfolding move_for
  opened e = go (is_digit b) (is_white b) (is_sign b) refl refl e
    where
      go : (s t u : Bool) → is_white b ≡ t → is_sign b ≡ u → moved b s t u ≡ Comment
          → (is_white b ≡ false) × (is_sign b ≡ true)
      go true t u w n h = absurd (cc)
      go false true u w n h = absurd (cc)
      go false false true w n h = (w, n)
      go false false false w n h = absurd (cc)

  -- a digit begins no piece of a gap
  pub taken : {d : ℕ} → move_for b ≡ Take d → (is_white b ≡ false) × (is_sign b ≡ false)
  unfolding move_for
  taken {d} e = go (is_digit b) (is_white b) (is_sign b) refl e
    where
      go : (s t u : Bool) → is_digit b ≡ s → moved b s t u ≡ Take d → (is_white b ≡ false) × (is_sign b ≡ false)
      go true t u i h = (digit_not_white b i, digit_not_sign b i)
      go false true u i h = absurd (cc)
      go false false true i h = absurd (cc)
      go false false false i h = absurd (cc)

  pub stopped : move_for b ≡ Stop → (is_white b ≡ false) × (is_sign b ≡ false)
  unfolding move_for
  stopped e = go (is_digit b) (is_white b) (is_sign b) refl refl e
    where
      go : (s t u : Bool) → is_white b ≡ t → is_sign b ≡ u → moved b s t u ≡ Stop
          → (is_white b ≡ false) × (is_sign b ≡ false)
      go true t u w n h = absurd (cc)
      go false true u w n h = absurd (cc)
      go false false true w n h = absurd (cc)
      go false false false w n h = (w, n)

  -- what is not skipped is not whitespace
  pub not_skipped : (move_for b ≡ Skip → ⊥) → is_white b ≡ false
  unfolding move_for
  not_skipped h = go (is_digit b) (is_white b) refl refl h
    where
      go : (s t : Bool) → is_digit b ≡ s → is_white b ≡ t → (moved b s t (is_sign b) ≡ Skip → ⊥) → is_white b ≡ false
      go true t i e none = digit_not_white b i
      go false true i e none = absurd (none refl)
      go false false i e none = e

-- ## What finds the move by the value of the byte

pub move_is : (b : ℕ) → move_for b ≡ moved b (is_digit b) (is_white b) (is_sign b)
unfolding move_for
move_is b = refl

pub digit_test : (b : ℕ) → is_digit b ≡ (leb 48 b && leb b 57)
unfolding is_digit
digit_test b = refl

pub white_is : (b : ℕ) → is_white b ≡ ((leb 9 b && leb b 13) || eqb b 32)
unfolding is_white
white_is b = refl

pub sign_test : (b : ℕ) → is_sign b ≡ eqb b 35
unfolding is_sign
sign_test b = refl

pub ruleset moves = (move_is, digit_test, white_is, sign_test, le-leb, lt-leb, ne_eqb, eq-eqb)

-- ## What finds whether a byte is skipped

pub other_taken : (b : ℕ) {d : ℕ} → move_for b ≡ Take d → is_white b ≡ false
other_taken b e = (taken b e).0

pub other_opened : (b : ℕ) → move_for b ≡ Comment → is_white b ≡ false
other_opened b e = (opened b e).0

pub other_stopped : (b : ℕ) → move_for b ≡ Stop → is_white b ≡ false
other_stopped b e = (stopped b e).0

pub ruleset skips = (skipped, not_skipped, other_taken, other_opened, other_stopped)
