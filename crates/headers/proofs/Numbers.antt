-- Reading a number digit by digit. `number_after k v` is what is left to do once k digits of value v were taken. With
-- none taken it is `numeral`; a further digit is taken into both; any other byte, and the end, ends the number.
-- Assumes nothing.
use Prim.Native.Nat.{ℕ, zero, suc, ◌+◌, ◌-◌, ◌*◌, ◌^◌, ◌≤◌, ◌<◌}
use mathlib.Core.Path.{◌≡◌, refl, ◌∙◌}
use mathlib.Core.Bool.{Bool, true, false, cond}
use mathlib.Core.List.{List, [], ◌∷◌}
use native.Mathlib.Nat.{add-zero, zero-add, pow-suc, pow-le-pow_right}
use native.Mathlib.Numerals.{add-one}
use native.Mathlib.Omega.{arith}
use lib.Dec.{leb, lit<}
use lib.ListN.{length}
use borrow.Author.Tests.{le-leb, lt-leb}
use Rattle.texts.specs.Ascii.{is_digit, value_after}
use Rattle.gaps.specs.Parsers.{Parsed, failed, parsed, Parser, next, pure, check, some, take_while, drop_while}
use Rattle.headers.specs.Grammar.{numeral}
use Rattle.headers.specs.Reading.{FirstDigit}
use Rattle.std.specs.Char.{is_ascii_digit}
use Rattle.gaps.proofs.Bytes.{digit_range}
use Rattle.gaps.proofs.Parsers.{while_none}

-- the number of so many digits and this value, before the rest
abbrev pub number_of : ℕ → ℕ → List ℕ → Parsed ℕ
number_of zero v rest = failed
number_of (suc k) v rest = cond (leb (suc k) 6) (parsed v rest) failed

unfoldable pub number_after : ℕ → ℕ → Parser ℕ
number_after k v bytes =
    number_of (k + length (take_while is_digit bytes)) (value_after v (take_while is_digit bytes))
    (drop_while is_digit bytes)

pub number_begins : (bytes : List ℕ) → numeral bytes ≡ number_after 0 0 bytes
unfolding numeral number_after
number_begins bytes = go (take_while is_digit bytes) (drop_while is_digit bytes)
  where
    go : (digits rest : List ℕ)
        → next (some digits rest) (λ ds bs. next (check (leb (length ds) 6) bs) (λ u. pure (value_after 0 ds)))
        ≡ number_of (0 + length digits) (value_after 0 digits) rest
    go [] rest = refl
    go (d ∷ digits) rest = rw (zero-add (suc (length digits))) (test (leb (suc (length digits)) 6))
      where
        test : (t : Bool) → next (check t rest) (λ u. pure (value_after 0 (d ∷ digits)))
            ≡ cond t (parsed (value_after 0 (d ∷ digits)) rest) failed
        test true = refl
        test false = refl

too_many : (n v : ℕ) (rest : List ℕ) → 6 < n → number_of n v rest ≡ failed
too_many zero v rest h = refl
too_many (suc n) v rest h = rw (lt-leb (suc n) 6 h)

-- ## A digit

digit_test : (b : ℕ) → is_digit b ≡ is_ascii_digit b
unfolding is_digit
digit_test b = refl

pub first_digit : (bytes : List ℕ) {b : ℕ} {rest : List ℕ} {digit : ℕ} → bytes ≡ b ∷ rest → is_ascii_digit b ≡ true
    → digit ≡ b - 48 → FirstDigit bytes digit rest
first_digit bytes {b} is e same =
    let digit = digit_test b ∙ e in
    record { byte = b; is = is; digit_is = digit; value_is = same; small = omega (arith, digit_range b digit) }

pub no_digit : (bytes : List ℕ) {b : ℕ} {rest : List ℕ} → bytes ≡ b ∷ rest → is_ascii_digit b ≡ false
    → take_while is_digit bytes ≡ []
no_digit bytes {b} is e = rw (is, digit_test b, e)

pub end_digit : (bytes : List ℕ) → length bytes ≡ 0 → take_while is_digit bytes ≡ []
end_digit [] e = refl
end_digit (b ∷ bytes) e = absurd (omega arith)

-- what finds the first digit
pub ruleset first = (first_digit, end_digit)

-- ## A number

module _ {bytes : List ℕ} {digit : ℕ} {rest : List ℕ} (d : FirstDigit bytes digit rest) (k v : ℕ) where
  number_more : number_after k v bytes ≡ number_after (k + 1) (10 * v + digit) rest
  unfolding number_after
  number_more =
      let more = length (take_while is_digit rest) in
      let counted : k + suc more ≡ k + 1 + more = omega arith in
      rw (d.is, d.digit_is, d.value_is, counted)

  -- a seventh digit
  number_long : number_after 6 v bytes ≡ failed
  unfolding number_after
  number_long =
      let digits = take_while is_digit bytes in
      let some : digits ≡ d.byte ∷ take_while is_digit rest = rw (d.is, d.digit_is) in
      too_many (6 + length digits) (value_after v digits) (drop_while is_digit bytes) (rw some (omega arith))

-- the number ends where no digit follows
number_ends : (bytes : List ℕ) (k v : ℕ) → k ≤ 6 → take_while is_digit bytes ≡ []
    → number_after k v bytes ≡ number_of k v bytes
unfolding number_after
number_ends bytes k v few e = rw (e, while_none is_digit bytes e, add-zero k)

-- The invariant: k digits of value v were taken from the bytes, and the rest follows them.
pub record Reading (bytes rest : List ℕ) (k v : ℕ) : Type 0 where
  pub few : k ≤ 6
  pub small : v < 10 ^ k
  pub left : numeral bytes ≡ number_after k v rest

pub reading_begins : (bytes : List ℕ) → Reading bytes bytes 0 0
reading_begins bytes = record { few = omega arith; small = lit< tt; left = number_begins bytes }

module _ {bytes rest : List ℕ} {k v : ℕ} (r : Reading bytes rest k v) where
  pub reading_small : v < 1000000
  reading_small =
      let power : 10 ^ k ≤ 10 ^ 6 = pow-le-pow_right (lit< tt) r.few in
      let below = r.small in
      omega arith

  pub reading_more : {digit : ℕ} {after : List ℕ} → FirstDigit rest digit after → (k ≡ 6 → ⊥)
      → Reading bytes after (k + 1) (10 * v + digit)
  reading_more d not-six =
      let few = r.few in
      let below = r.small in
      let power : 10 ^ (k + 1) ≡ 10 ^ k * 10 = rw (add-one k) (pow-suc 10 k) in
      let digit-small = d.small in
      record {
        few = omega arith;
        small = rw power (omega arith);
        left = r.left ∙ number_more d k v;
      }

  pub reading_long : {digit : ℕ} {after : List ℕ} → FirstDigit rest digit after → k ≡ 6 → numeral bytes ≡ failed
  reading_long d six = r.left ∙ rw six (number_long d k v)

  pub reading_none : take_while is_digit rest ≡ [] → k ≡ 0 → numeral bytes ≡ failed
  reading_none e none = r.left ∙ number_ends rest k v r.few e ∙ rw none

  pub reading_ends : take_while is_digit rest ≡ [] → (k ≡ 0 → ⊥) → numeral bytes ≡ parsed v rest
  reading_ends e some = r.left ∙ number_ends rest k v r.few e ∙ go k some r.few
    where
      go : (k : ℕ) → (k ≡ 0 → ⊥) → k ≤ 6 → number_of k v rest ≡ parsed v rest
      go zero some few = absurd (some refl)
      go (suc k) some few = rw (le-leb (suc k) 6 few)

-- what finds what a number makes
pub ruleset digits = (reading_begins, reading_small, reading_more, reading_long, reading_none, reading_ends)
