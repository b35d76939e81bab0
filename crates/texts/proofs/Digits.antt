-- A number put into the output digit by digit: the only digit, or the last one after those of a tenth. Assumes nothing.
use Prim.Native.Nat.{ℕ, ◌+◌, ◌/◌, ◌%◌, ◌≤◌, ◌<◌}
use mathlib.Core.Path.{◌≡◌, refl, sym, subst}
use mathlib.Core.List.{List, [], ◌∷◌}
use native.Mathlib.Omega.{arith}
use lib.ListN.{length, set}
use Rattle.texts.specs.Ascii.{decimal}
use Rattle.texts.specs.Placing.{Put}
use Rattle.texts.proofs.Decimal.{decimal_one, decimal_more, length_one, length_more}
use Rattle.texts.proofs.Placing.{placed_one, put_more, put_length}

-- one byte
put_byte : (output : List ℕ) (at b : ℕ) → at < length output → Put output at (b ∷ []) (at + 1) (set output at b)
put_byte output at b h = record { next = refl; leaves = placed_one output at b h }

pub put_one : (output : List ℕ) (at x : ℕ) → x < 10 → at + length (decimal x) ≤ length output
    → Put output at (decimal x) (at + 1) (set output at (48 + x))
put_one output at x small room =
    let digit = put_byte output at (48 + x) (omega (arith, length_one x small)) in
    subst (λ (s : List ℕ). Put output at s (at + 1) (set output at (48 + x))) (sym (decimal_one x small)) digit

pub put_last : {output output' : List ℕ} {at r : ℕ} (x : ℕ) → 10 ≤ x → x < 1000000
    → at + length (decimal x) ≤ length output → Put output at (decimal (x / 10)) r output'
    → Put output at (decimal x) (r + 1) (set output' r (48 + x % 10))
put_last {output} {output'} {at} {r} x large most room tenth =
    let counted = length_more x large most in
    let place : r ≡ at + length (decimal (x / 10)) = tenth.next in
    let kept = put_length tenth (omega arith) in
    let digit = put_byte output' r (48 + x % 10) (omega arith) in
    let both = put_more tenth digit (omega arith) in
    subst (λ (s : List ℕ). Put output at s (r + 1) (set output' r (48 + x % 10))) (sym (decimal_more x large most)) both

-- what finds that the digits are put one by one
pub ruleset digit_by_digit = (put_one, put_last, length_one, length_more)
