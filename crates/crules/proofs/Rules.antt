-- The numbers that are lent for a rule stand for it, and the fifth for the number of neighbours. Assumes nothing.
use Prim.Native.Nat.{ℕ, min}
use mathlib.Core.Path.{◌≡◌, refl, ap}
use mathlib.Core.Logic.{inl, inr}
use mathlib.Core.List.{List}
use lib.ListN.{length}
use borrow.Author.Tests.{ne_eqb}
use native.Mathlib.Nat.{min-eq_left, min-eq_right}
use native.Mathlib.Omega.{arith}
use Rattle.planes.proofs.Tests.{less_or_not}
use Rattle.model.specs.Calls.{neighbour_refusal}
use Rattle.tones.specs.declared.Rule.{Rule}
use Rattle.tones.specs.declared.Rule.TheVariants.{Plain, Limited, Affine}
use Rattle.tones.specs.declared.RuleNumbers.{RuleNumbers}
use Rattle.tones.specs.Numbers.{malformed, form_refusal, numbers_of, RuleFits}
use Rattle.crules.specs.Rules.{numbers_for, neighbours_for, rule_lent, pass_lent}

-- ## The numbers of a rule

-- those of a rule fit their bytes
bytes_lent : (r : Rule) → RuleFits r → (
    let n = numbers_of r in
    record { code = min n.code 255; extra = min n.extra 255; first = n.first; second = n.second } ≡ n)
bytes_lent (Plain low high) f = refl
bytes_lent (Limited k) f = refl
bytes_lent (Affine segments smin smax) f =
    let byte : min segments 255 ≡ segments = min-eq_left (omega (arith, f.0)) in
    let numbers : ℕ → RuleNumbers = λ x. record { code = 2; extra = x; first = smin; second = smax } in
    ap numbers byte

-- the four numbers of a rule stand for it, alone and before a number of neighbours
pub rule_lent_lem : (r : Rule) → RuleFits r → numbers_for (rule_lent r) ≡ numbers_of r
rule_lent_lem = bytes_lent

pub pass_lent_lem : (r : Rule) → RuleFits r → (number : ℕ) → numbers_for (pass_lent r number) ≡ numbers_of r
pass_lent_lem r f number = bytes_lent r f

-- fewer or more stand for no rule
pub no_rule_lent : (rule : List ℕ) → (length rule ≡ 4 → ⊥) → (length rule ≡ 5 → ⊥)
    → form_refusal (numbers_for rule) ≡ 17
unfolding malformed
no_rule_lent rule other more = simp (ne_eqb (length rule) 4 other, ne_eqb (length rule) 5 more)

-- ## The number of neighbours

-- 4 and 8 stand for themselves, and no other number stands for either
pub number_lent : (r : Rule) (number : ℕ)
    → neighbour_refusal (neighbours_for (pass_lent r number)) ≡ neighbour_refusal number
unfolding neighbour_refusal
number_lent r number = elim (less_or_not number 256) [
  | inl l ↦ ap neighbour_refusal (min-eq_left {n = number} {m = 255} (omega arith))
  | inr l ↦ rw (min-eq_right {n = 255} {m = number} (omega arith))
      (simp (ne_eqb number 4 (omega arith), ne_eqb number 8 (omega arith)))
]
