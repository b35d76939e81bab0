-- Rules and their numbers: a rule is what its numbers stand for, and numbers that stand for a rule are its own. Assumes
-- nothing.
--
--   read_rule        a rule, written and read
--   formed_rule      a rule's numbers are not malformed
--   written_rule     numbers that are not malformed, read and written
--   rule_numbers     the numbers of a rule that fits fit their fields
--   numbers_rule     the rule of numbers that fit fits
--   accepted_fits    a rule that is not refused fits
use Prim.Native.Nat.{ℕ, ◌≤◌, ◌<◌}
use mathlib.Core.Path.{◌≡◌, refl, sym, ap, ◌∙◌}
use mathlib.Core.Bool.{Bool, true, false, not, cond, ◌&&◌, ◌||◌}
use native.Mathlib.Omega.{arith}
use lib.Dec.{ltb, eqb}
use borrow.Author.Tests.{ltb-false, lt-ltb, eqb-true, eqb-false, eq-eqb, not-false}
use Rattle.planes.proofs.Tests.{or_none}
use Rattle.planes.proofs.Refusals.{when_none}
use Rattle.tones.specs.declared.Rule.{Rule}
use Rattle.tones.specs.declared.Rule.TheVariants.{Plain, Limited, Affine}
use Rattle.tones.specs.declared.RuleNumbers.{RuleNumbers}
use Rattle.tones.specs.Refusals.{rule_refusal}
use Rattle.tones.specs.Numbers.{rule_of, malformed, numbers_of, RuleFits, NumbersFit}

-- ## Written and read

pub read_rule : (r : Rule) → rule_of (numbers_of r) ≡ r
read_rule (Plain low high) = refl
read_rule (Limited k) = refl
read_rule (Affine segments smin smax) = refl

pub formed_rule : (r : Rule) → malformed (numbers_of r) ≡ false
unfolding malformed
formed_rule (Plain low high) = refl
formed_rule (Limited k) = refl
formed_rule (Affine segments smin smax) = refl

-- ## Read and written

-- what numbers have that are not malformed
pub record Formed (n : RuleNumbers) : Type 0 where
  pub known : n.code ≤ 2
  pub clear : n.code < 2 → n.extra ≡ 0
  pub second_clear : n.code ≡ 1 → n.second ≡ 0

pub formed : (n : RuleNumbers) → malformed n ≡ false → Formed n
unfolding malformed
formed n e =
    let more = not (eqb n.extra 0) in
    let set = not (eqb n.second 0) in
    let tests = or_none (ltb 2 n.code || (ltb n.code 2 && more)) (eqb n.code 1 && set) e in
    let first = or_none (ltb 2 n.code) (ltb n.code 2 && more) tests.0 in
    record {
      known = ltb-false 2 n.code first.0;
      clear = λ low. eqb-true n.extra 0 (not-false (eqb n.extra 0)
          (sym (ap (◌&& more) (lt-ltb n.code 2 low)) ∙ first.1));
      second_clear = λ one. eqb-true n.second 0 (not-false (eqb n.second 0)
          (sym (ap (◌&& set) (eq-eqb n.code 1 one)) ∙ tests.1));
    }

abbrev numbers : ℕ → ℕ → ℕ → ℕ → RuleNumbers
numbers code extra first second = record { code = code; extra = extra; first = first; second = second }

-- the rule of some numbers, by the tests on their code
abbrev by_tests : RuleNumbers → Bool → Bool → Rule
by_tests n plain limited =
    cond plain (Plain n.first n.second)
    (cond limited (Limited n.first) (Affine n.extra n.first n.second))

same : {code extra first second code' extra' second' : ℕ} → code ≡ code' → extra ≡ extra' → second ≡ second'
    → numbers code extra first second ≡ numbers code' extra' first second'
same p q r = cc

pub written_rule : (n : RuleNumbers) → malformed n ≡ false → numbers_of (rule_of n) ≡ n
written_rule n e = go (eqb n.code 0) (eqb n.code 1) refl refl
  where
    f : Formed n
    f = formed n e

    go : (plain limited : Bool) → eqb n.code 0 ≡ plain → eqb n.code 1 ≡ limited
        → numbers_of (by_tests n plain limited) ≡ n
    go true limited d l =
        let code : n.code ≡ 0 = eqb-true n.code 0 d in
        same (sym code) (sym (f.clear (omega arith))) refl
    go false true d l =
        let code : n.code ≡ 1 = eqb-true n.code 1 l in
        same (sym code) (sym (f.clear (omega arith))) (sym (f.second_clear code))
    go false false d l =
        let code : n.code ≡ 2 = omega (arith, f.known, eqb-false n.code 0 d, eqb-false n.code 1 l) in
        same (sym code) refl refl

-- ## Numbers that fit

pub rule_numbers : (r : Rule) → RuleFits r → NumbersFit (numbers_of r)
rule_numbers (Plain low high) f = record {
  code_fits = omega arith;
  extra_fits = omega arith;
  first_fits = f.0;
  second_fits = f.1;
}
rule_numbers (Limited k) f = record {
  code_fits = omega arith;
  extra_fits = omega arith;
  first_fits = f;
  second_fits = omega arith;
}
rule_numbers (Affine segments smin smax) f = record {
  code_fits = omega arith;
  extra_fits = f.0;
  first_fits = f.1.0;
  second_fits = f.1.1;
}

pub numbers_rule : (n : RuleNumbers) → n.extra < 256 → n.first < 65536 → n.second < 65536 → RuleFits (rule_of n)
numbers_rule n extra first second = go (eqb n.code 0) (eqb n.code 1)
  where
    go : (plain limited : Bool) → RuleFits (by_tests n plain limited)
    go true limited = (first, second)
    go false true = first
    go false false = (extra, (first, second))

pub accepted_fits : (r : Rule) → rule_refusal r ≡ 0 → RuleFits r
unfolding rule_refusal
accepted_fits (Plain low high) e =
    let tests = or_none (ltb high low) (ltb 25500 high) (when_none (ltb high low || ltb 25500 high) 6 e) in
    let order = ltb-false high low tests.0 in
    let top = ltb-false 25500 high tests.1 in
    (omega arith, omega arith)
accepted_fits (Limited k) e =
    let top = ltb-false 1000 k (when_none (ltb 1000 k) 7 e) in
    omega arith
accepted_fits (Affine segments smin smax) e =
    let counts = eqb segments 0 || ltb 16 segments in
    let tests = or_none (counts || ltb smax smin) (ltb 10000 smax)
    (when_none (counts || ltb smax smin || ltb 10000 smax) 17 e) in
    let slopes = or_none counts (ltb smax smin) tests.0 in
    let few = ltb-false 16 segments (or_none (eqb segments 0) (ltb 16 segments) slopes.0).1 in
    let order = ltb-false smax smin slopes.1 in
    let top = ltb-false 10000 smax tests.1 in
    (omega arith, (omega arith, omega arith))
