-- Numbers with a code other than 2 are read as before the affine rule was there; those with the code 2 stood for no
-- rule. Assumes nothing.
use Prim.Native.Nat.{◌<◌}
use mathlib.Core.Path.{◌≡◌}
use mathlib.Core.Logic.{⊎_elim}
use mathlib.Core.Bool.{true, false}
use native.Mathlib.Omega.{arith}
use borrow.Author.Tests.{lt-ltb, le-ltb, eq-eqb, ne_eqb}
use Rattle.planes.proofs.Tests.{less_or_not, eq_or_not}
use Rattle.tones.specs.declared.RuleNumbers.{RuleNumbers}
use Rattle.tones.specs.Numbers.{rule_of, malformed}
use Rattle.tones.specs.Before.{rule_before, malformed_before}
use Rattle.tones.proofs.Numbers.{formed}

module _ (n : RuleNumbers) where
  small : n.code < 2 → malformed n ≡ malformed_before n
  unfolding malformed
  small l = simp (le-ltb 2 n.code (omega arith), lt-ltb n.code 2 l, le-ltb 1 n.code (omega arith))

  large : 2 < n.code → malformed n ≡ malformed_before n
  unfolding malformed
  large l = simp (lt-ltb 2 n.code l, lt-ltb 1 n.code (omega arith))

  pub form_before : (n.code ≡ 2 → ⊥) → malformed n ≡ malformed_before n
  form_before other = ⊎_elim small (λ l. large (omega (arith, other))) (less_or_not n.code 2)

  pub rule_before_lem : (n.code ≡ 2 → ⊥) → malformed n ≡ false → rule_of n ≡ rule_before n
  rule_before_lem other e =
      let known = (formed n e).known in
      ⊎_elim
      (λ (zero : n.code ≡ 0). simp (eq-eqb n.code 0 zero))
      (λ some.
      let one : n.code ≡ 1 = omega (arith, known, other, some) in
      simp (ne_eqb n.code 0 some, eq-eqb n.code 1 one))
      (eq_or_not n.code 0)

  -- the code 2 was refused
  pub two_refused : n.code ≡ 2 → malformed_before n ≡ true
  two_refused e = simp (lt-ltb 1 n.code (omega (arith, e)))
