-- Division by a number as multiplication by another and division by a power of two. Assumes nothing.
use Prim.Native.Nat.{ℕ, suc, ◌+◌, ◌*◌, ◌/◌, ◌≤◌, ◌<◌}
use mathlib.Core.Path.{◌≡◌}
use native.Mathlib.Nat.{le_antisymm, le_of_lt, lt-suc_self, mul-le-mul_left, mul-le-mul_right, lt_of_mul-lt-mul_right}
use native.Mathlib.Nat.{div-mul-le_self, le-div_iff_mul-le, div-lt_iff_lt-mul}
use native.Mathlib.Omega.{arith}

-- with r the least number such that r * d > s, and x * d < s, x / d is the whole part of x * r / s
module _ (s d r x : ℕ) (some : 1 ≤ d) (inverse : r ≡ s / d + 1) (small : x * d < s) where
  abbrev q : ℕ
  q = x / d

  above : s < r * d
  above = rw inverse ((div-lt_iff_lt-mul {k = d} {x = s} {y = s / d + 1} some).0 (omega arith))

  near : r * d ≤ s + d
  near = rw inverse (omega (arith, div-mul-le_self s d))

  no_less : q * s ≤ x * r
  no_less = omega (arith, mul-le-mul_left q (le_of_lt above), mul-le-mul_right r (div-mul-le_self x d))

  no_more : x * r < suc q * s
  no_more =
      let past : x < suc q * d = (div-lt_iff_lt-mul {k = d} {x = x} {y = suc q} some).0 (lt-suc_self q) in
      let left : x * (r * d) ≤ x * (s + d) = mul-le-mul_left x near in
      let right : suc x * s ≤ suc q * d * s = mul-le-mul_right s past in
      lt_of_mul-lt-mul_right d (omega arith)

  pub by_inverse : x * r / s ≡ q
  by_inverse =
      let pos : 0 < s = omega arith in
      let most : x * r / s < suc q = (div-lt_iff_lt-mul {k = s} pos).1 no_more in
      le_antisymm (omega arith) ((le-div_iff_mul-le {k = s} pos).1 no_less)
