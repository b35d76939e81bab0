-- What a product with an inverse gives, by which recolouring divides. Assumes nothing.
use Prim.Native.Nat.{ℕ, ◌+◌, ◌*◌, ◌/◌, ◌≤◌}
use mathlib.Core.Path.{◌≡◌}
use native.Mathlib.Nat.{mul-le-mul}
use native.Mathlib.Omega.{arith}
use Rattle.planes.specs.Rounding.{rounded}
use Rattle.planes.proofs.Quotients.{by_inverse}
use Rattle.channels.specs.Scales.{inverse, Quotient}

module _ {x m by : ℕ} (q : Quotient x m by) where
  dividend-le : 2 * x + m ≤ 130305
  dividend-le = omega (arith, q.byte, q.small)

  -- the whole part of the product with the inverse is the rounded quotient
  pub rounded_by_inverse : (2 * x + m) * by / 67108864 ≡ rounded x m
  unfolding inverse
  rounded_by_inverse =
      let d = 2 * m in
      let y = 2 * x + m in
      let small : y * d ≤ 130305 * 510 = mul-le-mul {n₂ = 130305} {m₂ = 510} dividend-le (omega (arith, q.small)) in
      by_inverse 67108864 d by y (omega (arith, q.some)) q.inverted (omega arith)
