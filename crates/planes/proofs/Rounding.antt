-- Rounding is monotone, and stays within what it divides. Assumes nothing.
use Prim.Native.Nat.{ℕ, zero, suc, ◌+◌, ◌*◌, ◌/◌, ◌≤◌, ◌<◌, zero-le}
use mathlib.Core.Path.{◌≡◌, sym, ◌∙◌}
use native.Mathlib.Nat.{le_refl, le_trans, le_antisymm, le_of_eq, mul-le-mul_left}
use native.Mathlib.Nat.{div-zero, div-mul-le_self, le-div_iff_mul-le, div-lt_iff_lt-mul}
use native.Mathlib.Omega.{arith}
use Rattle.planes.specs.Rounding.{rounded}

pub div_mono : (m : ℕ) {x y : ℕ} → x ≤ y → x / m ≤ y / m
div_mono zero {x} {y} h = le_of_eq (div-zero x ∙ sym (div-zero y))
div_mono (suc m) {x} {y} h =
    (le-div_iff_mul-le {k = suc m} {x = x / suc m} {y = y} (omega arith)).1 (le_trans (div-mul-le_self x (suc m)) h)

pub rounded_mono : (m : ℕ) {x y : ℕ} → x ≤ y → rounded x m ≤ rounded y m
rounded_mono m h = div_mono (2 * m) (omega arith)

pub rounded_le : (d m x : ℕ) → x ≤ m → rounded (d * x) m ≤ d
rounded_le d zero x h = le_trans (le_of_eq (div-zero (2 * (d * x) + 0))) zero-le
rounded_le d (suc m) x h =
    let k : 2 * (d * x) + suc m < suc d * (2 * suc m) = omega (arith, mul-le-mul_left d h) in
    let l : (2 * (d * x) + suc m) / (2 * suc m) < suc d = (div-lt_iff_lt-mul {k = 2 * suc m} (omega arith)).1 k in
    omega arith

pub rounded_in : (d m x : ℕ) → x ≤ d * m → rounded x m ≤ d
rounded_in d m x h = le_trans (rounded_mono m h) (rounded_le d m m (le_refl m))

-- a multiple is divided without a rest
pub rounded_exact : (d m : ℕ) → 1 ≤ m → rounded (d * m) m ≡ d
rounded_exact d m some =
    let least : d * (2 * m) ≤ 2 * (d * m) + m = omega arith in
    le_antisymm (rounded_le d m m (le_refl m))
    ((le-div_iff_mul-le {k = 2 * m} {x = d} {y = 2 * (d * m) + m} (omega arith)).1 least)
