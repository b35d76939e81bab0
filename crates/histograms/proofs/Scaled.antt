-- A part x of a whole y of b - a, rounded and added to a: it grows with x, lies in [a, b], and is b for the whole.
-- Assumes nothing.
use Prim.Native.Nat.{ℕ, ◌+◌, ◌-◌, ◌*◌, ◌/◌, ◌≤◌}
use mathlib.Core.Path.{◌≡◌, ap₂, ◌∙◌}
use native.Mathlib.Nat.{div-eq_of_lt-le, mul-div-mul_left, mul-le-mul_left, mul-add}
use native.Mathlib.Omega.{arith}
use Rattle.planes.specs.Rounding.{rounded}
use Rattle.planes.proofs.Rounding.{rounded_mono, rounded_le}
use Rattle.histograms.specs.Values.{scaled}

pub scaled_mono : (a b y : ℕ) {x x' : ℕ} → x ≤ x' → scaled a b x y ≤ scaled a b x' y
scaled_mono a b y h = omega (arith, rounded_mono y (mul-le-mul_left (b - a) h))

pub scaled_above : (a b x y : ℕ) → a ≤ scaled a b x y
scaled_above a b x y = omega arith

pub scaled_below : (a b x y : ℕ) → a ≤ b → x ≤ y → scaled a b x y ≤ b
scaled_below a b x y ab xy = omega (arith, rounded_le (b - a) y x xy)

-- ## Rounding

-- a whole number stays
pub rounded_whole : (d m : ℕ) → 1 ≤ m → rounded (d * m) m ≡ d
rounded_whole d m h = div-eq_of_lt-le (2 * m) (omega arith) (omega arith)

-- a common factor may go
pub rounded_cancel : (c x m : ℕ) → 1 ≤ c → rounded (c * x) (c * m) ≡ rounded x m
rounded_cancel c x m h =
    let num : 2 * (c * x) + c * m ≡ c * (2 * x + m) = omega (arith, mul-add c (2 * x) m) in
    let den : 2 * (c * m) ≡ c * (2 * m) = omega arith in
    ap₂ ◌/◌ num den ∙ mul-div-mul_left (2 * x + m) (2 * m) h

-- all of b - a leads to b
pub scaled_all : (a b m : ℕ) → a ≤ b → 1 ≤ m → scaled a b m m ≡ b
scaled_all a b m ab some = omega (arith, rounded_whole (b - a) m some)
