-- Rows of a plane as stretches of its pixels, and the row of a pixel by the inverse of the width. Assumes nothing.
use Prim.Native.Nat.{ℕ, ◌+◌, ◌-◌, ◌*◌, ◌/◌, ◌%◌, ◌≤◌, ◌<◌}
use mathlib.Core.Path.{◌≡◌, sym, ap, ap₂, ◌∙◌}
use mathlib.Core.Logic.{◌⊎◌, inl, inr}
use mathlib.Core.Bool.{true, ◌&&◌, or_comm}
use mathlib.Mathlib.Data.Bool.Basic.{or_inl, and_elim_left, and_elim_right, and_intro}
use native.Mathlib.Nat.{div-add-mod', div-le_self, mod-lt, mul-le-mul, mul-le-mul_right, mul_comm}
use native.Mathlib.Nat.{add-mul, one-mul}
use native.Mathlib.Omega.{arith}
use lib.Arith.{digits_div}
use lib.Dec.{eqb}
use borrow.Author.Tests.{eqb-true, eq-eqb}
use Rattle.planes.specs.Neighbours.{apart}
use Rattle.planes.specs.Refusals.{greatest_pixels}
use Rattle.planes.specs.Shapes.{Symmetric}
use Rattle.planes.proofs.Tests.{or_cases, eqb_sym, less_or_not}
use Rattle.planes.proofs.Quotients.{by_inverse}
use Rattle.rows.specs.Rows.{in_row, row_end, inverse_of}

-- ## Row y of a plane of w columns and h rows is the w pixels from y * w on

next_row : (y w : ℕ) → (y + 1) * w ≡ y * w + w
next_row y w = omega (arith, add-mul y 1 w, one-mul w)

row_inside : (y w h : ℕ) → y < h → y * w + w ≤ w * h
row_inside y w h p =
    let m : (y + 1) * w ≤ h * w = mul-le-mul_right w (omega arith) in
    omega (arith, next_row y w, mul_comm w h)

module _ (w : ℕ) where
  pub row_bounds : (p : ℕ) → 1 ≤ w → (p / w * w ≤ p) × (p < row_end w p)
  row_bounds p wide =
      let whole = div-add-mod' p w in
      let column = mod-lt p wide in
      (omega arith, omega arith)

  pub row_of : (y p : ℕ) → y * w ≤ p → p < y * w + w → p / w ≡ y
  row_of y p l h =
      let c : p - y * w < w = omega arith in
      let e : y * w + (p - y * w) ≡ p = omega arith in
      sym (ap (◌/ w) e) ∙ digits_div y c

  -- rows are whole, so each ends within the plane
  pub row_end_le : (n p : ℕ) → 1 ≤ w → n % w ≡ 0 → p < n → row_end w p ≤ n
  row_end_le n p wide whole h = elim (less_or_not (p / w) (n / w)) [
    | inl l ↦ omega (arith, row_inside (p / w) w (n / w) l, mul_comm w (n / w), div-add-mod' n w)
    | inr l ↦ omega (arith, mul-le-mul_right w l, div-add-mod' n w, (row_bounds p wide).0)
  ]

  -- ## Neighbours in a row

  pub in_row_lem : (p q : ℕ) → in_row w p q ≡ true → (q / w ≡ p / w) × ((p + 1 ≡ q) ⊎ (q + 1 ≡ p))
  unfolding in_row
  in_row_lem p q e =
      let row = eqb-true (p / w) (q / w) (and_elim_left (eqb (p / w) (q / w)) (apart p q) e) in
      let next = or_cases (eqb (p + 1) q) (eqb (q + 1) p) (and_elim_right (eqb (p / w) (q / w)) (apart p q) e) in
      (sym row, elim next [ inl d ↦ inl (eqb-true (p + 1) q d) | inr d ↦ inr (eqb-true (q + 1) p d) ])

  pub in_row_sym : Symmetric (in_row w)
  unfolding in_row
  in_row_sym p q = ap₂ ◌&&◌ (eqb_sym (p / w) (q / w)) (or_comm (eqb (p + 1) q) (eqb (q + 1) p))

  -- two pixels of row y that follow each other
  pub in_row_next : (y p q : ℕ) → y * w ≤ p → q < y * w + w → q ≡ p + 1 → in_row w p q ≡ true
  unfolding in_row
  in_row_next y p q l h e =
      let row : p / w ≡ q / w = row_of y p l (omega arith) ∙ sym (row_of y q (omega arith) h) in
      and_intro (eq-eqb (p / w) (q / w) row) (or_inl (eqb (p + 1) q) (eqb (q + 1) p) (eq-eqb (p + 1) q (sym e)))

-- ## The row of a pixel by the inverse of the width

inverse_le : (w : ℕ) → inverse_of w ≤ 4294967297
unfolding inverse_of
inverse_le w = omega (arith, div-le_self 4294967296 w)

module _ (w inverse q : ℕ) (inverse_is : inverse ≡ inverse_of w) (few : q < greatest_pixels) where
  pub product_le : q * inverse ≤ 1048576 * 4294967297
  product_le = mul-le-mul {n₂ = 1048576} {m₂ = 4294967297} (omega arith) (rw inverse_is (inverse_le w))

  -- a pixel is below 2 ^ 20 and the width at most 2 ^ 12
  small : w ≤ 4096 → q * w < 4294967296
  small narrow = omega (arith, mul-le-mul {n₁ = q} {n₂ = 1048575} (omega arith) narrow)

  pub row_by_inverse : 1 ≤ w → w ≤ 4096 → q * inverse / 4294967296 ≡ q / w
  unfolding inverse_of
  row_by_inverse wide narrow = by_inverse 4294967296 w inverse q wide inverse_is (small narrow)
