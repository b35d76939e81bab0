-- The pixels above and below a pixel q are reached, one after the other, by `reach_column`: where the plane ends, q
-- itself is reached, which has not the code. Afterwards neither has it. Assumes nothing.
use Prim.Native.Nat.{ℕ, ◌+◌, ◌<◌}
use mathlib.Core.Path.{◌≡◌, sym, ap, ◌∙◌}
use mathlib.Core.Logic.{◌⊎◌, inl, inr}
use mathlib.Core.Bool.{true}
use mathlib.Core.List.{List}
use mathlib.Mathlib.Data.Bool.Basic.{or_inl, or_inr}
use native.Mathlib.Omega.{arith}
use lib.Dec.{eqb}
use borrow.Author.Tests.{eqb-true, eq-eqb}
use Rattle.planes.specs.Lists.{at}
use Rattle.planes.specs.Shapes.{pixels, SizedShape, Narrower}
use Rattle.planes.specs.declared.Shape.{Shape}
use Rattle.planes.proofs.Tests.{or_cases, less_or_not}
use Rattle.rows.specs.Rows.{in_row, row_end}
use Rattle.rows.specs.Runs.{Room, Reached}
use Rattle.spreading.specs.Spreads.{Above, Below, column, Reaches, ColumnReached, Reachable}
use Rattle.spreading.proofs.Spreading.{Side, none_yet, may_reach, next_reach, now_was}

-- ## One pixel below the other

module _ (w p q : ℕ) where
  pub column_below : q ≡ p + w → column w p q ≡ true
  unfolding column
  column_below e = or_inl (eqb (p + w) q) (eqb (q + w) p) (eq-eqb (p + w) q (sym e))

  pub column_above : q + w ≡ p → column w p q ≡ true
  unfolding column
  column_above e = or_inr (eqb (p + w) q) (eqb (q + w) p) (eq-eqb (q + w) p e)

  pub column_cases : column w p q ≡ true → (q ≡ p + w) ⊎ (q + w ≡ p)
  unfolding column
  column_cases e = elim (or_cases (eqb (p + w) q) (eqb (q + w) p) e) [
    | inl d ↦ inl (sym (eqb-true (p + w) q d))
    | inr d ↦ inr (eqb-true (q + w) p d)
  ]

-- ## The two rows beside

module _ {marks queue : List ℕ} {z : Shape} {code q tail : ℕ}
    (size : SizedShape z) (S : Reachable marks queue z code q tail) where
  abbrev n : ℕ
  n = pixels z

  same_row : Narrower (in_row z.w) (in_row z.w)
  same_row u v e = e

  side-above : {a : ℕ} → Above z.w q a → Side (column z.w) n q a
  side-above {a} f = elim (less_or_not q z.w) [
    | inl l ↦ record { below = omega (arith, S.inside, f.0 l); at_side = inl (f.0 l) }
    | inr l ↦ record {
      below = omega (arith, S.inside, f.1 l);
      at_side = inr (column_above z.w q a (f.1 l));
    }
  ]

  side-below : {b : ℕ} → Below z.w n q b → Side (column z.w) n q b
  side-below {b} f = elim (less_or_not (q + z.w) n) [
    | inl l ↦ record { below = omega (arith, f.1 l); at_side = inr (column_below z.w q b (f.1 l)) }
    | inr l ↦ record { below = omega (arith, S.inside, f.0 l); at_side = inl (f.0 l) }
  ]

  -- what `reach` requires, for the pixel above and then for the one below
  pub may_above : {a : ℕ} → Above z.w q a → Room marks queue (row_end z.w a) code tail
  may_above A = may_reach {near = in_row z.w} size same_row S none_yet (side-above A)

  module _ {a t₁ : ℕ} {m₁ q₁ : List ℕ} (A : Above z.w q a)
      (v₁ : Reached z.w code a marks queue tail m₁ q₁ t₁) where
    after-above : Reaches (column z.w) (in_row z.w) z.w n code q marks queue tail m₁ q₁ t₁
    after-above = next_reach size same_row S none_yet (side-above A) v₁

    pub may_below : {b : ℕ} → Below z.w n q b → Room m₁ q₁ (row_end z.w b) code t₁
    may_below B = may_reach size same_row S after-above (side-below B)

    module _ {b t₂ : ℕ} {m₂ q₂ : List ℕ} (B : Below z.w n q b) (v₂ : Reached z.w code b m₁ q₁ t₁ m₂ q₂ t₂) where
      after-below : Reaches (column z.w) (in_row z.w) z.w n code q marks queue tail m₂ q₂ t₂
      after-below = next_reach size same_row S after-above (side-below B) v₂

      -- neither is left
      closed : (x : ℕ) → x < n → column z.w q x ≡ true → at m₂ x ≡ code → ⊥
      closed x h e d = elim (column_cases z.w q x e) [
        | inl f ↦ v₂.off (sym (ap (at m₂) (below-is f)) ∙ d)
        | inr f ↦ v₁.off (sym (ap (at m₁) (above-is f)) ∙ now_was size same_row S after-above (side-below B) v₂ x d)
      ]
        where
          below-is : x ≡ q + z.w → x ≡ b
          below-is f = f ∙ sym (B.1 (omega arith))

          above-is : x + z.w ≡ q → x ≡ a
          above-is f = omega (arith, A.1 (omega arith))

      pub column_reached : ColumnReached z.w n code q marks queue tail m₂ q₂ t₂
      column_reached = record { reaches = after-below; closed = closed }
