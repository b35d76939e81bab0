-- The least number from one on that passes a test: where it lies, that nothing before it passes, and that it passes
-- itself where one does. Assumes nothing.
--
--   least_ge, least_le   it lies between the first number and the last
--   least_first          nothing before it passes
--   least_stops          it passes, unless it is the last number
--   least_is             what has these properties is the least
--   least_passes         it passes where some number does, and is no greater
--   least_mono           a test that passes wherever another does has a least that is no greater
--   least_same           tests that agree up to a number that passes have the same least
use Prim.Native.Nat.{ℕ, zero, suc, ◌+◌, ◌≤◌, ◌<◌}
use mathlib.Core.Path.{◌≡◌, refl, sym, subst, ◌∙◌}
use mathlib.Core.Logic.{⊎_elim}
use mathlib.Core.Bool.{Bool, true, false, cond, false≢true}
use native.Mathlib.Nat.{le_refl, le_antisymm, eq-or-lt_of_le}
use native.Mathlib.Omega.{arith}
use Rattle.planes.proofs.Tests.{less_or_not}
use Rattle.points.specs.Points.{least_from}

pub least_ge : (f : ℕ → Bool) (v n : ℕ) → v ≤ least_from f v n
unfolding least_from
least_ge f v zero = le_refl v
least_ge f v (suc n) = go (f v) (least_ge f (suc v) n)
  where
    go : (t : Bool) → suc v ≤ least_from f (suc v) n → v ≤ cond t v (least_from f (suc v) n)
    go true h = le_refl v
    go false h = omega arith

pub least_le : (f : ℕ → Bool) (v n : ℕ) → least_from f v n ≤ v + n
unfolding least_from
least_le f v zero = omega arith
least_le f v (suc n) = go (f v) (least_le f (suc v) n)
  where
    go : (t : Bool) → least_from f (suc v) n ≤ suc v + n → cond t v (least_from f (suc v) n) ≤ v + suc n
    go true h = omega arith
    go false h = omega arith

pub least_first : (f : ℕ → Bool) (v n u : ℕ) → v ≤ u → u < least_from f v n → f u ≡ false
unfolding least_from
least_first f v zero u l h = absurd (omega arith)
least_first f v (suc n) u l h = go (f v) refl h (λ m g. least_first f (suc v) n u m g)
  where
    go : (t : Bool) → f v ≡ t → u < cond t v (least_from f (suc v) n)
        → (suc v ≤ u → u < least_from f (suc v) n → f u ≡ false) → f u ≡ false
    go true q g r = absurd (omega arith)
    go false q g r = ⊎_elim (λ (s : v ≡ u). subst (λ (z : ℕ). f z ≡ false) s q) (λ s. r s g) (eq-or-lt_of_le l)

pub least_stops : (f : ℕ → Bool) (v n : ℕ) → least_from f v n < v + n → f (least_from f v n) ≡ true
unfolding least_from
least_stops f v zero h = absurd (omega arith)
least_stops f v (suc n) h = go (f v) refl h (λ g. least_stops f (suc v) n g)
  where
    go : (t : Bool) → f v ≡ t → cond t v (least_from f (suc v) n) < v + suc n
        → (least_from f (suc v) n < suc v + n → f (least_from f (suc v) n) ≡ true)
        → f (cond t v (least_from f (suc v) n)) ≡ true
    go true q g r = q
    go false q g r = r (omega arith)

-- ## The least by its properties

module _ (f : ℕ → Bool) (v n : ℕ) where
  pub least_is : (x : ℕ) → v ≤ x → x ≤ v + n → ((u : ℕ) → v ≤ u → u < x → f u ≡ false)
      → (x < v + n → f x ≡ true) → least_from f v n ≡ x
  least_is x from to none some = ⊎_elim
      (λ (l : least_from f v n < x).
      absurd (false≢true (sym (none (least_from f v n) (least_ge f v n) l) ∙ least_stops f v n (omega arith))))
      (λ l. ⊎_elim
      (λ (g : x < least_from f v n).
      absurd (false≢true (sym (least_first f v n x from g) ∙ some (omega (arith, least_le f v n)))))
      (λ g. le_antisymm g l)
      (less_or_not x (least_from f v n)))
      (less_or_not (least_from f v n) x)

  -- where w passes
  module _ (w : ℕ) (from : v ≤ w) (to : w ≤ v + n) (passes : f w ≡ true) where
    pub least_below : least_from f v n ≤ w
    least_below = ⊎_elim
        (λ (g : w < least_from f v n). absurd (false≢true (sym (least_first f v n w from g) ∙ passes)))
        (λ g. g)
        (less_or_not w (least_from f v n))

    pub least_passes : f (least_from f v n) ≡ true
    least_passes = ⊎_elim
        (λ (g : least_from f v n < w). least_stops f v n (omega arith))
        (λ g. subst (λ (z : ℕ). f z ≡ true) (le_antisymm g least_below) passes)
        (less_or_not (least_from f v n) w)

-- ## Two tests

pub least_mono : (f g : ℕ → Bool) (v n : ℕ) → ((u : ℕ) → f u ≡ true → g u ≡ true) → least_from g v n ≤ least_from f v n
least_mono f g v n h = ⊎_elim
    (λ (l : least_from f v n < least_from g v n).
    absurd (false≢true (
    sym (least_first g v n (least_from f v n) (least_ge f v n) l)
    ∙ h (least_from f v n) (least_stops f v n (omega (arith, least_le g v n))))))
    (λ l. l)
    (less_or_not (least_from f v n) (least_from g v n))

-- tests that agree up to w, which passes
pub least_same : (f g : ℕ → Bool) (v n w : ℕ) → v ≤ w → w ≤ v + n → f w ≡ true
    → ((u : ℕ) → u ≤ w → g u ≡ f u) → least_from g v n ≡ least_from f v n
least_same f g v n w from to passes same =
    let x = least_from f v n in
    let below : x ≤ w = least_below f v n w from to passes in
    least_is g v n x (least_ge f v n) (least_le f v n)
    (λ u vu ux. same u (omega arith) ∙ least_first f v n u vu ux)
    (λ _. same x below ∙ least_passes f v n w from to passes)
