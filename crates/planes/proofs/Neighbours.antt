-- A set that holds a pixel, is closed under neighbours and is reached from it is its component, over any relation; the
-- four neighbours of a pixel by index, in a plane of w columns; and a chain of them from the first pixel to any other.
-- Assumes nothing.
use Prim.Native.Nat.{ℕ, zero, suc, ◌+◌, ◌*◌, ◌/◌, ◌%◌, ◌≤◌, ◌<◌}
use mathlib.Core.Path.{◌≡◌, refl, sym, ap, ap₂, subst, ◌∙◌}
use mathlib.Core.Logic.{◌⊎◌, inl, inr}
use mathlib.Core.Bool.{Bool, true, ◌&&◌, ◌||◌, or_comm}
use mathlib.Mathlib.Data.Bool.Basic.{or_inl, or_inr, and_elim_left, and_elim_right, and_intro}
use native.Mathlib.Nat.{div-add-mod', mod-lt, add-zero, zero-mul}
use native.Mathlib.Omega.{arith}
use lib.Arith.{digits_div, digits_mod}
use lib.Dec.{eqb}
use borrow.Author.Tests.{eqb-true, eq-eqb}
use Rattle.planes.specs.Neighbours.{Near, apart, beside, four, Chain, here, step, linked}
use Rattle.planes.proofs.Tests.{or_cases, eqb_sym, same_test}
use Rattle.planes.proofs.Links.{linked_iff}

-- ## A filled set

-- a set that has i, is closed under neighbours, and is reached from i by chains is the component of i
pub filled : (near : Near) (n i : ℕ) (marked : ℕ → Bool) → i < n → marked i ≡ true
    → ((u v : ℕ) → u < n → v < n → marked u ≡ true → near u v ≡ true → marked v ≡ true)
    → ((u : ℕ) → u < n → marked u ≡ true → Chain near n i u)
    → (x : ℕ) → x < n → marked x ≡ linked near n i x
filled near n i marked hi e closed reached x hx = same_test (marked x) (linked near n i x)
    (λ d. (linked_iff near n i x hi hx).1 (reached x hx d))
    (λ d. (go ((linked_iff near n i x hi hx).0 d)).1)
  where
    go : {y : ℕ} → Chain near n i y → (y < n) × (marked y ≡ true)
    go here = (hi, e)
    go (step {j = j} {k = k} c f h) = let r = go c in (h, closed j k r.0 h r.1 f)

-- ## Neighbours by index

-- neighbours by row and column
pub four_at : (w y x v u : ℕ) → x < w → u < w → four w (y * w + x) (v * w + u) ≡ beside y x v u
unfolding four
four_at w y x v u hx hu = rw (digits_div y hx, digits_mod y hx, digits_div v hu, digits_mod v hu)

pub apart_cases : (x u : ℕ) → apart x u ≡ true → (x + 1 ≡ u) ⊎ (u + 1 ≡ x)
apart_cases x u e = elim (or_cases (eqb (x + 1) u) (eqb (u + 1) x) e) [
  | inl d ↦ inl (eqb-true _ _ d)
  | inr d ↦ inr (eqb-true _ _ d)
]

pub apart_next : (x : ℕ) → apart x (x + 1) ≡ true
apart_next x = or_inl (eqb (x + 1) (x + 1)) _ (eq-eqb (x + 1) (x + 1) refl)

pub beside_cases : (y x v u : ℕ) → beside y x v u ≡ true
    → ((y ≡ v) × ((x + 1 ≡ u) ⊎ (u + 1 ≡ x))) ⊎ (((y + 1 ≡ v) ⊎ (v + 1 ≡ y)) × (x ≡ u))
beside_cases y x v u e = elim (or_cases (eqb y v && apart x u) (apart y v && eqb x u) e) [
  | inl d ↦ inl
      (eqb-true y v (and_elim_left (eqb y v) (apart x u) d), apart_cases x u (and_elim_right (eqb y v) (apart x u) d))
  | inr d ↦ inr
      (apart_cases y v (and_elim_left (apart y v) (eqb x u) d), eqb-true x u (and_elim_right (apart y v) (eqb x u) d))
]

-- j is right of, left of, below or above the pixel i, which is in column x
abbrev pub Sides : ℕ → ℕ → ℕ → ℕ → Type 0
Sides w x i j = (((j ≡ i + 1) × (x + 1 < w)) ⊎ ((j + 1 ≡ i) × (0 < x))) ⊎ ((j ≡ i + w) ⊎ (j + w ≡ i))

module _ (w y x : ℕ) (hx : x < w) where
  -- the pixel in row y and column x
  abbrev i : ℕ
  i = y * w + x

  pub near_cases : (j : ℕ) → four w i j ≡ true → Sides w x i j
  near_cases j e =
      let split = div-add-mod' j w in
      go (j / w) (j % w) (mod-lt j (omega arith)) split (subst (λ (k : ℕ). four w i k ≡ true) (sym split) e)
    where
      go : (v u : ℕ) → u < w → v * w + u ≡ j → four w i (v * w + u) ≡ true → Sides w x i j
      go v u hu q d = elim (beside_cases y x v u (sym (four_at w y x v u hx hu) ∙ d)) [
        | inl (r, inl c) ↦ inl (inl (omega (arith, ap (◌* w) r), omega arith))
        | inl (r, inr c) ↦ inl (inr (omega (arith, ap (◌* w) r), omega arith))
        | inr (inl r, c) ↦ inr (inl (omega (arith, ap (◌* w) r)))
        | inr (inr r, c) ↦ inr (inr (omega (arith, ap (◌* w) r)))
      ]

  pub near_right : x + 1 < w → four w i (i + 1) ≡ true
  near_right h =
      let q : i + 1 ≡ y * w + (x + 1) = omega arith in
      rw (q, four_at w y x y (x + 1) hx h)
      (or_inl (eqb y y && apart x (x + 1)) _ (and_intro (eq-eqb y y refl) (apart_next x)))

  pub near_down : four w i (i + w) ≡ true
  near_down =
      let q : i + w ≡ (y + 1) * w + x = omega arith in
      rw (q, four_at w y x (y + 1) x hx hx)
      (or_inr (eqb y (y + 1) && apart x x) _ (and_intro (apart_next y) (eq-eqb x x refl)))

-- the same neighbours, seen from the other side
pub apart_sym : (x u : ℕ) → apart x u ≡ apart u x
apart_sym x u = or_comm (eqb (x + 1) u) (eqb (u + 1) x)

pub four_sym : (w i j : ℕ) → four w i j ≡ four w j i
unfolding four
four_sym w i j =
    ap₂ ◌||◌
    (ap₂ ◌&&◌ (eqb_sym (i / w) (j / w)) (apart_sym (i % w) (j % w)))
    (ap₂ ◌&&◌ (apart_sym (i / w) (j / w)) (eqb_sym (i % w) (j % w)))

-- ## Neighbours of a pixel p of n, in a plane of w columns

module _ (w p : ℕ) (wide : 1 ≤ w) where
  abbrev split : p / w * w + p % w ≡ p
  split = div-add-mod' p w

  pub down_of : four w p (p + w) ≡ true
  down_of = subst (λ (i : ℕ). four w i (i + w) ≡ true) split (near_down w (p / w) (p % w) (mod-lt p wide))

  pub right_of : p % w + 1 < w → four w p (p + 1) ≡ true
  right_of h = subst (λ (i : ℕ). four w i (i + 1) ≡ true) split (near_right w (p / w) (p % w) (mod-lt p wide) h)

  -- every neighbour is one of the four
  pub sides : (q : ℕ) → four w p q ≡ true → Sides w (p % w) p q
  sides q e =
      subst (λ (i : ℕ). Sides w (p % w) i q) split
      (near_cases w (p / w) (p % w) (mod-lt p wide) q (subst (λ (i : ℕ). four w i q ≡ true) (sym split) e))

pub up_of : (w p q : ℕ) → 1 ≤ w → q + w ≡ p → four w p q ≡ true
up_of w p q h e = four_sym w p q ∙ subst (λ (i : ℕ). four w q i ≡ true) e (down_of w q h)

-- ## A whole plane

-- among the first n pixels a chain leads from the first one down the first column, and along the row of any other
module _ (w n : ℕ) (wide : 1 ≤ w) where
  abbrev Leads : ℕ → Type 0
  Leads p = Chain (four w) n 0 p

  onward : {p q r : ℕ} → Leads p → four w p q ≡ true → q ≡ r → r < n → Leads r
  onward c e d h = subst Leads d (step c e (omega arith))

  down : (y : ℕ) → y * w < n → Leads (y * w)
  down zero h = subst Leads (sym (zero-mul w)) here
  down (suc y) h = onward (down y (omega arith)) (down_of w (y * w) wide) (omega arith) h

  along-row : (y x : ℕ) → x < w → y * w + x < n → Leads (y * w + x)
  along-row y zero l h = rw add-zero (down y (omega arith))
  along-row y (suc x) l h =
      onward (along-row y x (omega arith) (omega arith)) (near_right w y x (omega arith) (omega arith))
      (omega arith) h

  pub plane_chain : (p : ℕ) → p < n → Leads p
  plane_chain p h =
      let place = div-add-mod' p w in
      subst Leads place (along-row (p / w) (p % w) (mod-lt p wide) (omega arith))
