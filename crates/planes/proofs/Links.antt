-- `linked near n` passes exactly where a chain of neighbours leads from one pixel to the other, over any relation; it
-- is an equivalence where the relation is symmetric. By induction over the pixels that a chain may go through.
-- Assumes nothing.
use Prim.Native.Nat.{ℕ, zero, suc, ◌≤◌, ◌<◌}
use mathlib.Core.Path.{◌≡◌, refl, ap₂, subst, ◌∙◌}
use mathlib.Core.Logic.{◌⊎◌, inl, inr, ◌↔◌}
use mathlib.Core.Bool.{true, ◌&&◌, ◌||◌, and_comm}
use mathlib.Mathlib.Data.Bool.Basic.{or_inl, or_inr, and_elim_left, and_elim_right, and_intro}
use native.Mathlib.Nat.{le_refl, not-suc-le-zero, eq-or-lt_of_le, le_of_suc-le-suc}
use native.Mathlib.Omega.{arith}
use lib.Dec.{eqb}
use borrow.Author.Tests.{eqb-true, eq-eqb}
use Rattle.planes.specs.Neighbours.{Near, Chain, here, step, linked}
use Rattle.planes.proofs.Tests.{or_cases, eqb_sym}

-- a chain of one relation is a chain of another that holds wherever the first does
pub chain_map : (n : ℕ) (near₁ near₂ : Near)
    → ((u v : ℕ) → u < n → v < n → near₁ u v ≡ true → near₂ u v ≡ true)
    → {i j : ℕ} → i < n → Chain near₁ n i j → (j < n) × Chain near₂ n i j
chain_map n near₁ near₂ f h here = (h, here)
chain_map n near₁ near₂ f h (step {j = l} {k = k} c e hk) =
    let r = chain_map n near₁ near₂ f h c in
    (hk, step r.1 (f l k r.0 hk e) hk)

module _ (near : Near) where
  pub link_near : (k : ℕ) {i j : ℕ} → near i j ≡ true → linked near k i j ≡ true
  unfolding linked
  link_near zero {i} {j} e = or_inr (eqb i j) (near i j) e
  link_near (suc k) {i} {j} e = or_inl (linked near k i j) _ (link_near k e)

  pub link_refl : (k i : ℕ) → linked near k i i ≡ true
  unfolding linked
  link_refl zero i = or_inl (eqb i i) (near i i) (eq-eqb i i refl)
  link_refl (suc k) i = or_inl (linked near k i i) _ (link_refl k i)

  -- the two ways of `linked near (suc k) i j`, and back
  abbrev Ways : ℕ → ℕ → ℕ → Type 0
  Ways k i j = (linked near k i j ≡ true) ⊎ ((linked near k i k ≡ true) × (linked near k k j ≡ true))

  ways : (k i j : ℕ) → linked near (suc k) i j ≡ true → Ways k i j
  unfolding linked
  ways k i j e = elim (or_cases (linked near k i j) _ e) [
    | inl d ↦ inl d
    | inr d ↦
        let into = and_elim_left (linked near k i k) (linked near k k j) d in
        let onward = and_elim_right (linked near k i k) (linked near k k j) d in
        inr (into, onward)
  ]

  direct : (k i j : ℕ) → linked near k i j ≡ true → linked near (suc k) i j ≡ true
  unfolding linked
  direct k i j e = or_inl (linked near k i j) _ e

  through : (k i j : ℕ) → linked near k i k ≡ true → linked near k k j ≡ true → linked near (suc k) i j ≡ true
  unfolding linked
  through k i j e f = or_inr (linked near k i j) _ (and_intro e f)

  -- links join at a pixel below k
  abbrev Joins : ℕ → Type 0
  Joins k = (i l j : ℕ) → l < k → linked near k i l ≡ true → linked near k l j ≡ true → linked near k i j ≡ true

  to-k : (k i : ℕ) → Ways k i k → linked near k i k ≡ true
  to-k k i (inl d) = d
  to-k k i (inr d) = d.0

  from-k : (k j : ℕ) → Ways k k j → linked near k k j ≡ true
  from-k k j (inl d) = d
  from-k k j (inr d) = d.1

  join-suc : (k : ℕ) → Joins k → (i l j : ℕ) → (l ≡ k) ⊎ (l < k) → Ways k i l → Ways k l j
      → linked near (suc k) i j ≡ true
  join-suc k ih i l j (inl q) x y = through k i j (to-k k i (rw q at x)) (from-k k j (rw q at y))
  join-suc k ih i l j (inr q) (inl x) (inl y) = direct k i j (ih i l j q x y)
  join-suc k ih i l j (inr q) (inl x) (inr y) = through k i j (ih i l k q x y.0) y.1
  join-suc k ih i l j (inr q) (inr x) (inl y) = through k i j x.0 (ih k l j q x.1 y)
  join-suc k ih i l j (inr q) (inr x) (inr y) = through k i j x.0 y.1

  link-join : (k : ℕ) → Joins k
  link-join zero i l j h e f = absurd (not-suc-le-zero h)
  link-join (suc k) i l j h e f =
      join-suc k (link-join k) i l j (eq-or-lt_of_le (le_of_suc-le-suc h)) (ways k i l e) (ways k l j f)

  module _ (n : ℕ) where
    chain-join : {i j k : ℕ} → Chain near n i j → Chain near n j k → Chain near n i k
    chain-join c here = c
    chain-join c (step d e h) = step (chain-join c d) e h

    chain-end : {i j : ℕ} → i < n → Chain near n i j → j < n
    chain-end h here = h
    chain-end h (step c e k) = k

    -- `linked` gives a chain, and a chain gives `linked`
    sound : (k i j : ℕ) → k ≤ n → i < n → j < n → linked near k i j ≡ true → Chain near n i j
    unfolding linked
    sound zero i j h hi hj e = elim (or_cases (eqb i j) (near i j) e) [
      | inl q ↦ subst (Chain near n i) (eqb-true i j q) here
      | inr q ↦ step here q hj
    ]
    sound (suc k) i j h hi hj e = elim (ways k i j e) [
      | inl q ↦ sound k i j (omega arith) hi hj q
      | inr q ↦ chain-join (sound k i k (omega arith) hi h q.0) (sound k k j (omega arith) h hj q.1)
    ]

    complete : {i j : ℕ} → i < n → Chain near n i j → linked near n i j ≡ true
    complete {i} h here = link_refl n i
    complete {i} {j} h (step {j = l} c e k) = link-join n i l j (chain-end h c) (complete h c) (link_near n e)

    -- the computed component is the set of pixels that a chain leads to
    pub linked_iff : (i j : ℕ) → i < n → j < n → (linked near n i j ≡ true) ↔ Chain near n i j
    linked_iff i j hi hj = (sound n i j (le_refl n) hi hj, complete hi)

    pub link_trans : (i l j : ℕ) → l < n → linked near n i l ≡ true → linked near n l j ≡ true
        → linked near n i j ≡ true
    link_trans = link-join n

  module _ (symm : (i j : ℕ) → near i j ≡ near j i) where
    pub link_sym : (k i j : ℕ) → linked near k i j ≡ linked near k j i
    unfolding linked
    link_sym zero i j = ap₂ ◌||◌ (eqb_sym i j) (symm i j)
    link_sym (suc k) i j =
        ap₂ ◌||◌ (link_sym k i j)
        (and_comm (linked near k i k) (linked near k k j) ∙ ap₂ ◌&&◌ (link_sym k k j) (link_sym k i k))
