-- A sweep over the pixels that have a code, in reading order: the components with a pixel before `low` are gone, each
-- whole, and have other marks. The set of the pixels that are gone is an index of the invariant. For any symmetric
-- neighbour relation. Assumes nothing.
use Prim.Native.Nat.{ℕ, ◌+◌, ◌≤◌, ◌<◌}
use mathlib.Core.Path.{◌≡◌, refl, sym, ap, ap₂, ◌∙◌}
use mathlib.Core.Logic.{inl, inr}
use mathlib.Core.Bool.{Bool, true, false, cond, not, ◌&&◌, ◌||◌, false≢true, true≢false, and-false}
use mathlib.Core.List.{List}
use mathlib.Mathlib.Data.Bool.Basic.{or_inl, or_inr, and_intro}
use native.Mathlib.Nat.{eq-or-lt_of_le}
use native.Mathlib.Omega.{arith}
use lib.Dec.{eqb}
use borrow.Author.Tests.{eqb-true, eq-eqb, ne_eqb}
use Rattle.planes.specs.Lists.{at, from, every}
use Rattle.planes.specs.Shapes.{Symmetric}
use Rattle.planes.specs.Neighbours.{Near, linked, first}
use Rattle.planes.proofs.Tests.{or_cases, same_test, eq_or_not, less_or_not}
use Rattle.planes.proofs.Counts.{every_true, every_false}
use Rattle.rows.specs.Codes.{alike}
use Rattle.components.specs.Regions.{region, leads}
use Rattle.rows.specs.Stretches.{None}
use Rattle.components.proofs.Regions.{region_below, region_linked, region_self, region_chain, region_coded}
use Rattle.components.proofs.Regions.{region_sym, region_whole, region_stays, along, was, is}

-- a pixel before `low` that has p in its component
pub record Earlier (near : Near) (n code : ℕ) (marks : List ℕ) (low p : ℕ) : Type 0 where
  pub pixel : ℕ
  pub before : pixel < low
  pub below : pixel < n
  pub leads_to : region near n marks code pixel p ≡ true

-- it stays one as `low` rises
later_low : {near : Near} {n code : ℕ} {marks : List ℕ} {low low' p : ℕ} → low ≤ low'
    → Earlier near n code marks low p → Earlier near n code marks low' p
later_low h r = record {
  pixel = r.pixel;
  before = omega (arith, r.before);
  below = r.below;
  leads_to = r.leads_to;
}

-- the invariant of a sweep that stands at `low`:
--
--   marks_are  the pixels that are gone have other marks, and the rest their first ones
--   whole      neighbours that had the code are gone together
--   inside     only pixels that had the code are gone
--   passed     all that had it before `low` are
--   earlier    each that is gone has a pixel before `low` in its component
pub record Sweeping (near : Near) (n code : ℕ) (marks₀ marks : List ℕ) (gone : ℕ → Bool) (other : ℕ → ℕ) (low : ℕ)
    : Type 0 where
  pub order : low ≤ n
  pub marks_are : (p : ℕ) → at marks p ≡ cond (gone p) (other p) (at marks₀ p)
  pub whole : (u v : ℕ) → u < n → v < n → alike near marks₀ code u v ≡ true → gone u ≡ gone v
  pub inside : (p : ℕ) → gone p ≡ true → (p < n) × (at marks₀ p ≡ code)
  pub passed : (p : ℕ) → p < low → at marks₀ p ≡ code → gone p ≡ true
  pub earlier : (p : ℕ) → gone p ≡ true → Earlier near n code marks₀ low p

pub sweep_begin : (near : Near) (n code : ℕ) (marks : List ℕ) (other : ℕ → ℕ)
    → Sweeping near n code marks marks (λ p. false) other 0
sweep_begin near n code marks other = record {
  order = omega arith;
  marks_are = λ p. refl;
  whole = λ u v hu hv e. refl;
  inside = λ p e. absurd (false≢true e);
  passed = λ p h. absurd (omega arith);
  earlier = λ p e. absurd (false≢true e);
}

module _ {near : Near} {n code : ℕ} {marks₀ marks : List ℕ} {gone : ℕ → Bool} {other : ℕ → ℕ} {low : ℕ}
    (symm : Symmetric near) (real : (p : ℕ) → other p ≡ code → ⊥)
    (W : Sweeping near n code marks₀ marks gone other low) where
  -- a pixel that had the code and has it no more is gone
  is-gone : (p : ℕ) → at marks₀ p ≡ code → (at marks p ≡ code → ⊥) → gone p ≡ true
  is-gone p e f = go (gone p) refl
    where
      go : (t : Bool) → gone p ≡ t → t ≡ true
      go true d = refl
      go false d = absurd (f (is near n code marks₀ marks gone other real W.marks_are W.whole p d e))

  -- a pixel with an earlier one in its component leads none
  leads-not : (p q : ℕ) → q < p → p < n → region near n marks₀ code p q ≡ true → leads near n marks₀ code p ≡ false
  unfolding leads first
  leads-not p q h k e =
      let Link : Near = alike near marks₀ code in
      let hq : q < n = omega arith in
      let l : linked Link n q p ≡ true =
      sym (region_linked near n code marks₀ q p k) ∙ region_sym near n code marks₀ symm q p hq k ∙ e in
      let f : every (λ j. not (linked Link n j p)) (from 0 p) ≡ false =
      every_false (λ j. not (linked Link n j p)) 0 p q (omega arith) (omega arith) (ap not l) in
      ap (eqb (at marks₀ p) code &&◌) f ∙ and-false (eqb (at marks₀ p) code)

  uncoded : (p : ℕ) → (at marks₀ p ≡ code → ⊥) → leads near n marks₀ code p ≡ false
  unfolding leads
  uncoded p f = ap (◌&& first n (alike near marks₀ code) p) (ne_eqb (at marks₀ p) code f)

  -- the pixels that the search passes lead none
  pub none_leads : (to : ℕ) → to ≤ n → None marks code low to → (p : ℕ) → low ≤ p → p < to
      → leads near n marks₀ code p ≡ false
  none_leads to k f p h l = elim (eq_or_not (at marks₀ p) code) [
    | inl e ↦
        let r = W.earlier p (is-gone p e (f p h l)) in
        let back = region_sym near n code marks₀ symm p r.pixel (omega arith) r.below ∙ r.leads_to in
        leads-not p r.pixel (omega (arith, r.before)) (omega arith) back
    | inr e ↦ uncoded p e
  ]

  -- the search goes on
  pub ahead : (to : ℕ) → low ≤ to → to ≤ n → None marks code low to → Sweeping near n code marks₀ marks gone other to
  ahead to h k f = record {
    order = k;
    marks_are = W.marks_are;
    whole = W.whole;
    inside = W.inside;
    passed = λ p l e. elim (less_or_not p low) [ inl q ↦ W.passed p q e | inr q ↦ is-gone p e (f p q l) ];
    earlier = λ p e. later_low h (W.earlier p e);
  }

  module _ (h : low < n) (e : at marks low ≡ code) where
    pub had : (gone low ≡ false) × (at marks₀ low ≡ code)
    had = was near n code marks₀ marks gone other real W.marks_are W.whole low e

    abbrev pub Mine : ℕ → Bool
    Mine = region near n marks₀ code low

    -- its component is what it was, and none of it is gone
    pub mine_is : (x : ℕ) → region near n marks code low x ≡ Mine x
    mine_is x = region_stays near n code marks₀ marks gone other real W.marks_are W.whole low x h e

    pub mine_left : (x : ℕ) → Mine x ≡ true → gone x ≡ false
    mine_left x d =
        let chain = region_chain near n code marks₀ low x h d in
        sym (along near n code marks₀ gone W.whole h chain).1 ∙ had.0

    pub mine_coded : (x : ℕ) → Mine x ≡ true → at marks₀ x ≡ code
    mine_coded x d = region_coded near n code marks₀ low x h had.1 d

    -- the next pixel that has the code leads its component
    not-mine : (j : ℕ) → j < low → not (Mine j) ≡ true
    not-mine j l = go (Mine j) refl
      where
        go : (t : Bool) → Mine j ≡ t → not t ≡ true
        go true d = absurd (true≢false (sym (W.passed j l (mine_coded j d)) ∙ mine_left j d))
        go false d = refl

    pub it_leads : leads near n marks₀ code low ≡ true
    unfolding leads first
    it_leads = and_intro (eq-eqb _ _ had.1) (every_true (λ j. not (linked (alike near marks₀ code) n j low)) 0 low
        (λ j _ l. let l'' : j < low = omega arith in let hj : j < n = omega arith in
        ap not (sym (region_linked near n code marks₀ j low h) ∙ region_sym near n code marks₀ symm j low hj h)
        ∙ not-mine j l''))

    or-cond : (s t : Bool) (o x : ℕ) → cond t o (cond s o x) ≡ cond (s || t) o x
    or-cond true true o x = refl
    or-cond true false o x = refl
    or-cond false true o x = refl
    or-cond false false o x = refl

    -- its component is flooded, and gets its other marks
    pub take_it : {marks' : List ℕ} → ((p : ℕ) → at marks' p ≡ cond (Mine p) (other p) (at marks p))
        → Sweeping near n code marks₀ marks' (λ p. gone p || Mine p) other (low + 1)
    take_it F = record {
      order = omega arith;
      marks_are = λ p. F p
          ∙ ap (cond (Mine p) (other p)) (W.marks_are p)
          ∙ or-cond (gone p) (Mine p) (other p) (at marks₀ p);
      whole = λ u v hu hv a. ap₂ ◌||◌ (W.whole u v hu hv a) (region_whole near n code marks₀ symm low u v hu hv a);
      inside = λ p d. elim (or_cases (gone p) (Mine p) d) [
        | inl g ↦ W.inside p g
        | inr g ↦ (region_below near n code marks₀ low p g, region_coded near n code marks₀ low p h had.1 g)
      ];
      passed = λ p l a. let l' : p ≤ low = omega arith in elim (eq-or-lt_of_le l') [
        | inl q ↦ or_inr (gone p) (Mine p) (ap Mine q ∙ region_self near n code marks₀ low h)
        | inr q ↦ or_inl (gone p) (Mine p) (W.passed p q a)
      ];
      earlier = λ p d. elim (or_cases (gone p) (Mine p) d) [
        | inl g ↦ later_low (omega arith) (W.earlier p g)
        | inr g ↦ record { pixel = low; before = omega arith; below = h; leads_to = g }
      ];
    }

  -- at the end those that had the code are gone
  pub sweep_end : n ≤ low → (p : ℕ) → p < n → gone p ≡ eqb (at marks₀ p) code
  sweep_end k p h =
      same_test (gone p) (eqb (at marks₀ p) code)
      (λ d. eq-eqb _ _ (W.inside p d).1)
      (λ d. W.passed p (omega arith) (eqb-true _ _ d))

  pub beyond : (p : ℕ) → n ≤ p → gone p ≡ false
  beyond p h = same_test (gone p) false (λ d. absurd (omega (arith, (W.inside p d).0))) (λ d. absurd (false≢true d))
