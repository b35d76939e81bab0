-- A set of pixels is a component of a section exactly where it is the set of all pixels that are linked to one of it;
-- and a pass leaves a component alike in two planes that agree on it, where in both all pixels next to it, by the
-- neighbours that the pass carries, are outside [a, b]. On the model for any neighbour relation, and for two calls.
-- Assumes nothing.
--
--   component_linked   a component is what is linked to any of its pixels
--   linked_component   what is linked to a pixel of the section is a component
--   component_too      a component that another plane agrees on and rings is one there too
--   locally_alike      a pass leaves it alike in both, on the model
--   calls_alike        so do two accepted calls
use Prim.Native.Nat.{ℕ, ◌<◌}
use mathlib.Core.Path.{◌≡◌, sym, ap, subst, ◌∙◌}
use mathlib.Core.Logic.{inl, inr}
use mathlib.Core.Bool.{Bool, true, false, ◌&&◌, true≢false}
use mathlib.Core.List.{List}
use mathlib.Mathlib.Data.Bool.Basic.{and_elim_left, and_elim_right, and_intro}
use lib.ListN.{length}
use Rattle.planes.specs.Lists.{at}
use Rattle.planes.specs.Neighbours.{Near, Chain, here, step, linked}
use Rattle.planes.specs.Replies.{gives}
use Rattle.planes.specs.Shapes.{Symmetric}
use Rattle.planes.specs.declared.Shape.{Shape}
use Rattle.planes.proofs.Links.{chain_map, linked_iff, link_near, link_refl, link_trans, link_sym}
use Rattle.planes.proofs.Neighbours.{filled}
use Rattle.planes.proofs.Tests.{decide, never}
use Rattle.model.specs.declared.Pass.{Pass}
use Rattle.model.specs.Neighbourhoods.{pass_neighbours}
use Rattle.model.specs.Passes.{within, inside, passed}
use Rattle.model.proofs.Apart.{stays}
use Rattle.model.proofs.Chains.{accepted}
use Rattle.model.proofs.Components.{inside_sym}
use Rattle.model.proofs.Local.{component_alike}
use Rattle.model.proofs.Order.{passed_at}
use Rattle.model.proofs.Outcomes.{outcome_given}
use Rattle.passes.specs.Calls.{call_on, PassOutcome}
use Rattle.schedules.specs.Components.{among, Ringed, IsComponent}

-- ## Components

module _ (near : Near) (s : Pass) (p : List ℕ) where
  abbrev n : ℕ
  n = length p

  -- neighbours in the section
  abbrev In : Near
  In = inside near s p

  in_pair : (u v : ℕ) → within s (at p u) ≡ true → within s (at p v) ≡ true → near u v ≡ true → In u v ≡ true
  unfolding inside
  in_pair u v wu wv e = and_intro (and_intro wu wv) e

  in_near : (u v : ℕ) → In u v ≡ true → near u v ≡ true
  unfolding inside
  in_near u v e = and_elim_right (within s (at p u) && within s (at p v)) (near u v) e

  in-second : (u v : ℕ) → In u v ≡ true → within s (at p v) ≡ true
  unfolding inside
  in-second u v e =
      and_elim_right (within s (at p u)) (within s (at p v))
      (and_elim_left (within s (at p u) && within s (at p v)) (near u v) e)

  module _ {C : ℕ → Bool} (K : IsComponent near s p C) where
    -- neighbours in the set are neighbours in the section
    among_in : (u v : ℕ) → u < n → v < n → among near C u v ≡ true → In u v ≡ true
    among_in u v hu hv e =
        let both = and_elim_left (C u && C v) (near u v) e in
        in_pair u v (K.section u hu (and_elim_left (C u) (C v) both))
        (K.section v hv (and_elim_right (C u) (C v) both)) (and_elim_right (C u && C v) (near u v) e)

    -- no neighbour in the section is outside the set
    closed : (u v : ℕ) → u < n → v < n → C u ≡ true → In u v ≡ true → C v ≡ true
    closed u v hu hv c e = elim (decide (C v)) [
      | inl d ↦ d
      | inr d ↦ absurd (true≢false (sym (in-second u v e) ∙ K.largest u v hu hv c d (in_near u v e)))
    ]

    pub component_linked : (i : ℕ) → i < n → C i ≡ true → (x : ℕ) → x < n → C x ≡ linked In n i x
    component_linked i hi c =
        filled In n i C hi c closed
        (λ u hu d. (chain_map n (among near C) In among_in hi (K.connected i u hi hu c d)).1)

  -- ## What is linked to a pixel

  module _ (symm : Symmetric near) (i : ℕ) (hi : i < n) (w : within s (at p i) ≡ true) where
    abbrev L : ℕ → Bool
    L = linked In n i

    -- a chain from a pixel of the set stays in it
    in-set : {x y : ℕ} → x < n → L x ≡ true → Chain In n x y → (y < n) × (L y ≡ true) × Chain (among near L) n x y
    in-set hx c here = (hx, c, here)
    in-set hx c (step {j = u} {k = v} chain e hv) =
        let r = in-set hx c chain in
        let next = link_trans In n i u v r.0 r.1 (link_near In n e) in
        (hv, next, step r.2 (and_intro (and_intro r.1 next) (in_near u v e)) hv)

    back : (x y : ℕ) → x < n → y < n → L x ≡ true → L y ≡ true → linked In n x y ≡ true
    back x y hx hy c d =
        link_trans In n x i y hi (link_sym In (inside_sym near symm s p) n x i ∙ c) d

    pub linked_component : IsComponent near s p L
    linked_component = record {
      pixel = i;
      below = hi;
      holds = link_refl In n i;
      section = λ x hx c. stays near s p n w ((linked_iff In n i x hi hx).0 c);
      connected = λ x y hx hy c d. (in-set hx c ((linked_iff In n x y hx hy).0 (back x y hx hy c d))).2;
      largest = λ x y hx hy c d e. never (λ v. true≢false (sym (link_trans In n i x y hx c
          (link_near In n (in_pair x y (stays near s p n w ((linked_iff In n i x hi hx).0 c)) v e))) ∙ d));
    }

-- ## Two planes that agree on a component

module _ (near : Near) (s : Pass) (p q : List ℕ) (size : length q ≡ length p) {C : ℕ → Bool}
    (K : IsComponent near s p C) (agree : (x : ℕ) → x < length p → C x ≡ true → at q x ≡ at p x)
    (ring : Ringed near s q C) where
  longer : (y : ℕ) → y < length p → y < length q
  longer y h = subst (y <◌) (sym size) h

  -- it is a component of the second plane too
  pub component_too : IsComponent near s q C
  component_too = record {
    pixel = K.pixel;
    below = longer K.pixel K.below;
    holds = K.holds;
    section = λ x hx c. let h = subst (x <◌) size hx in ap (within s) (agree x h c) ∙ K.section x h c;
    connected = λ x y hx hy c d. subst (λ (m : ℕ). Chain (among near C) m x y) (sym size)
        (K.connected x y (subst (x <◌) size hx) (subst (y <◌) size hy) c d);
    largest = ring;
  }

  pub locally_alike : (x : ℕ) → x < length p → C x ≡ true → at (passed near s q) x ≡ at (passed near s p) x
  locally_alike x hx c =
      let same = component_linked near s p K x hx c in
      passed_at near s q x (longer x hx)
      ∙ component_alike near s p q size x hx (λ y hy d. agree y hy (same y hy ∙ d))
      (λ y v hy hv d e f. ring y v (longer y hy) (longer v hv) (same y hy ∙ d) (same v hv ∙ f) e)
      ∙ sym (passed_at near s p x hx)

-- two accepted calls of one pass, for planes of one shape
pub calls_alike : (z : Shape) (s : Pass)
    {p marks₁ queue₁ values₁ p' marks₁' queue₁' q marks₂ queue₂ values₂ q' marks₂' queue₂' : List ℕ}
    → PassOutcome z s p marks₁ queue₁ (gives values₁) p' marks₁' queue₁'
    → PassOutcome z s q marks₂ queue₂ (gives values₂) q' marks₂' queue₂'
    → {C : ℕ → Bool} → IsComponent (pass_neighbours z s) s p C
    → ((x : ℕ) → x < length p → C x ≡ true → at q x ≡ at p x) → Ringed (pass_neighbours z s) s q C
    → (x : ℕ) → x < length p → C x ≡ true → at q' x ≡ at p' x
calls_alike z s {p} {marks₁} {queue₁} {q = q} {marks₂} {queue₂} O₁ O₂ K agree ring x hx c =
    let done₁ = outcome_given O₁ in
    let done₂ = outcome_given O₂ in
    let whole₁ = (accepted z (length p) (call_on (length marks₁) (length queue₁) s) done₁.0).0.whole in
    let whole₂ = (accepted z (length q) (call_on (length marks₂) (length queue₂) s) done₂.0).0.whole in
    ap (λ (l : List ℕ). at l x) done₂.1.1
    ∙ locally_alike (pass_neighbours z s) s p q (whole₂ ∙ sym whole₁) K agree ring x hx c
    ∙ sym (ap (λ (l : List ℕ). at l x) done₁.1.1)
