-- A pass leaves a component alike in two planes that agree on it, if in both all pixels next to it are outside [a, b].
-- For any neighbour relation. Assumes nothing.
use Prim.Native.Nat.{ℕ, ◌<◌}
use mathlib.Core.Path.{◌≡◌, sym, ap, subst, ◌∙◌}
use mathlib.Core.Logic.{inl, inr}
use mathlib.Core.Bool.{Bool, true, false, ◌&&◌, true≢false}
use mathlib.Core.List.{List, map}
use mathlib.Mathlib.Data.Bool.Basic.{and_elim_left, and_elim_right}
use native.Mathlib.Omega.{arith}
use lib.ListN.{length}
use Rattle.planes.specs.Lists.{from, keep, at}
use Rattle.planes.specs.Neighbours.{Near, Chain, here, step, linked, component}
use Rattle.planes.proofs.Tests.{decide}
use Rattle.planes.proofs.Lists.{map_same}
use Rattle.planes.proofs.Counts.{keep_same}
use Rattle.planes.proofs.Links.{linked_iff, link_refl}
use Rattle.planes.proofs.Neighbours.{filled}
use Rattle.model.specs.declared.Pass.{Pass}
use Rattle.model.specs.Passes.{within, inside, component_values, new_tone}

module _ (near : Near) (s : Pass) (p r : List ℕ) (size : length r ≡ length p) (i : ℕ) (hi : i < length p) where
  -- neighbours in the section, before and after
  abbrev In : Near
  In = inside near s p

  abbrev In' : Near
  In' = inside near s r

  -- the component of i in p
  abbrev C : ℕ → Bool
  C = linked In (length p) i

  module _ (agree : (x : ℕ) → x < length p → C x ≡ true → at r x ≡ at p x)
      (edge : (x y : ℕ) → x < length p → y < length p → C x ≡ true → near x y ≡ true → C y ≡ false
      → within s (at r y) ≡ false) where
    same-component : (x : ℕ) → x < length p → C x ≡ linked In' (length p) i x
    unfolding inside
    same-component =
        filled In' (length p) i C hi (link_refl In (length p) i) closed
        (λ u hu d. reach ((linked_iff In (length p) i u hi hu).0 d))
      where
        closed : (u v : ℕ) → u < length p → v < length p → C u ≡ true → In' u v ≡ true → C v ≡ true
        closed u v hu hv c e = elim (decide (C v)) [
          | inl d ↦ d
          | inr d ↦
              let both = and_elim_left (within s (at r u) && within s (at r v)) (near u v) e in
              let beside = and_elim_right (within s (at r u) && within s (at r v)) (near u v) e in
              let in-v = and_elim_right (within s (at r u)) (within s (at r v)) both in
              absurd (true≢false (sym in-v ∙ edge u v hu hv c beside d))
        ]

        -- a pixel of a chain is in the component
        in-C : {u : ℕ} → u < length p → Chain In (length p) i u → C u ≡ true
        in-C {u} hu c = (linked_iff In (length p) i u hi hu).1 c

        end : {u : ℕ} → Chain In (length p) i u → u < length p
        end here = hi
        end (step c e h) = h

        reach : {u : ℕ} → Chain In (length p) i u → Chain In' (length p) i u
        reach here = here
        reach (step {j = j} {k = k} c e h) =
            let old-j = sym (agree j (end c) (in-C (end c) c)) in
            let old-k = sym (agree k h (in-C h (step c e h))) in
            let e₁ = subst (λ (v : ℕ). (within s (at p j) && within s v && near j k) ≡ true) old-k e in
            let e₂ = subst (λ (v : ℕ). (within s v && within s (at r k) && near j k) ≡ true) old-j e₁ in
            step (reach c) e₂ h

    pub component_alike : new_tone near s r i ≡ new_tone near s p i
    unfolding new_tone component_values component
    component_alike =
        rw (agree i hi (link_refl In (length p) i), size, ap (λ (l : List ℕ). map (at r) l) comps, tones)
      where
        comps : keep (linked In' (length p) i) (from 0 (length p)) ≡ keep C (from 0 (length p))
        comps = keep_same _ _ 0 (length p) (λ x _ h. sym (same-component x (omega arith)))

        tones : map (at r) (keep C (from 0 (length p))) ≡ map (at p) (keep C (from 0 (length p)))
        tones = map_same C (at r) (at p) 0 (length p) (λ x _ h c. agree x (omega arith) c)
