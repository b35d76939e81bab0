-- Where the pixels that have a code are whole components of a section, and all but inert ones, the section's components
-- are the regions of that code. For any symmetric neighbour relation. Assumes nothing.
use Prim.Native.Nat.{ℕ, ◌<◌}
use mathlib.Core.Path.{◌≡◌, refl, sym, ap, ap₂, subst, ◌∙◌}
use mathlib.Core.Logic.{inl, inr}
use mathlib.Core.Bool.{Bool, true, false, not, ◌&&◌}
use mathlib.Core.List.{List, map}
use mathlib.Mathlib.Data.Bool.Basic.{and_elim_right, and_intro}
use native.Mathlib.Omega.{arith}
use lib.ListN.{length}
use lib.Dec.{eqb}
use borrow.Author.Tests.{eq-eqb, ne_eqb}
use Rattle.planes.specs.Lists.{at, from, keep}
use Rattle.planes.specs.Shapes.{Symmetric}
use Rattle.planes.specs.Neighbours.{Near, Chain, here, step, linked, component, first}
use Rattle.planes.proofs.Tests.{same_test, eq_or_not}
use Rattle.planes.proofs.Counts.{keep_same}
use Rattle.planes.proofs.Lists.{every_same}
use Rattle.planes.proofs.Links.{chain_map, linked_iff, link_sym}
use Rattle.rows.specs.Codes.{alike}
use Rattle.rows.proofs.Codes.{alike_of, alike_from, alike_to, alike_near, alike_sym}
use Rattle.components.specs.Regions.{region, leads}
use Rattle.components.proofs.Regions.{region_linked}
use Rattle.model.specs.declared.Pass.{Pass}
use Rattle.model.specs.Passes.{within, inside, component_values, counted}
use Rattle.model.proofs.Components.{inside_sym, linked_values}
use Rattle.sections.specs.Sections.{Coded}

-- the last of three tests comes before the second
last_first : (s t u : Bool) → (s && t && u) ≡ ((s && u) && t)
last_first true true true = refl
last_first true true false = refl
last_first true false true = refl
last_first true false false = refl
last_first false t u = refl

module _ (near : Near) (symm : Symmetric near) (n code : ℕ) (s : Pass) (plane marks : List ℕ)
    (whole : length plane ≡ n) (K : Coded near n code s plane marks) where
  abbrev Link : Near
  Link = alike near marks code

  abbrev In : Near
  In = inside near s plane

  -- neighbours that have the code are neighbours in the section
  alike-inside : (u v : ℕ) → u < n → v < n → Link u v ≡ true → In u v ≡ true
  unfolding inside
  alike-inside u v hu hv e =
      let wu = K.coded u hu (alike_from near code marks u v e) in
      let wv = K.coded v hv (alike_to near code marks u v e) in
      and_intro (and_intro wu wv) (alike_near near code marks u v e)

  inside-near : (u v : ℕ) → In u v ≡ true → near u v ≡ true
  unfolding inside
  inside-near u v e = and_elim_right (within s (at plane u) && within s (at plane v)) (near u v) e

  -- a chain in the section from a pixel that has the code keeps to pixels that have it
  kept-chain : {p x : ℕ} → p < n → at marks p ≡ code → Chain In n p x
      → (x < n) × ((at marks x ≡ code) × Chain Link n p x)
  kept-chain h e here = (h, (e, here))
  kept-chain h e (step {j = j} {k = k} c d l) =
      let r = kept-chain h e c in
      let ek = K.whole j k r.0 l d r.1.0 in
      (l, (ek, step r.1.1 (alike_of near code marks r.1.0 ek (inside-near j k d)) l))

  -- a pixel that has the code is linked to the same pixels by both
  pub linked_same : (p x : ℕ) → p < n → x < n → at marks p ≡ code → linked Link n p x ≡ linked In n p x
  linked_same p x hp hx e = same_test (linked Link n p x) (linked In n p x)
      (λ d. (linked_iff In n p x hp hx).1
      (chain_map n Link In alike-inside hp ((linked_iff Link n p x hp hx).0 d)).1)
      (λ d. (linked_iff Link n p x hp hx).1 (kept-chain hp e ((linked_iff In n p x hp hx).0 d)).1.1)

  -- the values of a region are those of the component
  pub region_values_lem : (p : ℕ) → p < n → at marks p ≡ code
      → map (at plane) (keep (region near n marks code p) (from 0 n)) ≡ component_values near s plane p
  unfolding component_values component
  region_values_lem p h e =
      ap (map (at plane)) (keep_same (region near n marks code p) (linked In n p) 0 n
      (λ x _ l. region_linked near n code marks p x (omega arith) ∙ linked_same p x h (omega arith) e))
      ∙ ap (λ (k : ℕ). map (at plane) (keep (linked In k p) (from 0 k))) (sym whole)

  -- all pixels of a region have the same
  pub same_region : (p q : ℕ) → p < n → q < n → at marks p ≡ code → region near n marks code p q ≡ true
      → component_values near s plane p ≡ component_values near s plane q
  same_region p q hp hq e d =
      linked_values near symm s plane p q (omega arith) (omega arith)
      (subst (λ (k : ℕ). linked In k p q ≡ true) (sym whole)
      (sym (linked_same p q hp hq e) ∙ sym (region_linked near n code marks p q hq) ∙ d))

  -- a pixel that has the code leads its region where it is the first of its component
  first-same : (p : ℕ) → p < n → at marks p ≡ code → first n Link p ≡ first n In p
  unfolding first
  first-same p h e = every_same (λ j. not (linked Link n j p)) (λ j. not (linked In n j p)) 0 p (λ j _ l.
      let hj : j < n = omega arith in
      ap not (link_sym Link (alike_sym near code marks symm) n j p ∙ linked_same p j h hj e
      ∙ link_sym In (inside_sym near symm s plane) n p j))

  -- a component that has the code counts where its first pixel leads a region, and its values pass the test
  pub counted_leads : (f : List ℕ → Bool) (p : ℕ) → p < n
      → (eqb (at marks p) code && counted f near s plane p)
      ≡ (leads near n marks code p && f (component_values near s plane p))
  unfolding leads
  counted_leads f p h = elim (eq_or_not (at marks p) code) [
    | inl e ↦
        ap (◌&& counted f near s plane p) (eq-eqb (at marks p) code e)
        ∙ last_first (within s (at plane p)) (f (component_values near s plane p)) (first (length plane) In p)
        ∙ ap₂ (λ (t u : Bool). (t && u) && f (component_values near s plane p))
        (K.coded p h e ∙ sym (eq-eqb (at marks p) code e))
        (ap (λ (k : ℕ). first k In p) whole ∙ sym (first-same p h e))
    | inr e ↦
        let uncoded = ne_eqb (at marks p) code e in
        ap (◌&& counted f near s plane p) uncoded
        ∙ sym (ap (λ (t : Bool). (t && first n Link p) && f (component_values near s plane p)) uncoded)
  ]
