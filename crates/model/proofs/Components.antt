-- The components of a section: their values, and what becomes of their pixels. For any neighbour relation, symmetric
-- where it is said. Assumes nothing.
use Prim.Native.Nat.{ℕ, ◌<◌}
use mathlib.Core.Path.{◌≡◌, refl, sym, ap, ap₂, ◌∙◌}
use mathlib.Core.Bool.{Bool, true, false, cond, ◌&&◌, and_comm}
use mathlib.Core.List.{List, map}
use mathlib.Mathlib.Data.Bool.Basic.{and_intro}
use lib.ListN.{length, length-map}
use Rattle.planes.specs.Lists.{from, keep, every, count, at}
use Rattle.planes.specs.Neighbours.{Near, linked, component}
use Rattle.planes.specs.Shapes.{Symmetric}
use Rattle.planes.proofs.Tests.{implies_out, implies_in}
use Rattle.planes.proofs.Lists.{every_in, every_out, every_kept}
use Rattle.planes.proofs.Links.{link_near}
use Rattle.planes.proofs.Order.{component_same}
use Rattle.tones.specs.Tones.{tone}
use Rattle.model.specs.declared.Pass.{Pass}
use Rattle.model.specs.Passes.{within, inside, component_values, changes, retone, new_tone}

-- ## Values

pub values_length : (near : Near) (s : Pass) (p : List ℕ) (i : ℕ)
    → length (component_values near s p i) ≡ count (linked (inside near s p) (length p) i) (from 0 (length p))
unfolding component_values component
values_length near s p i = length-map (keep (linked (inside near s p) (length p) i) (from 0 (length p))) (at p)

-- every value of a component passes a test where the values of its pixels do, and back
module _ (near : Near) (s : Pass) (p : List ℕ) (i : ℕ) (f : ℕ → Bool) where
  abbrev C : ℕ → Bool
  C = linked (inside near s p) (length p) i

  pub every_value : ((x : ℕ) → x < length p → C x ≡ true → f (at p x) ≡ true)
      → every f (component_values near s p i) ≡ true
  unfolding component_values component
  every_value h =
      every_kept f C (at p) (from 0 (length p))
      ∙ every_in _ (length p) (λ x l. implies_in (C x) (f (at p x)) (λ d. h x l d))

  pub value_every : every f (component_values near s p i) ≡ true → (x : ℕ) → x < length p → C x ≡ true
      → f (at p x) ≡ true
  unfolding component_values component
  value_every e x l d =
      let all = sym (every_kept f C (at p) (from 0 (length p))) ∙ e in
      implies_out (C x) (f (at p x)) (every_out _ (length p) all x l) d

-- ## What becomes of a pixel

-- what a pixel becomes, by whether it is in the section
module _ (near : Near) (s : Pass) (p : List ℕ) where
  pub in_tone : (i : ℕ) → within s (at p i) ≡ true
      → new_tone near s p i ≡ retone s (component_values near s p i) (at p i)
  unfolding new_tone
  in_tone i e = ap (λ t. cond t (retone s (component_values near s p i) (at p i)) (at p i)) e

  pub out_tone : (i : ℕ) → within s (at p i) ≡ false → new_tone near s p i ≡ at p i
  unfolding new_tone
  out_tone i e = ap (λ t. cond t (retone s (component_values near s p i) (at p i)) (at p i)) e

  -- a pixel of a component that is not changed stays
  pub still_tone : (i : ℕ) → changes s (component_values near s p i) ≡ false → new_tone near s p i ≡ at p i
  unfolding new_tone retone
  still_tone i e =
      let new : ℕ = tone s.rule s.a s.b (component_values near s p i) (at p i) in
      ap (λ (t : Bool). cond (within s (at p i)) (cond t new (at p i)) (at p i)) e
      ∙ same (within s (at p i)) (at p i)
    where
      same : (t : Bool) (x : ℕ) → cond t x x ≡ x
      same true x = refl
      same false x = refl

-- ## Pixels of one component

module _ (near : Near) (symm : Symmetric near) (s : Pass) (p : List ℕ) where
  pub inside_sym : (i j : ℕ) → inside near s p i j ≡ inside near s p j i
  unfolding inside
  inside_sym i j = ap₂ ◌&&◌ (and_comm (within s (at p i)) (within s (at p j))) (symm i j)

  -- linked pixels have the same values
  pub linked_values : (i x : ℕ) → i < length p → x < length p → linked (inside near s p) (length p) i x ≡ true
      → component_values near s p i ≡ component_values near s p x
  unfolding component_values
  linked_values i x hi hx e = ap (map (at p)) (component_same (inside near s p) inside_sym (length p) i x hi hx e)

  -- and so do neighbours in the section
  pub same_values : (i j : ℕ) → i < length p → j < length p → within s (at p i) ≡ true → within s (at p j) ≡ true
      → near i j ≡ true → component_values near s p i ≡ component_values near s p j
  unfolding inside
  same_values i j hi hj wi wj e =
      linked_values i j hi hj (link_near (inside near s p) (length p) (and_intro (and_intro wi wj) e))
