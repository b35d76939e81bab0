-- `Keeps` is reflexive and transitive; under it equal neighbours stay equal and unequal ones are never reversed. Pixels
-- of one component have one component. Assumes nothing.
use Prim.Native.Nat.{ℕ, ◌≤◌, ◌<◌}
use mathlib.Core.Path.{◌≡◌, sym, ap, ◌∙◌, fun_ext}
use mathlib.Core.Bool.{Bool, true}
use mathlib.Core.List.{List}
use native.Mathlib.Nat.{le_antisymm, le_of_lt, le_of_eq}
use Rattle.planes.specs.Lists.{from, keep, at}
use Rattle.planes.specs.Neighbours.{Near, linked, component}
use Rattle.planes.specs.Order.{Keeps}
use Rattle.planes.proofs.Tests.{same_test}
use Rattle.planes.proofs.Links.{link_trans, link_sym}

pub keeps_refl : (near : Near) (n : ℕ) (p : List ℕ) → Keeps near n p p
keeps_refl near n p = record { ordered = λ i j _ _ _ h. h }

pub keeps_trans : (near : Near) (n : ℕ) (p q r : List ℕ) → Keeps near n p q → Keeps near n q r → Keeps near n p r
keeps_trans near n p q r k l = record { ordered = λ i j hi hj e h. l.ordered i j hi hj e (k.ordered i j hi hj e h) }

module _ (near : Near) (symm : (i j : ℕ) → near i j ≡ near j i) (n : ℕ) (p q : List ℕ) (k : Keeps near n p q) where
  pub equal_stay : (i j : ℕ) → i < n → j < n → near i j ≡ true → at p i ≡ at p j → at q i ≡ at q j
  equal_stay i j hi hj e h =
      le_antisymm (k.ordered i j hi hj e (le_of_eq h))
      (k.ordered j i hj hi (symm j i ∙ e) (le_of_eq (sym h)))

  pub never_reversed : (i j : ℕ) → i < n → j < n → near i j ≡ true → at p i < at p j → at q i ≤ at q j
  never_reversed i j hi hj e h = k.ordered i j hi hj e (le_of_lt h)

-- ## Components

module _ (near : Near) (symm : (i j : ℕ) → near i j ≡ near j i) (n : ℕ) where
  pub component_same : (i j : ℕ) → i < n → j < n → linked near n i j ≡ true → component n near i ≡ component n near j
  unfolding component
  component_same i j hi hj e =
      let back = sym (link_sym near symm n i j) ∙ e in
      ap (λ (f : ℕ → Bool). keep f (from 0 n)) (fun_ext λ x. same_test (linked near n i x) (linked near n j x)
      (λ d. link_trans near n j i x hi back d)
      (λ d. link_trans near n i j x hj e d))
