-- The components of a section as sets of pixels, by what makes them components. A set is a test of pixels. Definitions
-- only.
--
--   among        neighbours that are both in a set
--   Ringed       all pixels next to a set are outside [a, b]
--   IsComponent  a set is a component of a section
use Rattle.std.specs.Prelude.{ℕ, ◌<◌, ◌≡◌, Bool, true, false, ◌&&◌, List, length}
use Rattle.planes.specs.Lists.{at}
use Rattle.planes.specs.Neighbours.{Near, Chain}
use Rattle.model.specs.declared.Pass.{Pass}
use Rattle.model.specs.Passes.{within}

abbrev pub among : Near → (ℕ → Bool) → Near
among near C i j = C i && C j && near i j

-- a pixel y that is not in the set, but a neighbour of a pixel x of it, has no value from a to b
abbrev pub Ringed : Near → Pass → List ℕ → (ℕ → Bool) → Type 0
Ringed near s p C =
    (x y : ℕ) → x < length p → y < length p → C x ≡ true → C y ≡ false → near x y ≡ true → within s (at p y) ≡ false

-- a set of pixels of the section that has a pixel, is connected, and is largest: nothing next to it is in the section
pub record IsComponent (near : Near) (s : Pass) (p : List ℕ) (C : ℕ → Bool) : Type 0 where
  pub pixel : ℕ
  pub below : pixel < length p
  pub holds : C pixel ≡ true
  pub section : (x : ℕ) → x < length p → C x ≡ true → within s (at p x) ≡ true
  pub connected : (x y : ℕ) → x < length p → y < length p → C x ≡ true → C y ≡ true
      → Chain (among near C) (length p) x y
  pub largest : Ringed near s p C
