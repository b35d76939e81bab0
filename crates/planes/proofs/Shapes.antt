-- Shapes: what it means that none of their refusals applies, and that a plane's neighbours, be it by which number of
-- them, are a symmetric relation that has the four in it, and by which the whole plane is linked. Assumes nothing.
use Prim.Native.Nat.{ℕ, ◌≤◌, ◌<◌}
use mathlib.Core.Path.{◌≡◌, ap}
use mathlib.Core.Bool.{Bool, true, false, cond}
use native.Mathlib.Omega.{arith}
use lib.Dec.{eqb}
use Rattle.planes.specs.Refusals.{◌▷◌, length_refusal, room_refusal}
use Rattle.planes.specs.Refusals.{size_refusal, greatest_pixels}
use Rattle.planes.specs.Neighbours.{Near, Chain, eight}
use Rattle.planes.specs.Shapes.{pixels, neighbours, adjacency, SizedShape, Symmetric, Narrower}
use Rattle.planes.specs.Shapes.{shape_refusal, lent_refusal, Lent}
use Rattle.planes.specs.declared.Shape.{Shape}
use Rattle.planes.proofs.Refusals.{refused_by, passed_first}
use Rattle.planes.proofs.Refusals.{▷_none, ▷_both, sized, sized_none, length_fits, length_none}
use Rattle.planes.proofs.Refusals.{room_fits, room_none}
use Rattle.planes.proofs.Links.{chain_map}
use Rattle.planes.proofs.Neighbours.{four_sym, plane_chain}
use Rattle.planes.proofs.Eight.{eight_sym, four_eight}

-- ## Neighbours

pub neighbours_sym : (z : Shape) → Symmetric (neighbours z)
unfolding neighbours
neighbours_sym z = four_sym z.w

-- among the first n pixels a chain of neighbours leads from the first one to any other
pub shape_chain : (z : Shape) (n : ℕ) → 1 ≤ z.w → (p : ℕ) → p < n → Chain (neighbours z) n 0 p
unfolding neighbours
shape_chain z n = plane_chain z.w n

-- by a number of neighbours: what holds of the eight and of those of the shape
by_number : (z : Shape) (number : ℕ) (P : Near → Type 0) → P (eight z.w) → P (neighbours z)
    → P (adjacency z number)
unfolding adjacency
by_number z number P e f = go (eqb number 8)
  where
    go : (t : Bool) → P (cond t (eight z.w) (neighbours z))
    go true = e
    go false = f

pub adjacency_sym : (z : Shape) (number : ℕ) → Symmetric (adjacency z number)
adjacency_sym z number = by_number z number Symmetric (eight_sym z.w) (neighbours_sym z)

pub adjacency_wider : (z : Shape) (number : ℕ) → Narrower (neighbours z) (adjacency z number)
unfolding neighbours
adjacency_wider z number = by_number z number (Narrower (neighbours z)) (four_eight z.w) (λ i j e. e)

pub adjacency_chain : (z : Shape) (number n : ℕ) → 1 ≤ z.w → (p : ℕ) → p < n → Chain (adjacency z number) n 0 p
adjacency_chain z number n wide p h =
    let wider = adjacency_wider z number in
    (chain_map n (neighbours z) (adjacency z number) (λ i j hi hj e. wider i j e) (omega arith)
    (shape_chain z n wide p h)).1

-- 4 are those of the shape, and so is every number but 8
pub adjacency_other : (z : Shape) (number : ℕ) → eqb number 8 ≡ false → adjacency z number ≡ neighbours z
unfolding adjacency
adjacency_other z number e = ap (λ (t : Bool). cond t (eight z.w) (neighbours z)) e

pub adjacency_eight : (z : Shape) (number : ℕ) → eqb number 8 ≡ true → adjacency z number ≡ eight z.w
unfolding adjacency
adjacency_eight z number e = ap (λ (t : Bool). cond t (eight z.w) (neighbours z)) e

-- ## Refusals

pub shape_fits : (z : Shape) → shape_refusal z ≡ 0 → SizedShape z
unfolding shape_refusal size_refusal
shape_fits z e = sized z.w z.h greatest_pixels e

pub shape_none : (z : Shape) → SizedShape z → shape_refusal z ≡ 0
unfolding shape_refusal size_refusal
shape_none z S = sized_none z.w z.h greatest_pixels S

-- a plane, marks and a queue that are not refused
pub lent_fits : (z : Shape) (plane marks queue : ℕ) → lent_refusal z plane marks queue ≡ 0 → Lent z plane marks queue
unfolding lent_refusal
lent_fits z plane marks queue e =
    let tests = ▷_none (shape_refusal z) (length_refusal plane (pixels z) ▷ room_refusal (pixels z) marks queue) e in
    let lengths = ▷_none (length_refusal plane (pixels z)) (room_refusal (pixels z) marks queue) tests.1 in
    let room = room_fits (pixels z) marks queue lengths.1 in
    record {
      size = shape_fits z tests.0;
      whole = length_fits plane (pixels z) lengths.0;
      covered = room.0;
      spare = room.1;
    }

-- and back
pub lent_none : (z : Shape) (plane marks queue : ℕ) → Lent z plane marks queue → lent_refusal z plane marks queue ≡ 0
unfolding lent_refusal
lent_none z plane marks queue l =
    ▷_both (shape_refusal z) _ (shape_none z l.size)
    (▷_both (length_refusal plane (pixels z)) _ (length_none plane (pixels z) l.whole)
    (room_none (pixels z) marks queue l.covered l.spare))

-- ## What finds the contract of a function that tests one refusal of a shape after the other

pub pixels_small : (z : Shape) → shape_refusal z ≡ 0 → pixels z ≤ greatest_pixels
pixels_small z e = (shape_fits z e).few

pub ruleset in_order = (refused_by, passed_first, pixels_small)
