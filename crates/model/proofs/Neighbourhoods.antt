-- The neighbours by which a pass takes its components: a symmetric relation that has the plane's neighbours in it, and
-- by which the whole plane is linked. Assumes nothing.
use Prim.Native.Nat.{ℕ, ◌≤◌, ◌<◌}
use mathlib.Core.Path.{◌≡◌, ap}
use Rattle.planes.specs.Neighbours.{Chain}
use Rattle.planes.specs.Shapes.{neighbours, adjacency, Symmetric, Narrower}
use Rattle.planes.specs.declared.Shape.{Shape}
use Rattle.planes.proofs.Shapes.{adjacency_sym, adjacency_wider, adjacency_chain}
use Rattle.model.specs.declared.Pass.{Pass}
use Rattle.model.specs.Neighbourhoods.{pass_neighbours}
use Rattle.model.specs.Calls.{neighbour_refusal}

pub pass_sym : (z : Shape) (s : Pass) → Symmetric (pass_neighbours z s)
unfolding pass_neighbours
pass_sym z s = adjacency_sym z s.neighbours

pub pass_wider : (z : Shape) (s : Pass) → Narrower (neighbours z) (pass_neighbours z s)
unfolding pass_neighbours
pass_wider z s = adjacency_wider z s.neighbours

pub pass_chain : (z : Shape) (s : Pass) (n : ℕ) → 1 ≤ z.w → (p : ℕ) → p < n → Chain (pass_neighbours z s) n 0 p
unfolding pass_neighbours
pass_chain z s = adjacency_chain z s.neighbours

-- a pass by the number that it carries
pub pass_by : (z : Shape) (s : Pass) {number : ℕ} → s.neighbours ≡ number → pass_neighbours z s ≡ adjacency z number
unfolding pass_neighbours
pass_by z s e = ap (adjacency z) e

-- 4 is not refused
pub four_accepted : {number : ℕ} → number ≡ 4 → neighbour_refusal number ≡ 0
unfolding neighbour_refusal
four_accepted e = ap neighbour_refusal e
