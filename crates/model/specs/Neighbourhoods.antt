-- The neighbours by which a pass takes its components. Definitions only.
use Rattle.planes.specs.Neighbours.{Near}
use Rattle.planes.specs.Shapes.{adjacency}
use Rattle.planes.specs.declared.Shape.{Shape}
use Rattle.model.specs.declared.Pass.{Pass}

-- those of the plane, by the number that the pass carries: the eight for 8, and the four for 4
unfoldable pub pass_neighbours : Shape → Pass → Near
pass_neighbours z s = adjacency z s.neighbours
