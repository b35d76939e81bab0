-- The published recursion on a frame. Definitions only.
use Rattle.std.specs.Prelude.{ℕ, List}
use Rattle.planes.specs.Shapes.{adjacency}
use Rattle.planes.specs.declared.Shape.{Shape}
use Rattle.colours.specs.Frames.{intensity}
use Rattle.model.specs.Effects.{Effect}
use Rattle.model.specs.Published.{published}
use Rattle.levels.specs.declared.Settings.{Settings}

-- Algorithms 2 to 5 with the settings, on the intensity of a frame of the shape, by the settings' number of neighbours
abbrev pub published_of : Shape → Settings → List ℕ → Effect
published_of z t frame = published (adjacency z t.neighbours) t.last t.area t.rule (intensity frame)
