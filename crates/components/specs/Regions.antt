-- The components of the pixels whose marks have one code, over any neighbour relation. Definitions only.
--
--   region   the component of a pixel among those that have its code, as a test of pixels
--   leads    a pixel has the code and is the first of its component in reading order
use Rattle.std.specs.Prelude.{ℕ, Bool, ◌&&◌, List, ltb, eqb}
use Rattle.planes.specs.Lists.{at}
use Rattle.planes.specs.Neighbours.{Near, linked, first}
use Rattle.rows.specs.Codes.{alike}

-- of the pixels 0 .. n - 1, those linked to `start` by neighbours that have the code
unfoldable pub region : Near → ℕ → List ℕ → ℕ → ℕ → ℕ → Bool
region near n marks code start p = ltb p n && linked (alike near marks code) n start p

unfoldable pub leads : Near → ℕ → List ℕ → ℕ → ℕ → Bool
leads near n marks code p = eqb (at marks p) code && first n (alike near marks code) p
