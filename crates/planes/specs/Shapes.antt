-- The shape of a plane: its pixels, its neighbours, and the refusals of a plane of that shape. Definitions only.
--
--   shape_of       the shape of so many columns and rows
--   pixels         the number of pixels
--   neighbours     the neighbours that the order and the regional extrema of every chain are about: the four
--   adjacency      the neighbours by a number of them, by which components are taken: 4 or 8
--   SizedShape     a shape that is not refused
--   Symmetric      a relation is the same seen from either side
--   Narrower       a relation holds only where another does
--   shape_refusal  1, 2
--   lent_refusal   1, 2, 3, 4
--   Lent           a plane that is lent whole, with room in marks and queue
use Rattle.std.specs.Prelude.{ℕ, ◌*◌, ◌≤◌, ◌≡◌, true, cond, eqb}
use Rattle.planes.specs.Refusals.{◌▷◌, side_refusal, pixel_refusal, length_refusal, room_refusal, greatest_pixels}
use Rattle.planes.specs.Refusals.{Sized}
use Rattle.planes.specs.Neighbours.{Near, four, eight}
use Rattle.planes.specs.declared.Shape.{Shape}

-- w columns and h rows
abbrev pub shape_of : ℕ → ℕ → Shape
shape_of w h = record { w = w; h = h }

abbrev pub pixels : Shape → ℕ
pixels z = z.w * z.h

-- the four neighbours in the plane
unfoldable pub neighbours : Shape → Near
neighbours z = four z.w

-- the eight neighbours where their number is 8, else those of the shape
unfoldable pub adjacency : Shape → ℕ → Near
adjacency z number = cond (eqb number 8) (eight z.w) (neighbours z)

abbrev pub SizedShape : Shape → Type 0
SizedShape z = Sized z.w z.h greatest_pixels

-- ## Relations

abbrev pub Symmetric : Near → Type 0
Symmetric near = (i j : ℕ) → near i j ≡ near j i

-- what is next to each other in the first is so in the second
abbrev pub Narrower : Near → Near → Type 0
Narrower near wider = (i j : ℕ) → near i j ≡ true → wider i j ≡ true

-- ## Refusals, by the lengths of what is lent

-- 1, 2
unfoldable pub shape_refusal : Shape → ℕ
shape_refusal z = side_refusal z.w z.h ▷ pixel_refusal (pixels z) greatest_pixels

-- 1, 2, 3, 4
unfoldable pub lent_refusal : Shape → ℕ → ℕ → ℕ → ℕ
lent_refusal z plane marks queue =
    shape_refusal z ▷ length_refusal plane (pixels z) ▷ room_refusal (pixels z) marks queue

-- what a call that is not refused by these has: a plane lent whole, and as many entries or more in marks and queue
pub record Lent (z : Shape) (plane marks queue : ℕ) : Type 0 where
  pub size : SizedShape z
  pub whole : plane ≡ pixels z
  pub covered : pixels z ≤ marks
  pub spare : pixels z ≤ queue
