-- Rows of a plane of w columns, and the row of a pixel by multiplication with an inverse of the width. Definitions
-- only.
--
--   in_row      neighbours in a row; every neighbourhood has these
--   row_end     one past the last pixel of a pixel's row
--   inverse_of  the number that is multiplied with
--   Width       what finding a row requires of the width
use Rattle.std.specs.Prelude.{ℕ, ◌+◌, ◌*◌, ◌/◌, ◌≤◌, ◌≡◌, ◌&&◌, eqb}
use Rattle.planes.specs.Neighbours.{Near, apart}

-- pixels of one row, of w pixels, that are next to each other
unfoldable pub in_row : ℕ → Near
in_row w i j = eqb (i / w) (j / w) && apart i j

-- one past the last pixel of the row of p
abbrev pub row_end : ℕ → ℕ → ℕ
row_end w p = p / w * w + w

-- the least number whose product with w is more than 2 ^ 32
unfoldable pub inverse_of : ℕ → ℕ
inverse_of w = 4294967296 / w + 1

-- a width that is not refused, with its inverse
pub record Width (w inverse : ℕ) : Type 0 where
  pub wide : 1 ≤ w
  pub narrow : w ≤ 4096
  pub inverse_is : inverse ≡ inverse_of w
