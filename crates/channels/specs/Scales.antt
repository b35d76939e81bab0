-- The scale that the three channels of a pixel share, and the inverses by which it divides. Definitions only.
--
--   Scales     a scale, times / over, of a pixel for a new intensity
--   inverse    what a dividend is multiplied by, in place of a division
--   Inverses   the table of the inverses of 1 to 255
--   Quotient   a quotient that fits a byte, with the inverse of its divisor
use Rattle.std.specs.Prelude.{ℕ, ◌+◌, ◌*◌, ◌/◌, ◌≤◌, ◌<◌, ◌≡◌, List, length}
use Rattle.planes.specs.Lists.{at}
use Rattle.planes.specs.Rounding.{rounded}
use Rattle.channels.specs.Channels.{new_channel}

-- times / over is the scale of a pixel of intensity I and greatest channel M for the new intensity J
pub record Scales (I M J times over : ℕ) : Type 0 where
  -- a channel becomes its product with the scale, rounded
  pub gives : (C : ℕ) → new_channel I M J C ≡ rounded (C * times) over
  -- which is at most 255
  pub byte : (C : ℕ) → C ≤ M → C * times ≤ 255 * over
  pub some : 1 ≤ over
  pub small : over ≤ 255

-- the inverse of m, by which a rounded quotient by m is found: the least number above 2^26 / (2 × m)
unfoldable pub inverse : ℕ → ℕ
inverse m = 67108864 / (2 * m) + 1

-- a table with the inverses of 1 to 255
pub record Inverses (table : List ℕ) : Type 0 where
  pub size : length table ≡ 256
  pub entry : (m : ℕ) → 1 ≤ m → m < 256 → at table m ≡ inverse m

-- a quotient x / m, with m in 1 to 255, that is at most 255, and the inverse of m
pub record Quotient (x m by : ℕ) : Type 0 where
  pub byte : x ≤ 255 * m
  pub some : 1 ≤ m
  pub small : m ≤ 255
  pub inverted : by ≡ inverse m
