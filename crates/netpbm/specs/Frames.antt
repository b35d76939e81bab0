-- A P6 frame, by its parts, with no parser: the form that reading is held against. Definitions only.
--
--   IsFrame   a header with maxval 255, the limits met, and 3 × w × h bytes after it, the first at the offset
use Rattle.std.specs.Prelude.{ℕ, ◌+◌, ◌*◌, ◌≡◌, List, length}
use Rattle.planes.specs.Refusals.{Sized}
use Rattle.headers.specs.Headers.{IsHeader}

pub record IsFrame (bytes : List ℕ) (limit w h offset : ℕ) : Type 0 where
  pub raster : List ℕ
  pub header : IsHeader bytes w h 255 raster
  pub sized : Sized w h limit
  pub filled : length raster ≡ 3 * (w * h)
  pub placed : length bytes ≡ offset + length raster
