-- What the program writes: the line of a refusal, or an enhanced frame. Definitions only.
--
--   greatest_frame  the greatest number of pixels of a frame
--   refusal_line N  `refused N` and LF
--   enhanced_frame  a frame enhanced with the house setting, as the writer emits it
--   Emitted         the contract of what is written into the output
use Rattle.std.specs.Prelude.{ℕ, ◌≤◌, ◌≡◌, List, [], ◌∷◌, ◌++◌, length, take, drop}
use Rattle.planes.specs.Shapes.{shape_of}
use Rattle.colours.specs.Frames.{recolour}
use Rattle.enhance.specs.Calls.{house, chain_of}
use Rattle.texts.specs.Ascii.{ascii, decimal}
use Rattle.netpbm.specs.Writing.{encoding}

abbrev pub greatest_frame : ℕ
greatest_frame = 16384

unfoldable pub refusal_line : ℕ → List ℕ
refusal_line number = ascii "refused " ++ decimal number ++ (10 ∷ [])

-- a frame of w columns and h rows, recoloured from the last plane of its enhancement
unfoldable pub enhanced_frame : List ℕ → ℕ → ℕ → List ℕ
enhanced_frame raster w h = encoding (recolour raster (chain_of (shape_of w h) house raster).plane) w h

-- the output has these r bytes from its beginning on, and beyond them what it had
pub record Emitted (bytes output : List ℕ) (r : ℕ) (output' : List ℕ) : Type 0 where
  pub within : r ≤ length output'
  pub written : take r output' ≡ bytes
  pub beyond : drop r output' ≡ drop r output
