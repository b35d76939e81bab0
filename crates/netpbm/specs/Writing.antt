-- The bytes of a written frame, and what writing answers and leaves. Definitions only.
--
--   encoding       the heading and the raster
--   write_refusal  1, 2, 3, 14
--   WriteOutcome   the contract of writing: its answer, and the output after it
use Rattle.std.specs.Prelude.{ℕ, ◌+◌, ◌*◌, List, ◌++◌, length}
use Rattle.planes.specs.Refusals.{◌▷◌, size_refusal, length_refusal, output_refusal, greatest_pixels}
use Rattle.planes.specs.Replies.{Reply}
use Rattle.texts.specs.Heading.{heading}
use Rattle.texts.specs.Writing.{WritingOutcome}

abbrev pub encoding : List ℕ → ℕ → ℕ → List ℕ
encoding raster w h = heading w h ++ raster

-- 1, 2, 3, 14 for a raster and an output of so many bytes
unfoldable pub write_refusal : ℕ → ℕ → ℕ → ℕ → ℕ
write_refusal w h raster output =
    let needed = length (heading w h) + raster in
    size_refusal w h greatest_pixels ▷ length_refusal raster (3 * (w * h)) ▷ output_refusal output needed

-- the frame in the output, or the refusal
abbrev pub WriteOutcome : (raster : List ℕ) (w h : ℕ) (output : List ℕ) (reply : Reply) (output' : List ℕ) → Type 0
WriteOutcome raster w h output =
    WritingOutcome (write_refusal w h (length raster) (length output)) (encoding raster w h) output
