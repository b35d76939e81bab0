-- The steps of recolouring: what each step stores, and what the last one leaves. Definitions only.
--
--   with_pixel  the output after a step
--   with_frame  the output after the last one
use Rattle.std.specs.Prelude.{ℕ, ◌+◌, ◌*◌, List, ◌++◌, length, drop, set}
use Rattle.channels.specs.declared.Pixel.{Pixel}
use Rattle.colours.specs.Frames.{recolour}

-- the output with the channels of pixel i
abbrev pub with_pixel : Pixel → ℕ → List ℕ → List ℕ
with_pixel new i output =
    set (set (set output (3 * i) new.red) (3 * i + 1) new.green) (3 * i + 2) new.blue

-- the output with all new channels
abbrev pub with_frame : List ℕ → List ℕ → List ℕ → List ℕ
with_frame frame plane output = recolour frame plane ++ drop (length frame) output
