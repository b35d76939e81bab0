-- The channels of one pixel: their intensity (Algorithm 1), and what they become for a new intensity (Algorithm 6).
-- Definitions only.
--
--   third, thirds  the rounded third of a channel sum, and the table of all of them
--   new_channel    what a channel becomes
--   new_pixel      what the three channels of a pixel become
use Rattle.std.specs.Prelude.{ℕ, ◌+◌, ◌*◌, max, cond, List, map, leb, eqb}
use Rattle.planes.specs.Lists.{from}
use Rattle.planes.specs.Rounding.{rounded}
use Rattle.channels.specs.declared.Pixel.{Pixel}

-- round(sum / 3)
unfoldable pub third : ℕ → ℕ
third sum = rounded sum 3

-- the rounded thirds of the 766 channel sums
unfoldable pub thirds : List ℕ
thirds = map third (from 0 766)

-- what a channel C becomes in a pixel of intensity I and greatest channel M, from the new intensity J: 0 if I = 0; else
-- round(C × J / I) if J × M ≤ 255 × I, and round(255 × C / M) otherwise
unfoldable pub new_channel : ℕ → ℕ → ℕ → ℕ → ℕ
new_channel I M J C = cond (eqb I 0) 0 (cond (leb (J * M) (255 * I)) (rounded (C * J) I) (rounded (255 * C) M))

-- what the channels of a pixel become, from the new intensity J
abbrev pub new_pixel : ℕ → ℕ → ℕ → ℕ → Pixel
new_pixel red green blue J =
    let new = new_channel (third (red + green + blue)) (max red (max green blue)) J in
    record { red = new red; green = new green; blue = new blue }
