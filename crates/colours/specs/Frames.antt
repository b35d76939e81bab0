-- Frames: the intensity of a frame (Algorithm 1), and a frame recoloured from a new intensity (Algorithm 6).
-- A frame of n pixels is the list of its 3 × n channels R, G, B, pixel after pixel in reading order. Definitions only.
--
--   red, green, blue  the channels of a pixel
--   pixel_at          all three
--   pixel_intensity   I: the intensity of a pixel
--   intensity         the plane of the intensities of a frame
--   greatest_channel  M: the greatest channel of a pixel
--   new_channel_at    what a channel becomes
--   recolour          the frame of what all channels become
--   Grey              a frame whose pixels are all grey
use Rattle.std.specs.Prelude.{ℕ, ◌+◌, ◌*◌, ◌/◌, max, ◌<◌, ◌≡◌, List, map, length}
use Rattle.planes.specs.Lists.{from, at}
use Rattle.channels.specs.declared.Pixel.{Pixel}
use Rattle.channels.specs.Channels.{third, new_channel}

-- ## Pixels of a frame

abbrev pub red : List ℕ → ℕ → ℕ
red frame i = at frame (3 * i)

abbrev pub green : List ℕ → ℕ → ℕ
green frame i = at frame (3 * i + 1)

abbrev pub blue : List ℕ → ℕ → ℕ
blue frame i = at frame (3 * i + 2)

abbrev pub pixel_at : List ℕ → ℕ → Pixel
pixel_at frame i = record { red = red frame i; green = green frame i; blue = blue frame i }

-- ## Intensity

-- I of pixel i: round((R + G + B) / 3)
unfoldable pub pixel_intensity : List ℕ → ℕ → ℕ
pixel_intensity frame i = third (red frame i + green frame i + blue frame i)

-- the intensity of each pixel; a frame of 3 × n channels has n pixels
unfoldable pub intensity : List ℕ → List ℕ
intensity frame = map (pixel_intensity frame) (from 0 (length frame / 3))

-- ## Recolouring

-- M of pixel i
unfoldable pub greatest_channel : List ℕ → ℕ → ℕ
greatest_channel frame i = max (red frame i) (max (green frame i) (blue frame i))

-- what the channel at index k becomes, from a plane of new intensities; it belongs to pixel k / 3
abbrev pub new_channel_at : List ℕ → List ℕ → ℕ → ℕ
new_channel_at frame plane k =
    new_channel (pixel_intensity frame (k / 3)) (greatest_channel frame (k / 3)) (at plane (k / 3)) (at frame k)

-- a frame recoloured from a plane of new intensities
unfoldable pub recolour : List ℕ → List ℕ → List ℕ
recolour frame plane = map (new_channel_at frame plane) (from 0 (length frame))

-- ## Grey frames

-- every pixel's three channels are one
abbrev pub Grey : List ℕ → Type 0
Grey frame = (i : ℕ) → i < length frame / 3 → (green frame i ≡ red frame i) × (blue frame i ≡ red frame i)
