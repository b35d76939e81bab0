-- Intensities and recoloured frames by index: lengths and entries; they are bytes; a pixel's channels keep their order.
-- Assumes nothing.
use Prim.Native.Nat.{ℕ, zero, suc, ◌+◌, ◌*◌, ◌/◌, ◌%◌, ◌≤◌, ◌<◌, zero-le}
use mathlib.Core.Path.{◌≡◌, refl}
use mathlib.Core.Logic.{inl, inr}
use mathlib.Core.List.{List}
use native.Mathlib.Omega.{arith}
use lib.ListN.{length, get_or-eq_default}
use Rattle.planes.specs.Lists.{at}
use Rattle.planes.proofs.Lists.{all_at, length_all}
use Rattle.planes.proofs.Rounding.{rounded_in}
use Rattle.planes.proofs.Tests.{less_or_not}
use Rattle.channels.specs.Channels.{third, new_channel, new_pixel}
use Rattle.channels.proofs.Channels.{channel_mono, channel_byte}
use Rattle.colours.specs.Frames.{red, green, blue, pixel_at, pixel_intensity, intensity, greatest_channel}
use Rattle.colours.specs.Frames.{new_channel_at, recolour}

-- ## Intensity

pub length_intensity : (frame : List ℕ) → length (intensity frame) ≡ length frame / 3
unfolding intensity
length_intensity frame = length_all (pixel_intensity frame) (length frame / 3)

pub intensity_at : (frame : List ℕ) (i : ℕ) → i < length frame / 3 → at (intensity frame) i ≡ pixel_intensity frame i
unfolding intensity
intensity_at frame i h = all_at (pixel_intensity frame) (length frame / 3) i h

-- the intensities of a frame of bytes are bytes
pub intensity_bytes : (frame : List ℕ) → ((k : ℕ) → at frame k ≤ 255) → (i : ℕ) → at (intensity frame) i ≤ 255
unfolding pixel_intensity third
intensity_bytes frame bytes i = elim (less_or_not i (length frame / 3)) [
  | inl h ↦
      let sum = at frame (3 * i) + at frame (3 * i + 1) + at frame (3 * i + 2) in
      let few : sum ≤ 255 * 3 = omega (arith, bytes (3 * i), bytes (3 * i + 1), bytes (3 * i + 2)) in
      rw (intensity_at frame i h) (rounded_in 255 3 sum few)
  | inr h ↦
      let past : length (intensity frame) ≤ i = omega (arith, length_intensity frame) in
      rw (get_or-eq_default (intensity frame) 0 past) zero-le
]

-- ## Channels

-- the channel at index k is at most the greatest of its pixel i
pub channel_below : (frame : List ℕ) (i k : ℕ) → k / 3 ≡ i → at frame k ≤ greatest_channel frame i
unfolding greatest_channel
channel_below frame i k e = go (k % 3) (omega arith) (omega arith)
  where
    go : (r : ℕ) → r < 3 → k ≡ 3 * i + r → at frame k ≤ greatest_channel frame i
    go zero h e = let d : k ≡ 3 * i = omega arith in rw d (omega arith)
    go (suc zero) h e = rw e (omega arith)
    go (suc (suc zero)) h e = rw e (omega arith)
    go (suc (suc (suc r))) h e = absurd (omega arith)

-- ## Recolouring

module _ (frame plane : List ℕ) where
  pub length_recolour : length (recolour frame plane) ≡ length frame
  unfolding recolour
  length_recolour = length_all (new_channel_at frame plane) (length frame)

  -- what the channel at index k of pixel i becomes
  pub recolour_at : (i k : ℕ) → k / 3 ≡ i → k < length frame
      → at (recolour frame plane) k
      ≡ new_channel (pixel_intensity frame i) (greatest_channel frame i) (at plane i) (at frame k)
  unfolding recolour
  recolour_at i k e h = rw e at (all_at (new_channel_at frame plane) (length frame) k h)

  -- what the channels of pixel i become
  pub recolour_pixel : (i : ℕ) → 3 * i + 2 < length frame
      → pixel_at (recolour frame plane) i ≡ new_pixel (red frame i) (green frame i) (blue frame i) (at plane i)
  unfolding pixel_intensity greatest_channel
  recolour_pixel i h =
      rw (
        recolour_at i (3 * i) (omega arith) (omega arith),
        recolour_at i (3 * i + 1) (omega arith) (omega arith),
        recolour_at i (3 * i + 2) (omega arith) h,
      )

  -- every number of the recoloured frame is in 0 to 255
  pub recolour_bytes : (k : ℕ) → at (recolour frame plane) k ≤ 255
  recolour_bytes k = elim (less_or_not k (length frame)) [
    | inl h ↦ rw (recolour_at (k / 3) k refl h) (channel_byte _ _ _ _ (channel_below frame (k / 3) k refl))
    | inr h ↦
        let past : length (recolour frame plane) ≤ k = omega (arith, length_recolour) in
        rw (get_or-eq_default (recolour frame plane) 0 past) zero-le
  ]

  -- of the channels at k and l of one pixel, if the first is no higher in the frame, it is no higher afterwards
  pub channels_ordered : (k l : ℕ) → k < length frame → l < length frame → k / 3 ≡ l / 3
      → at frame k ≤ at frame l → at (recolour frame plane) k ≤ at (recolour frame plane) l
  channels_ordered k l hk hl e h =
      rw (recolour_at (l / 3) k e hk, recolour_at (l / 3) l refl hl) (channel_mono _ _ _ h)
