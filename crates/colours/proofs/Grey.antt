-- Grey frames: a pixel's intensity is its channel, and recoloured it is grey again, of the new intensity, but at most
-- 255, and black where it was black. So recolouring from a plane that is no higher at one pixel than at another, where
-- the frame is not either, leaves the one no higher. Assumes nothing.
--
--   grey_intensity   the intensity of a grey frame
--   grey_recoloured  the intensity of a recoloured grey frame
--   grey_mono        which never falls in the old and the new intensity
use Prim.Native.Nat.{ℕ, zero, suc, ◌+◌, ◌*◌, ◌/◌, ◌≤◌, ◌<◌, zero-le}
use mathlib.Core.Path.{◌≡◌, refl, ap, ◌∙◌}
use mathlib.Core.Bool.{Bool, true, false, cond}
use mathlib.Core.List.{List}
use native.Mathlib.Nat.{le_refl, mul_comm, mul-le-mul_right}
use native.Mathlib.Omega.{arith}
use lib.Dec.{leb}
use lib.ListN.{length}
use borrow.Author.Tests.{leb-true, leb-false, ne_eqb}
use Rattle.planes.specs.Lists.{at}
use Rattle.planes.specs.Rounding.{rounded}
use Rattle.planes.proofs.Rounding.{rounded_exact}
use Rattle.channels.specs.Channels.{third, new_channel}
use Rattle.colours.specs.Frames.{red, pixel_intensity, intensity, greatest_channel, recolour, Grey}
use Rattle.colours.proofs.Frames.{intensity_at, length_recolour, recolour_at}

third_of : (g : ℕ) → third (g + g + g) ≡ g
unfolding third
third_of g = ap (λ (x : ℕ). rounded x 3) (omega arith) ∙ rounded_exact g 3 (omega arith)

-- what a grey channel becomes in a pixel of its own intensity
abbrev pub greyed : ℕ → ℕ → ℕ
greyed g j = new_channel g g j g

-- at most 255
capped : ℕ → ℕ
capped j = cond (leb j 255) j 255

capped_mono : (i j : ℕ) → i ≤ j → capped i ≤ capped j
unfolding capped
capped_mono i j h = go (leb i 255) refl (leb j 255) refl
  where
    go : (s : Bool) → leb i 255 ≡ s → (t : Bool) → leb j 255 ≡ t → cond s i 255 ≤ cond t j 255
    go true d true e = h
    go true d false e = leb-true i 255 d
    go false d true e = absurd (omega (arith, leb-false i 255 d, leb-true j 255 e))
    go false d false e = le_refl 255

greyed_some : (g j : ℕ) → 1 ≤ g → greyed g j ≡ capped j
unfolding new_channel capped
greyed_some g j h =
    rw (ne_eqb g 0 (λ e. absurd (omega (arith, e)))) (go (leb (j * g) (255 * g)) refl (leb j 255) refl)
  where
    go : (s : Bool) → leb (j * g) (255 * g) ≡ s → (t : Bool) → leb j 255 ≡ t
        → cond s (rounded (g * j) g) (rounded (255 * g) g) ≡ cond t j 255
    go true d true e = ap (λ (x : ℕ). rounded x g) (mul_comm g j) ∙ rounded_exact j g h
    go true d false e =
        let most = leb-true (j * g) (255 * g) d in
        let more = mul-le-mul_right g (leb-false j 255 e) in
        absurd (omega (arith, most, more))
    go false d true e =
        let most = leb-false (j * g) (255 * g) d in
        let less = mul-le-mul_right g (leb-true j 255 e) in
        absurd (omega (arith, most, less))
    go false d false e = rounded_exact 255 g h

pub grey_mono : (g k i j : ℕ) → g ≤ k → i ≤ j → greyed g i ≤ greyed k j
unfolding new_channel
grey_mono zero k i j h l = zero-le
grey_mono (suc g) k i j h l =
    rw (greyed_some (suc g) i (omega arith), greyed_some k j (omega arith)) (capped_mono i j l)

module _ (frame : List ℕ) (grey : Grey frame) (i : ℕ) (inside : i < length frame / 3) where
  grey-pixel : pixel_intensity frame i ≡ red frame i
  unfolding pixel_intensity
  grey-pixel = rw ((grey i inside).0, (grey i inside).1) (third_of (red frame i))

  greatest : greatest_channel frame i ≡ red frame i
  unfolding greatest_channel
  greatest = rw ((grey i inside).0, (grey i inside).1) (omega arith)

  pub grey_intensity : at (intensity frame) i ≡ red frame i
  grey_intensity = intensity_at frame i inside ∙ grey-pixel

  module _ (plane : List ℕ) where
    becomes : (k : ℕ) → k / 3 ≡ i → k < length frame → at frame k ≡ red frame i
        → at (recolour frame plane) k ≡ greyed (red frame i) (at plane i)
    becomes k e h same = rw (recolour_at frame plane i k e h, grey-pixel, greatest, same)

    pub grey_recoloured : at (intensity (recolour frame plane)) i ≡ greyed (red frame i) (at plane i)
    unfolding pixel_intensity
    grey_recoloured =
        let within : i < length (recolour frame plane) / 3 = omega (arith, length_recolour frame plane) in
        intensity_at (recolour frame plane) i within
        ∙ rw (
          becomes (3 * i) (omega arith) (omega arith) refl,
          becomes (3 * i + 1) (omega arith) (omega arith) (grey i inside).0,
          becomes (3 * i + 2) (omega arith) (omega arith) (grey i inside).1,
        )
        (third_of (greyed (red frame i) (at plane i)))
