-- The channels of one pixel: the table of the rounded thirds by entry; what channels become keeps their order, and is
-- bytes. Assumes nothing.
use Prim.Native.Nat.{ℕ, ◌*◌, ◌≤◌, ◌<◌, zero-le}
use mathlib.Core.Path.{◌≡◌, refl}
use mathlib.Core.Bool.{Bool, true, false, cond}
use native.Mathlib.Nat.{mul-le-mul_right}
use native.Mathlib.Omega.{arith}
use lib.Dec.{leb, eqb}
use borrow.Author.Tests.{leb-true}
use Rattle.planes.specs.Lists.{at}
use Rattle.planes.specs.Rounding.{rounded}
use Rattle.planes.proofs.Lists.{all_at}
use Rattle.planes.proofs.Rounding.{rounded_mono, rounded_le, rounded_in}
use Rattle.channels.specs.Channels.{third, thirds, new_channel}

-- the table holds the rounded third of each channel sum
pub thirds_at : (sum : ℕ) → sum < 766 → at thirds sum ≡ third sum
unfolding thirds
thirds_at sum h = all_at third 766 sum h

-- of two channels of a pixel, one that is no higher becomes no higher
pub channel_mono : (I M J : ℕ) {C E : ℕ} → C ≤ E → new_channel I M J C ≤ new_channel I M J E
unfolding new_channel
channel_mono I M J {C} {E} h = go (eqb I 0) (leb (J * M) (255 * I))
  where
    go : (s t : Bool)
        → cond s 0 (cond t (rounded (C * J) I) (rounded (255 * C) M))
        ≤ cond s 0 (cond t (rounded (E * J) I) (rounded (255 * E) M))
    go true t = zero-le
    go false true = rounded_mono I (mul-le-mul_right J h)
    go false false = rounded_mono M (omega arith)

-- a channel becomes a byte, whatever the numbers are
pub channel_byte : (I M J C : ℕ) → C ≤ M → new_channel I M J C ≤ 255
unfolding new_channel
channel_byte I M J C h = go (eqb I 0) (leb (J * M) (255 * I)) refl
  where
    go : (s t : Bool) → leb (J * M) (255 * I) ≡ t → cond s 0 (cond t (rounded (C * J) I) (rounded (255 * C) M)) ≤ 255
    go true t e = zero-le
    go false true e = rounded_in 255 I (C * J) (omega (arith, mul-le-mul_right J h, leb-true (J * M) (255 * I) e))
    go false false e = rounded_le 255 M C h
