-- The scale of a pixel in the three cases of Algorithm 6. Assumes nothing.
use Prim.Native.Nat.{ℕ, zero, suc, ◌*◌, ◌≤◌, ◌<◌}
use mathlib.Core.Path.{◌≡◌}
use native.Mathlib.Nat.{mul_comm, mul-zero, mul-le-mul_right}
use native.Mathlib.Omega.{arith}
use borrow.Author.Tests.{eq-eqb, ne_eqb, le-leb, lt-leb}
use Rattle.channels.specs.Channels.{new_channel}
use Rattle.channels.specs.Scales.{Scales}

-- I = 0: 0
pub scales_black : (I M J : ℕ) → I ≡ 0 → Scales I M J 0 1
unfolding new_channel
scales_black I M J e =
    record {
      gives = λ C. simp (eq-eqb _ _ e, mul-zero);
      byte = λ C h. simp mul-zero (omega arith);
      some = omega arith;
      small = omega arith;
    }

-- J × M ≤ 255 × I: J / I
pub scales_by_intensity : (I M J : ℕ) → (I ≡ 0 → ⊥) → I ≤ 255 → J * M ≤ 255 * I → Scales I M J J I
unfolding new_channel
scales_by_intensity I M J some small h =
    record {
      gives = λ C. simp (ne_eqb _ _ some, le-leb _ _ h);
      byte = λ C below. omega (arith, mul-le-mul_right J below, mul_comm M J);
      some = omega (arith, some);
      small = small;
    }

-- otherwise: 255 / M
pub scales_by_greatest : (I M J : ℕ) → (I ≡ 0 → ⊥) → M ≤ 255 → 255 * I < J * M → Scales I M J 255 M
unfolding new_channel
scales_by_greatest I M J some small h =
    record {
      gives = λ C. simp (ne_eqb _ _ some, lt-leb _ _ h, mul_comm 255 C);
      byte = λ C below. omega arith;
      some = go M h;
      small = small;
    }
  where
    go : (M : ℕ) → 255 * I < J * M → 1 ≤ M
    go zero h = absurd (omega (arith, mul-zero J))
    go (suc M) h = omega arith

-- what finds the scale of each case
pub ruleset cases = (scales_black, scales_by_intensity, scales_by_greatest)
