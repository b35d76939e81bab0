-- Widths of sections: powers of two that halve, by which a section's level is told. Assumes nothing.
use Prim.Native.Nat.{ℕ, zero, suc, ◌+◌, ◌-◌, ◌/◌, ◌^◌, ◌≤◌}
use mathlib.Core.Path.{◌≡◌, refl}
use native.Mathlib.Nat.{suc-add}
use native.Mathlib.Omega.{arith}
use lib.Pow.{pow_pos}
use lib.Count.{count_trailing_zeros}
use Rattle.model.proofs.Recursion.{double}
use Rattle.levels.specs.Levels.{Wide}

-- ## Powers of two

-- the trailing zeros of the powers of two up to 256
pub zeros : (k : ℕ) → k ≤ 8 → count_trailing_zeros 32 (2 ^ k) ≡ k
unfolding count_trailing_zeros
zeros zero h = refl
zeros (suc zero) h = refl
zeros (suc (suc zero)) h = refl
zeros (suc (suc (suc zero))) h = refl
zeros (suc (suc (suc (suc zero)))) h = refl
zeros (suc (suc (suc (suc (suc zero))))) h = refl
zeros (suc (suc (suc (suc (suc (suc zero)))))) h = refl
zeros (suc (suc (suc (suc (suc (suc (suc zero))))))) h = refl
zeros (suc (suc (suc (suc (suc (suc (suc (suc zero)))))))) h = refl
zeros (suc (suc (suc (suc (suc (suc (suc (suc (suc k))))))))) h = absurd (omega arith)

-- as many sections as numbers below a power of two
pub spans_right : (l : ℕ) → l ≤ 7 → 255 / 2 ^ (7 - l) + 1 ≡ 2 ^ (l + 1)
spans_right zero h = refl
spans_right (suc zero) h = refl
spans_right (suc (suc zero)) h = refl
spans_right (suc (suc (suc zero))) h = refl
spans_right (suc (suc (suc (suc zero)))) h = refl
spans_right (suc (suc (suc (suc (suc zero))))) h = refl
spans_right (suc (suc (suc (suc (suc (suc zero)))))) h = refl
spans_right (suc (suc (suc (suc (suc (suc (suc zero))))))) h = refl
spans_right (suc (suc (suc (suc (suc (suc (suc (suc l)))))))) h = absurd (omega arith)

-- ## Halves

module _ {last a b d k : ℕ} (W : Wide last a b (suc d) k) where
  pub low_half : Wide last a ((a + b) / 2) d k
  low_half = record {
    width = omega (arith, W.width, double d k, pow_pos (d + k));
    few = omega (arith, W.few, suc-add d k);
    lowest = W.lowest;
  }

  pub high_half : Wide last ((a + b) / 2 + 1) b d k
  high_half = record {
    width = omega (arith, W.width, double d k, low_half.width);
    few = omega (arith, W.few, suc-add d k);
    lowest = W.lowest;
  }
