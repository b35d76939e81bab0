-- The limited rule is sound: on [a, b] it never falls, and it stays in [a, b]. The clipped counts up to v, and v's
-- share of what the clipping left over, grow with v. Assumes nothing.
use Prim.Native.Nat.{ℕ, ◌+◌, ◌-◌, ◌*◌, ◌≤◌}
use mathlib.Core.Path.{◌≡◌, ap}
use mathlib.Core.List.{List}
use native.Mathlib.Nat.{min-le_left, mul-le-mul_left, mul-le-mul_right, mul-add}
use native.Mathlib.Omega.{arith}
use lib.ListN.{length}
use lib.Dec.{eqb}
use Rattle.planes.specs.Lists.{count}
use Rattle.histograms.specs.Values.{sum, sum_to}
use Rattle.limited.specs.Limited.{clipped, limited_tone}
use Rattle.histograms.specs.Sound.{Sound}
use Rattle.histograms.proofs.Sums.{sum_le, sum_thousand, sum_counts_le, sum_to_mono}
use Rattle.histograms.proofs.Scaled.{scaled_mono, scaled_above, scaled_below}

-- the clipped counts are no more than 1000 for each pixel
pub clipped_le : (k : ℕ) (vs : List ℕ) (a n : ℕ) → sum (clipped k vs) a n ≤ 1000 * length vs
unfolding clipped
clipped_le k vs a n =
    let q : ℕ → ℕ = λ v. count (eqb v) vs in
    let each : sum (clipped k vs) a n ≤ sum (λ v. 1000 * q v) a n
    = sum_le (clipped k vs) (λ v. 1000 * q v) a n (λ v _ _. min-le_left (1000 * q v) (k * length vs)) in
    omega (arith, each, sum_thousand q a n, sum_counts_le vs a n)

-- w parts of the sum s, and n of what t leaves of the whole, are no more than w wholes
pub shares_le : (s t n w whole : ℕ) → s ≤ t → t ≤ whole → n ≤ w → w * s + n * (whole - t) ≤ w * whole
shares_le s t n w whole st tw nw =
    let both : t + (whole - t) ≡ whole = omega arith in
    omega (
      arith,
      mul-le-mul_left w st,
      mul-le-mul_right (whole - t) nw,
      mul-add w t (whole - t),
      ap (w *◌) both,
    )

-- the part of the limited rule's tone
limited_part : ℕ → ℕ → ℕ → List ℕ → ℕ → ℕ
limited_part k a b vs v =
    (b - a + 1) * sum_to (clipped k vs) a v + (v - a + 1) * (1000 * length vs - sum_to (clipped k vs) a b)

limited_part_mono : (k a b : ℕ) (vs : List ℕ) {v u : ℕ} → v ≤ u → limited_part k a b vs v ≤ limited_part k a b vs u
unfolding limited_part
limited_part_mono k a b vs {v} {u} vu = omega (
  arith,
  mul-le-mul_left (b - a + 1) (sum_to_mono (clipped k vs) a vu),
  mul-le-mul_right {m = v - a + 1} {n = u - a + 1} (1000 * length vs - sum_to (clipped k vs) a b) (omega arith),
)

limited_part_le : (k a b : ℕ) (vs : List ℕ) {v : ℕ} → v ≤ b
    → limited_part k a b vs v ≤ (b - a + 1) * (1000 * length vs)
unfolding limited_part
limited_part_le k a b vs {v} vb = shares_le
    (sum_to (clipped k vs) a v)
    (sum_to (clipped k vs) a b)
    (v - a + 1)
    (b - a + 1)
    (1000 * length vs)
    (sum_to_mono (clipped k vs) a vb)
    (clipped_le k vs a (b - a + 1))
    (omega arith)

pub limited_sound : (k a b : ℕ) (vs : List ℕ) → a ≤ b → Sound a b (limited_tone k a b vs)
unfolding limited_tone limited_part
limited_sound k a b vs ab =
    let y = (b - a + 1) * (1000 * length vs) in
    record {
      rises = λ v u _ vu _. scaled_mono a b y (limited_part_mono k a b vs vu);
      above = λ v _ _. scaled_above a b (limited_part k a b vs v) y;
      below = λ v _ vb. scaled_below a b (limited_part k a b vs v) y ab (limited_part_le k a b vs vb);
    }
