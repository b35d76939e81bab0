-- What measures and counts say of the piecewise affine rule, for every list of values that has them: its last height,
-- whether it keeps the values back, and its tones. Assumes nothing.
use Prim.Native.Nat.{ℕ, ◌+◌, ◌-◌, ◌*◌, ◌≤◌, ◌<◌}
use mathlib.Core.Path.{◌≡◌, sym, ap, ap₂, ◌∙◌}
use mathlib.Core.Bool.{false, ◌||◌}
use mathlib.Core.List.{List}
use native.Mathlib.Nat.{mul-pos}
use native.Mathlib.Omega.{arith}
use lib.Dec.{eqb, ltb}
use borrow.Author.Tests.{eqb-false, ltb-false}
use Rattle.planes.specs.Lists.{at}
use Rattle.planes.proofs.Tests.{or_none}
use Rattle.histograms.specs.Values.{sum_to}
use Rattle.histograms.specs.Histograms.{Histogram, Ranged, Refilled}
use Rattle.histograms.specs.Sums.{SummedInPlace}
use Rattle.histograms.specs.Tables.{Tabled}
use Rattle.histograms.specs.declared.Measures.{Measures}
use Rattle.histograms.proofs.Values.{inside_all}
use Rattle.histograms.proofs.Measured.{measured_inside}
use Rattle.histograms.proofs.Histograms.{histogram_sum}
use Rattle.points.specs.declared.Slopes.{Slopes}
use Rattle.points.specs.declared.Point.{Point}
use Rattle.points.specs.Points.{start, points, top_of}
use Rattle.affine.specs.Affine.{joined, kept_at, affine_top, affine_tone, affine_kept, Drawn}
use Rattle.points.proofs.Points.{points_same}

-- the counts add up to the number of pixels
pub drawn_whole : {counts : List ℕ} {c : Measures} {a b : ℕ} → Drawn counts c a b
    → sum_to (at counts) c.least c.greatest ≡ c.size
drawn_whole {c = c} g =
    histogram_sum g.histogram c.greatest g.range.order
    ∙ inside_all (measured_inside g.histogram.measured)
    ∙ sym g.histogram.measured.size

-- a component that is not kept back has a last height
pub not_kept : (n d y : ℕ) → kept_at n d y ≡ false → (1 ≤ n) × (1 ≤ y)
not_kept n d y e =
    let tests = or_none (eqb d 0 || eqb n 0) (ltb y (100 * n * d)) e in
    let first = or_none (eqb d 0) (eqb n 0) tests.0 in
    let some-d = eqb-false d 0 first.0 in
    let some-n = eqb-false n 0 first.1 in
    let high = ltb-false y (100 * n * d) tests.1 in
    let some : 0 < 100 * n * d = mul-pos (omega arith) (omega arith) in
    (omega arith, omega arith)

module _ (s : Slopes) {counts sums : List ℕ} {c : Measures} {a b : ℕ} (range : Ranged c a b)
    (summed : SummedInPlace c.least c.greatest counts sums) where
  abbrev top : ℕ
  top = (top_of (start a) (points s a b (at sums) c.size)).height

  top-same : (vs : List ℕ) → Histogram vs counts c → top ≡ affine_top s a b vs
  unfolding affine_top
  top-same vs h = ap (λ (ps : List Point). (top_of (start a) ps).height) (points_same h range summed s)

  pub kept_same : {y : ℕ} → y ≡ top → (vs : List ℕ) → Histogram vs counts c
      → kept_at s.segments (b - a) y ≡ affine_kept s a b vs
  unfolding affine_kept
  kept_same e vs h = ap (kept_at s.segments (b - a)) (e ∙ top-same vs h)

  pub affine_tabled : {y : ℕ} {table table' : List ℕ} → y ≡ top
      → Refilled (joined a b y (start a) (points s a b (at sums) c.size)) c.least (c.greatest + 1) table table'
      → Tabled (affine_tone s a b) c counts table'
  unfolding affine_tone
  affine_tabled e t = record {
    exact = λ vs h v lv vg.
        t.new v lv (omega arith)
        ∙ ap₂ (λ (z : ℕ) (ps : List Point). joined a b z (start a) ps v) (e ∙ top-same vs h)
        (points_same h range summed s);
  }
