-- Where the piecewise affine rule ends: unless the component is kept back, its greatest value becomes b, and so does
-- the value b. Assumes nothing.
use Prim.Native.Nat.{ℕ, zero, suc, ◌+◌, ◌-◌, ◌*◌, ◌≤◌}
use mathlib.Core.Path.{◌≡◌, refl, ap, ◌∙◌}
use mathlib.Core.Bool.{false}
use mathlib.Core.List.{List}
use native.Mathlib.Nat.{le_trans, mul-le-mul_right}
use native.Mathlib.Omega.{arith}
use lib.ListN.{length}
use lib.Dec.{leb}
use borrow.Author.Tests.{le-leb}
use Rattle.histograms.specs.Values.{scaled, greatest}
use Rattle.histograms.specs.Histograms.{Inside}
use Rattle.histograms.proofs.Values.{in-inside, greatest_in, count_greatest}
use Rattle.histograms.proofs.Scaled.{scaled_all}
use Rattle.points.specs.declared.Slopes.{Slopes}
use Rattle.points.specs.declared.Point.{Point}
use Rattle.points.specs.Points.{place_of, next_point, start, points_after, top_of, up_to}
use Rattle.affine.specs.Affine.{joined, affine_top, affine_tone, affine_kept}
use Rattle.points.proofs.Search.{least_le, least_below}
use Rattle.affine.proofs.Sound.{joined_next}
use Rattle.affine.proofs.Tables.{not_kept}

-- where no point is after v, the height at v is the last
module _ (s : Slopes) (a b y : ℕ) (c : ℕ → ℕ) (m v : ℕ)
    (reach : (j : ℕ) → j ≤ s.segments → place_of s a b c m j ≤ v) where
  joined-top : (k i : ℕ) (p : Point) → i + k ≤ s.segments
      → joined a b y p (points_after s a b c m k i p) v ≡ scaled a b (top_of p (points_after s a b c m k i p)).height y
  unfolding points_after next_point joined
  joined-top zero i p few = refl
  joined-top (suc k) i p few =
      let q = next_point s a b c m (i + 1) p in
      joined_next a b y p q (points_after s a b c m k (i + 1) q) (reach (i + 1) (omega arith))
      ∙ joined-top k (i + 1) q (omega arith)

module _ (s : Slopes) (a b : ℕ) (vs : List ℕ) (ab : a ≤ b) (toned : affine_kept s a b vs ≡ false) where
  top-tone : (v : ℕ) → ((j : ℕ) → j ≤ s.segments → place_of s a b (up_to vs) (length vs) j ≤ v)
      → affine_tone s a b vs v ≡ b
  unfolding affine_tone affine_top affine_kept
  top-tone v reach =
      let y = affine_top s a b vs in
      joined-top s a b y (up_to vs) (length vs) v reach s.segments 0 (start a) (omega arith)
      ∙ scaled_all a b y ab (not_kept s.segments (b - a) y toned).1

  pub affine_end : affine_tone s a b vs b ≡ b
  affine_end = top-tone b (λ j _. le_trans (least_le _ a (b - a)) (omega arith))

  pub affine_greatest : 1 ≤ length vs → Inside a b vs → affine_tone s a b vs (greatest vs) ≡ b
  affine_greatest some inside =
      let m = length vs in
      let within = in-inside inside (greatest_in vs some) in
      top-tone (greatest vs) (λ j few.
      least_below (λ v. leb (j * m) (s.segments * up_to vs v)) a (b - a) (greatest vs) within.0 (omega arith)
      (le-leb (j * m) (s.segments * up_to vs (greatest vs))
      (omega (arith, ap (s.segments *◌) (count_greatest vs), mul-le-mul_right m few))))
