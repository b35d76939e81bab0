-- The places and the heights of the points never fall. Assumes nothing.
use Prim.Native.Nat.{ℕ, zero, suc, ◌+◌, ◌-◌, ◌*◌, ◌≤◌}
use mathlib.Core.Bool.{Bool}
use mathlib.Core.List.{List, [], ◌∷◌}
use native.Mathlib.Nat.{le_refl, le_trans}
use native.Mathlib.Omega.{arith}
use lib.Dec.{leb}
use borrow.Author.Tests.{leb-true, le-leb}
use Rattle.points.specs.declared.Slopes.{Slopes}
use Rattle.points.specs.declared.Point.{Point}
use Rattle.points.specs.Points.{place_of, next_point, start, points_after, points, top_of}
use Rattle.points.proofs.Search.{least_ge, least_mono}

-- ## Points that rise

-- neither places nor heights fall
pub data Rising : Point → List Point → Type 0 where
  last : {p : Point} → Rising p []
  more : {p q : Point} {qs : List Point} → p.place ≤ q.place → p.height ≤ q.height → Rising q qs → Rising p (q ∷ qs)

-- no height is above the last
pub top_high : {p : Point} {qs : List Point} → Rising p qs → p.height ≤ (top_of p qs).height
top_high last = le_refl _
top_high (more places heights rest) = le_trans heights (top_high rest)

-- ## The points of a component rise

module _ (s : Slopes) (a b : ℕ) (c : ℕ → ℕ) (m : ℕ) where
  pub place_rises : (j : ℕ) → place_of s a b c m j ≤ place_of s a b c m (j + 1)
  place_rises j =
      let enough : ℕ → ℕ → Bool = λ i v. leb (i * m) (s.segments * c v) in
      least_mono (enough (j + 1)) (enough j) a (b - a)
      (λ u e. le-leb (j * m) (s.segments * c u) (omega (arith, leb-true ((j + 1) * m) (s.segments * c u) e)))

  pub points_rise : (n i : ℕ) (p : Point) → p.place ≤ place_of s a b c m (i + 1)
      → Rising p (points_after s a b c m n i p)
  unfolding points_after next_point
  points_rise zero i p from = last
  points_rise (suc n) i p from =
      let q = next_point s a b c m (i + 1) p in
      more {p = p} {q = q} from (omega arith) (points_rise n (i + 1) q (place_rises (i + 1)))

  pub all_rise : Rising (start a) (points s a b c m)
  all_rise = points_rise s.segments 0 (start a) (least_ge _ a (b - a))
