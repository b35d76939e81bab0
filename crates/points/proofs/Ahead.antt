-- The points that are ahead of a point: from point i on they lead to the last. Assumes nothing.
--
--   Ahead           what is left of the points leads from point i to the last
--   left_next       what is left begins with the next point
--   ahead_first     point 0
--   end_top         the last point
--   Next, next_of   what holds of the next point
use Prim.Native.Nat.{ℕ, suc, ◌+◌, ◌-◌, ◌≤◌, ◌<◌}
use mathlib.Core.Path.{◌≡◌, refl, sym, ap, subst, ◌∙◌}
use mathlib.Core.List.{List, [], ◌∷◌}
use native.Mathlib.Nat.{le_trans, le_of_eq}
use native.Mathlib.Omega.{arith}
use Rattle.planes.specs.Lists.{at}
use Rattle.histograms.specs.declared.Measures.{Measures}
use Rattle.points.specs.declared.Slopes.{Slopes}
use Rattle.points.specs.declared.Point.{Point}
use Rattle.points.specs.Points.{next_point, start, points_after, points, top_of, Cumulative, Reached}
use Rattle.points.proofs.Rising.{top_high, place_rises, points_rise}
use Rattle.points.proofs.Points.{next_after, reached_next}

module _ (s : Slopes) (a b : ℕ) (c : ℕ → ℕ) (m : ℕ) where
  abbrev n : ℕ
  n = s.segments

  -- the k points after point i, p
  abbrev left : ℕ → ℕ → Point → List Point
  left = points_after s a b c m

  abbrev all : List Point
  all = points s a b c m

  abbrev next : ℕ → Point → Point
  next i p = next_point s a b c m (i + 1) p

  pub record Ahead (i : ℕ) (p : Point) : Type 0 where
    pub top : (k : ℕ) → i + k ≡ n → top_of p (left k i p) ≡ top_of (start a) all

  pub ahead_first : Ahead 0 (start a)
  ahead_first =
      let whole : (k : ℕ) → 0 + k ≡ n → k ≡ n = λ k e. omega arith in
      record { top = λ k e. ap (λ (j : ℕ). top_of (start a) (left j 0 (start a))) (whole k e) }

  pub left_next : (k i : ℕ) (p : Point) → left (suc k) i p ≡ next i p ∷ left k (i + 1) (next i p)
  unfolding points_after
  left_next k i p = refl

  pub none_left : (i : ℕ) (p : Point) → left 0 i p ≡ []
  unfolding points_after
  none_left i p = refl

  module _ (i : ℕ) (p : Point) (h : Ahead i p) where
    ahead-next : Ahead (i + 1) (next i p)
    ahead-next = record {
      top = λ k e. sym (ap (top_of p) (left_next k i p)) ∙ h.top (suc k) (omega arith);
    }

    -- the next point is no lower than this one, and no higher than the last
    next-higher : p.height ≤ (next i p).height
    unfolding next_point
    next-higher = omega arith

    next-top : i < n → (next i p).height ≤ (top_of (start a) all).height
    unfolding next_point
    next-top more =
        let k = n - i - 1 in
        le_trans (top_high (points_rise s a b c m k (i + 1) (next i p) (place_rises s a b c m (i + 1))))
        (le_of_eq (ap (λ (q : Point). q.height) (ahead-next.top k (omega arith))))

  -- the last point
  pub end_top : (p : Point) → Ahead n p → p ≡ top_of (start a) all
  end_top p h = sym (ap (top_of p) (none_left n p)) ∙ h.top 0 (omega arith)

-- ## The next point

-- q is the point after point i, p: what holds of it
pub record Next (s : Slopes) (sums : List ℕ) (c : Measures) (a b i : ℕ) (p q : Point) : Type 0 where
  pub after : p.place ≤ q.place
  pub higher : p.height ≤ q.height
  pub top : q.height ≤ (top_of (start a) (points s a b (at sums) c.size)).height
  pub reached : Reached s sums c a (i + 1) q
  pub ahead : Ahead s a b (at sums) c.size (i + 1) q

pub next_of : {s : Slopes} {sums : List ℕ} {c : Measures} {a b i : ℕ} {p q : Point} → Cumulative sums c a b
    → i < s.segments → Reached s sums c a i p → Ahead s a b (at sums) c.size i p
    → q ≡ next_point s a b (at sums) c.size (i + 1) p → Next s sums c a b i p q
next_of {s} {sums} {c} {a} {b} {i} {p} {q} k more reached ahead is =
    subst (Next s sums c a b i p) (sym is) (record {
      after = next_after s k i more p reached;
      higher = next-higher s a b (at sums) c.size i p ahead;
      top = next-top s a b (at sums) c.size i p ahead more;
      reached = reached_next s k i more p reached;
      ahead = ahead-next s a b (at sums) c.size i p ahead;
    })
