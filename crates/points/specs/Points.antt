-- The points of the piecewise affine rule (Algorithm 8): some points of the sums of a component's counts, of which each
-- is so much higher than the one before that the slope between them is held between two limits. Definitions only.
--
-- A point has a place, which is a value of [a, b], and a height, which is an offset from a in units of
-- 1 / (100 × segments). Places and heights are whole numbers: nothing is rounded.
--
-- By the number c v of values that are no greater than v, and the number m of all values:
--   least_from    the least number from one on that passes a test
--   growth        how much higher a point is than the one before
--   place_of      a point's place
--   point_at      a point at a place, by the one before
--   next_point    a point, by the one before
--   start         point 0
--   points_after  some points after one
--   points        the points 1 to `segments`
--   top_of        the last of some points
--   up_to         c, for a list of values
-- For the functions:
--   Cumulative     sums of a component's counts
--   First          what a search for the least value of sufficient sum finds
--   Reached        a point that may be point i
use Rattle.std.specs.Prelude.{ℕ, zero, suc, ◌+◌, ◌-◌, ◌*◌, ◌≤◌, ◌<◌, min, max, ◌≡◌, Bool, cond, List, [], ◌∷◌, leb}
use Rattle.planes.specs.Lists.{count, at}
use Rattle.histograms.specs.Histograms.{Ranged}
use Rattle.histograms.specs.declared.Measures.{Measures}
use Rattle.points.specs.declared.Slopes.{Slopes}
use Rattle.points.specs.declared.Point.{Point}

-- ## Points

-- of v, v + 1, .., v + n the least that passes, and v + n if none before it does
unfoldable pub least_from : (ℕ → Bool) → ℕ → ℕ → ℕ
least_from f v zero = v
least_from f v (suc n) = cond (f v) v (least_from f (suc v) n)

-- what is wanted, held between smin and smax hundredths for each step of the distance d
abbrev pub growth : Slopes → ℕ → ℕ → ℕ
growth s d wanted = min (s.smax * s.segments * d) (max (s.smin * s.segments * d) wanted)

-- the place of point j: the least v of [a, b] with segments × c(v) ≥ j × m
abbrev pub place_of : Slopes → ℕ → ℕ → (ℕ → ℕ) → ℕ → ℕ → ℕ
place_of s a b c m j = least_from (λ v. leb (j * m) (s.segments * c v)) a (b - a)

-- point j at the place x, by the point p before it: wanted is a height of 100 × (b - a) × j; where p is higher already,
-- no growth is wanted
abbrev pub point_at : Slopes → ℕ → ℕ → ℕ → Point → ℕ → Point
point_at s a b j p x =
    record { place = x; height = p.height + growth s (x - p.place) (100 * (b - a) * j - p.height) }

-- point j, by the point before it
unfoldable pub next_point : Slopes → ℕ → ℕ → (ℕ → ℕ) → ℕ → ℕ → Point → Point
next_point s a b c m j p = point_at s a b j p (place_of s a b c m j)

-- point 0
abbrev pub start : ℕ → Point
start a = record { place = a; height = 0 }

-- the n points after p, which is point i
unfoldable pub points_after : Slopes → ℕ → ℕ → (ℕ → ℕ) → ℕ → ℕ → ℕ → Point → List Point
points_after s a b c m zero i p = []
points_after s a b c m (suc n) i p =
    let q = next_point s a b c m (i + 1) p in
    q ∷ points_after s a b c m n (i + 1) q

abbrev pub points : Slopes → ℕ → ℕ → (ℕ → ℕ) → ℕ → List Point
points s a b c m = points_after s a b c m s.segments 0 (start a)

-- the last point, of p and those after it
abbrev pub top_of : Point → List Point → Point
top_of p [] = p
top_of p (q ∷ qs) = top_of q qs

-- c(v), the number of values that are no greater than v
abbrev pub up_to : List ℕ → ℕ → ℕ
up_to vs v = count (λ x. leb x v) vs

-- ## Sums and searches

-- in [a, b], [least, greatest] has the sums of a component's counts: 0 below the least value, all pixels at the
-- greatest and not before
pub record Cumulative (sums : List ℕ) (c : Measures) (a b : ℕ) : Type 0 where
  pub range : Ranged c a b
  pub none : (v : ℕ) → v < c.least → at sums v ≡ 0
  pub whole : at sums c.greatest ≡ c.size
  pub part : (v : ℕ) → v < c.greatest → at sums v < c.size

-- of the values from x to y, r is the least whose sum, times n, is at least `need`, or y if none before it is
pub record First (sums : List ℕ) (n need x y r : ℕ) : Type 0 where
  pub from : x ≤ r
  pub to : r ≤ y
  pub less : (v : ℕ) → x ≤ v → v < r → n * at sums v < need
  pub enough : r < y → need ≤ n * at sums r

-- p may be point i: its place is in [a, greatest], has enough pixels up to it, and no place before it has enough for
-- the next point; its height is no more than by the greatest slope from a on
pub record Reached (s : Slopes) (sums : List ℕ) (c : Measures) (a i : ℕ) (p : Point) : Type 0 where
  pub from : a ≤ p.place
  pub to : p.place ≤ c.greatest
  pub enough : i * c.size ≤ s.segments * at sums p.place
  pub less : (v : ℕ) → v < p.place → s.segments * at sums v < (i + 1) * c.size
  pub low : p.height ≤ s.smax * s.segments * (p.place - a)
