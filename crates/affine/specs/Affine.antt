-- The piecewise affine rule (Algorithm 8): what the value v of a component in the section [a, b] becomes, and when it
-- keeps the old values back. The points of the component's sums are joined by straight lines. It sees only the list vs
-- of the component's values. Definitions only.
--
-- For callers:
--   affine_top      the last point's height
--   affine_tone     the height at v, scaled; the only rounding
--   affine_kept     the rule keeps the old values back
--   kept_at         the same, by the number of segments, b - a and the last height
-- The lines:
--   line_tone  the tone of a value on the line between two points
--   joined     the tone of a value on the lines that join some points
-- For the functions within:
--   Drawn          measures and counts of some values
use Rattle.std.specs.Prelude.{ℕ, ◌+◌, ◌-◌, ◌*◌, Bool, cond, ◌||◌, List, [], ◌∷◌, length, leb, ltb, eqb}
use Rattle.histograms.specs.Values.{scaled}
use Rattle.histograms.specs.Histograms.{Histogram, Ranged}
use Rattle.histograms.specs.declared.Measures.{Measures}
use Rattle.points.specs.declared.Slopes.{Slopes}
use Rattle.points.specs.declared.Point.{Point}
use Rattle.points.specs.Points.{start, points, top_of, up_to}

-- ## Lines

-- with d the distance from p to q, the height at v is p's and the part (v - p's place) / d of what q is higher; y is
-- the height that becomes b
abbrev pub line_tone : ℕ → ℕ → ℕ → Point → Point → ℕ → ℕ
line_tone a b y p q v =
    let d = q.place - p.place in
    scaled a b (p.height * d + (q.height - p.height) * (v - p.place)) (y * d)

-- v lies on the line that begins at the last point whose place is no greater than v; from the last point on, the height
-- stays
unfoldable pub joined : ℕ → ℕ → ℕ → Point → List Point → ℕ → ℕ
joined a b y p [] v = scaled a b p.height y
joined a b y p (q ∷ qs) v = cond (leb q.place v) (joined a b y q qs v) (line_tone a b y p q v)

-- ## The rule

-- the last height
unfoldable pub affine_top : Slopes → ℕ → ℕ → List ℕ → ℕ
affine_top s a b vs = (top_of (start a) (points s a b (up_to vs) (length vs))).height

unfoldable pub affine_tone : Slopes → ℕ → ℕ → List ℕ → ℕ → ℕ
affine_tone s a b vs v = joined a b (affine_top s a b vs) (start a) (points s a b (up_to vs) (length vs)) v

-- with D = b - a: D = 0, or the last height is below 100 × segments × D; a rule of no segments, which is refused, keeps
-- all
abbrev pub kept_at : ℕ → ℕ → ℕ → Bool
kept_at n d y = eqb d 0 || eqb n 0 || ltb y (100 * n * d)

unfoldable pub affine_kept : Slopes → ℕ → ℕ → List ℕ → Bool
affine_kept s a b vs = kept_at s.segments (b - a) (affine_top s a b vs)

-- ## Measures and counts

-- some values of [a, b] have these measures and counts
pub record Drawn (counts : List ℕ) (c : Measures) (a b : ℕ) : Type 0 where
  pub vs : List ℕ
  pub histogram : Histogram vs counts c
  pub range : Ranged c a b
