-- The points of a component by the sums of its counts: each may be reached from the one before, the last is at the
-- greatest value, and they are the points of every list of values that has these measures and counts. Assumes nothing.
--
--   reached_first, reached_next
--                  point 0, and the point after one that is reached
--   next_after     the next point is no nearer
--   next_is        the next point is what the search finds
--   reached_end    the last point is at the greatest value
--   cumulative     sums of counts, by what they are of every list of values that has the counts
--   points_same    sums and values have the same points
use Prim.Native.Nat.{ℕ, zero, suc, ◌+◌, ◌-◌, ◌*◌, ◌≤◌, ◌<◌, max}
use mathlib.Core.Path.{◌≡◌, refl, sym, ap, ap₂, subst, ◌∙◌}
use mathlib.Core.Logic.{⊎_elim}
use mathlib.Core.Bool.{Bool, true}
use mathlib.Core.List.{List, ◌∷◌}
use native.Mathlib.Nat.{le_refl, le_antisymm, min-le_left, mul-le-mul_left, mul-le-mul_right, mul-add}
use native.Mathlib.Omega.{arith}
use lib.ListN.{length}
use lib.Dec.{leb, eqb}
use borrow.Author.Tests.{leb-true, leb-false, le-leb, lt-leb}
use Rattle.planes.specs.Lists.{count, at}
use Rattle.planes.proofs.Tests.{less_or_not}
use Rattle.histograms.specs.Values.{sum_to, greatest}
use Rattle.histograms.specs.Histograms.{Inside, Histogram, Ranged}
use Rattle.histograms.specs.Sums.{SummedInPlace}
use Rattle.histograms.specs.declared.Measures.{Measures}
use Rattle.histograms.proofs.Sums.{sum_none, sum_to_mono, sum_to_next}
use Rattle.histograms.proofs.Values.{inside_sum, greatest_in, count_greatest}
use Rattle.histograms.proofs.Measured.{measured_inside}
use Rattle.histograms.proofs.Histograms.{summed_counts}
use Rattle.points.specs.declared.Slopes.{Slopes}
use Rattle.points.specs.declared.Point.{Point}
use Rattle.points.specs.Points.{growth, place_of, point_at, next_point, start, points_after, points, up_to}
use Rattle.points.specs.Points.{Cumulative, First, Reached}
use Rattle.points.proofs.Sizes.{three_few}
use Rattle.points.proofs.Search.{least_ge, least_first, least_is, least_below, least_passes, least_same}

-- ## Reached points

module _ (s : Slopes) {sums : List ℕ} {c : Measures} {a b : ℕ} (k : Cumulative sums c a b) where
  abbrev n : ℕ
  n = s.segments

  abbrev m : ℕ
  m = c.size

  -- the test of the place of point j
  abbrev enough : ℕ → ℕ → Bool
  enough j v = leb (j * m) (n * at sums v)

  pub reached_first : Reached s sums c a 0 (start a)
  reached_first =
      let r = k.range in
      record {
        from = le_refl a;
        to = omega arith;
        enough = omega arith;
        less = λ v va. omega (arith, ap (n *◌) (k.none v (omega arith)), r.some);
        low = omega arith;
      }

  module _ (i : ℕ) (more : i < n) where
    -- all pixels up to the greatest value are enough
    whole : enough (i + 1) c.greatest ≡ true
    whole =
        let less = mul-le-mul_right {m = i + 1} {n = n} m (omega arith) in
        le-leb ((i + 1) * m) (n * at sums c.greatest) (omega (arith, ap (n *◌) k.whole, less))

    abbrev place : ℕ
    place = place_of s a b (at sums) m (i + 1)

    to-b : c.greatest ≤ a + (b - a)
    to-b = let r = k.range in omega arith

    from-a : a ≤ c.greatest
    from-a = let r = k.range in omega arith

    -- a value below the place of the next point has too few pixels up to it
    few : (v : ℕ) → v < place → n * at sums v < (i + 1) * m
    few v l = ⊎_elim
        (λ (g : v < a). omega (arith, ap (n *◌) (k.none v (let r = k.range in omega arith)), k.range.some))
        (λ g. leb-false ((i + 1) * m) (n * at sums v) (least_first (enough (i + 1)) a (b - a) v g l))
        (less_or_not v a)

    -- and that place has enough
    many : (i + 1) * m ≤ n * at sums place
    many = leb-true ((i + 1) * m) (n * at sums place)
        (least_passes (enough (i + 1)) a (b - a) c.greatest from-a to-b whole)

    module _ (p : Point) (r : Reached s sums c a i p) where
      -- the next point is no nearer
      next-from : p.place ≤ place
      next-from = ⊎_elim
          (λ (l : place < p.place). absurd (omega (arith, r.less place l, many)))
          (λ l. l)
          (less_or_not place p.place)

      pub next_after : p.place ≤ (next_point s a b (at sums) m (i + 1) p).place
      unfolding next_point
      next_after = next-from

      pub reached_next : Reached s sums c a (i + 1) (next_point s a b (at sums) m (i + 1) p)
      unfolding next_point
      reached_next =
          let slope = s.smax * n in
          let d = place - p.place in
          let want = 100 * (b - a) * (i + 1) - p.height in
          let steps : (p.place - a) + d ≡ place - a = omega (arith, r.from, next-from) in
          record {
            from = least_ge (enough (i + 1)) a (b - a);
            to = least_below (enough (i + 1)) a (b - a) c.greatest from-a to-b whole;
            enough = many;
            less = λ v l. omega (arith, few v l);
            low = omega (
              arith,
              r.low,
              min-le_left (slope * d) (max (s.smin * n * d) want),
              mul-add slope (p.place - a) d,
              ap (slope *◌) steps,
            );
          }

      -- the search finds the next point's place
      place_found : {x : ℕ} → First sums n ((i + 1) * m) (max p.place c.least) c.greatest x → place ≡ x
      place_found {x} found = least_is (enough (i + 1)) a (b - a) x
          (omega (arith, r.from, found.from))
          (omega (arith, to-b, found.to))
          (λ v av l. lt-leb ((i + 1) * m) (n * at sums v) (less v l))
          (λ _. le-leb ((i + 1) * m) (n * at sums x) (⊎_elim
          (λ (l : x < c.greatest). found.enough l)
          (λ l. subst (λ (z : ℕ). (i + 1) * m ≤ n * at sums z) (le_antisymm l found.to)
          (leb-true ((i + 1) * m) (n * at sums c.greatest) whole))
          (less_or_not x c.greatest)))
        where
          less : (v : ℕ) → v < x → n * at sums v < (i + 1) * m
          less v l = ⊎_elim
              (λ (g : v < p.place). r.less v g)
              (λ g. ⊎_elim
              (λ (h : v < c.least). omega (arith, ap (n *◌) (k.none v h), k.range.some))
              (λ h. found.less v (omega arith) l)
              (less_or_not v c.least))
              (less_or_not v p.place)

      -- the next point, by what the search finds
      pub next_is : {x : ℕ} → First sums n ((i + 1) * m) (max p.place c.least) c.greatest x
          → next_point s a b (at sums) m (i + 1) p
          ≡ point_at s a b (i + 1) p x
      unfolding next_point
      next_is found = ap (point_at s a b (i + 1) p) (place_found found)

  -- the last point is at the greatest value: before it there are too few pixels
  pub reached_end : {p : Point} → 1 ≤ n → Reached s sums c a n p → p.place ≡ c.greatest
  reached_end {p} some r = ⊎_elim
      (λ (l : p.place < c.greatest). absurd (omega (
        arith,
        r.enough,
        mul-le-mul_left {m = at sums p.place + 1} {n = m} n (omega (arith, k.part p.place l)),
      )))
      (λ l. le_antisymm r.to l)
      (less_or_not p.place c.greatest)

-- heights and growths fit: slopes have 16 bits, segments and distances 8
pub reached_few : {s : Slopes} {sums : List ℕ} {c : Measures} {a i : ℕ} {p : Point} → Reached s sums c a i p
    → s.smax < 65536 → s.segments < 256 → c.greatest < 256 → p.height < 4294967296
reached_few {s} {a = a} {p = p} r slope few byte =
    omega (arith, r.low, three_few {x = s.smax} {n = s.segments} {d = p.place - a} slope few (omega (arith, r.to)))

pub growth_few : (s : Slopes) (d w : ℕ) → s.smax < 65536 → s.segments < 256 → d < 256 → growth s d w < 4294967296
growth_few s d w slope few byte = omega (
  arith,
  min-le_left (s.smax * s.segments * d) (max (s.smin * s.segments * d) w),
  three_few {x = s.smax} {n = s.segments} {d = d} slope few byte,
)

-- ## Sums of a component's counts

module _ {vs counts sums : List ℕ} {c : Measures} {a b : ℕ} (h : Histogram vs counts c) (range : Ranged c a b)
    (summed : SummedInPlace c.least c.greatest counts sums) where
  none_below : (v : ℕ) → v < c.least → at sums v ≡ 0
  none_below v l =
      summed.rest.rest v (λ lv _. omega arith)
      ∙ h.tally.entry v
      ∙ (measured_inside h.measured).low v l

  -- the greatest value occurs
  occurs : 1 ≤ at counts c.greatest
  occurs =
      let some : 1 ≤ length vs = omega (arith, h.measured.size, range.some) in
      let in-vs = greatest_in vs some in
      let same : at counts c.greatest ≡ count (eqb (greatest vs)) vs =
      h.tally.entry c.greatest ∙ ap (λ v. count (eqb v) vs) h.measured.greatest_is in
      ⊎_elim (λ (l : at counts c.greatest < 1). absurd (in-vs (omega (arith, same)))) (λ l. l)
      (less_or_not (at counts c.greatest) 1)

  all-summed : at sums c.greatest ≡ c.size
  all-summed =
      summed_counts h summed c.greatest range.order (le_refl _)
      ∙ ap (λ v. count (λ x. leb x v) vs) h.measured.greatest_is
      ∙ count_greatest vs
      ∙ sym h.measured.size

  -- up to a value below the greatest there are fewer pixels
  fewer : (v : ℕ) → v < c.greatest → at sums v < c.size
  fewer v l = ⊎_elim
      (λ (g : v < c.least). omega (arith, none_below v g, range.some))
      (λ g.
      let e = c.greatest - 1 in
      let next : e + 1 ≡ c.greatest = omega arith in
      omega (
        arith,
        summed.entry v g (omega arith),
        summed.entry c.greatest range.order (le_refl _),
        all-summed,
        occurs,
        sum_to_mono (at counts) c.least {v = v} {u = e} (omega arith),
        sum_to_next (at counts) {a = c.least} {v = e} (omega arith),
        ap (sum_to (at counts) c.least) next,
        ap (at counts) next,
      ))
      (less_or_not v c.least)

  pub cumulative : Cumulative sums c a b
  cumulative = record { range = range; none = none_below; whole = all-summed; part = fewer }

  -- up to the greatest value, sums are the numbers of values
  none-up : (v : ℕ) → v < c.least → up_to vs v ≡ 0
  none-up v l =
      let inside : Inside 0 c.greatest vs = record {
        low = λ u below. absurd (omega arith);
        high = (measured_inside h.measured).high;
      } in
      sym (inside_sum inside v (omega arith))
      ∙ sum_none (λ u. count (eqb u) vs) 0 (v - 0 + 1) (λ u _ uv. (measured_inside h.measured).low u (omega arith))

  agree : (v : ℕ) → v ≤ c.greatest → up_to vs v ≡ at sums v
  agree v vg = ⊎_elim
      (λ (g : v < c.least). none-up v g ∙ sym (none_below v g))
      (λ g. sym (summed_counts h summed v g vg))
      (less_or_not v c.least)

  module _ (s : Slopes) where
    place_same : (i : ℕ) → i < s.segments
        → place_of s a b (at sums) c.size (i + 1) ≡ place_of s a b (up_to vs) (length vs) (i + 1)
    place_same i more = sym (least_same
        (λ v. leb ((i + 1) * c.size) (s.segments * at sums v))
        (λ v. leb ((i + 1) * length vs) (s.segments * up_to vs v))
        a (b - a) c.greatest
        (omega (arith, range.from, range.order)) (omega (arith, range.from, range.order, range.to))
        (whole s cumulative i more)
        (λ u ug. ap₂ (λ (w x : ℕ). leb ((i + 1) * w) (s.segments * x)) (sym h.measured.size) (agree u ug)))

    after_same : (k i : ℕ) (p : Point) → i + k ≤ s.segments
        → points_after s a b (at sums) c.size k i p ≡ points_after s a b (up_to vs) (length vs) k i p
    unfolding points_after next_point
    after_same zero i p few = refl
    after_same (suc k) i p few =
        let q = next_point s a b (at sums) c.size (i + 1) p in
        let same = ap (point_at s a b (i + 1) p) (place_same i (omega arith)) in
        ap₂ ◌∷◌ same (after_same k (i + 1) q (omega arith)
        ∙ ap (points_after s a b (up_to vs) (length vs) k (i + 1)) same)

    pub points_same : points s a b (at sums) c.size ≡ points s a b (up_to vs) (length vs)
    points_same = after_same s.segments 0 (start a) (omega arith)
