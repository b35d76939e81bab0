-- What measures and counts say of the limited rule: sums of clipped counts, for every list of values that has them, and
-- so the table of a component. The counts are summed from the least value to the greatest; those of all other values
-- are 0, so that the sums are those over [a, b]. Assumes nothing.
use Prim.Native.Nat.{ℕ, ◌+◌, ◌-◌, ◌*◌, ◌≤◌, min}
use mathlib.Core.Path.{◌≡◌, refl, sym, ap, ap₂, ◌∙◌}
use mathlib.Core.Bool.{true}
use mathlib.Core.List.{List}
use native.Mathlib.Nat.{min-le_left}
use native.Mathlib.Omega.{arith}
use lib.Dec.{eqb}
use Rattle.planes.specs.Lists.{count, at}
use Rattle.histograms.specs.Values.{sum_to}
use Rattle.limited.specs.Limited.{clipped, limited_tone, never_kept, limited_by}
use Rattle.limited.specs.Limited.{clipped_at, ClippedSums, Filled}
use Rattle.histograms.specs.Histograms.{Gathered, Refilled, Histogram, Ranged, Counted}
use Rattle.histograms.specs.Sums.{SummedInPlace, Sums}
use Rattle.histograms.specs.Tables.{RuleTables}
use Rattle.histograms.specs.declared.Measures.{Measures}
use Rattle.histograms.proofs.Sums.{sum_le, sum_same, sum_thousand, sum_to_low, sum_to_high}
use Rattle.histograms.proofs.Stores.{outside_both, refilled_outside}
use Rattle.histograms.proofs.Measured.{measured_inside}
use Rattle.histograms.proofs.Histograms.{summed_rise, histogram_of, gathered_range, gathered_within}

-- ## Sums of clipped counts

-- clipped counts are no more than 1000 for each pixel
pub clips_le : {a b : ℕ} {counts : List ℕ} {c : Measures} (most : ℕ) → Counted counts c a b
    → sum_to (clipped_at most counts) c.least c.greatest ≤ 1000 * c.size
clips_le {counts = counts} {c} most k =
    let n = c.greatest - c.least + 1 in
    let each = sum_le (clipped_at most counts) (λ v. 1000 * at counts v) c.least n
    (λ v _ _. min-le_left (1000 * at counts v) most) in
    omega (arith, each, sum_thousand (at counts) c.least n, k.whole)

-- the sums of an array of them
pub clips_sum : {a b : ℕ} {counts clips : List ℕ} (most : ℕ)
    → Refilled (clipped_at most counts) a (b + 1) counts clips → (v : ℕ) → a ≤ v → v ≤ b
    → sum_to (at clips) a v ≡ sum_to (clipped_at most counts) a v
clips_sum {a} {b} {counts} {clips} most clip v av vb =
    sum_same (at clips) (clipped_at most counts) a (v - a + 1) (λ u au uv. clip.new u au (omega arith))

pub clips_few : {a b : ℕ} (most : ℕ) {counts clips : List ℕ} {c : Measures} → Counted counts c a b
    → Refilled (clipped_at most counts) c.least (c.greatest + 1) counts clips
    → sum_to (at clips) c.least c.greatest ≤ 1000 * c.size
clips_few most k clip =
    omega (arith, clips_sum most clip _ k.range.order (omega arith), clips_le most k)

-- clipped at k thousandths of all pixels, then summed in place
pub clipped_of : {k most : ℕ} {c : Measures} {counts clips sums : List ℕ} → most ≡ k * c.size
    → Refilled (clipped_at most counts) c.least (c.greatest + 1) counts clips
    → SummedInPlace c.least c.greatest clips sums
    → ClippedSums k c counts sums
clipped_of {most = most} {c} {counts} e clip s = record {
  entry = λ v lv vg.
      s.entry v lv vg
      ∙ clips_sum most clip v lv vg
      ∙ ap (λ n. sum_to (clipped_at n counts) c.least v) e;
  rest = outside_both (refilled_outside clip) s.rest;
}

-- they never fall, and end at no more than 1000 for each pixel
pub clipped_rise : {k a b : ℕ} {counts sums : List ℕ} {c : Measures} → Counted counts c a b
    → ClippedSums k c counts sums → Sums sums (1000 * c.size) c a b
clipped_rise {k} {counts = counts} {c = c} t s =
    summed_rise (clipped_at (k * c.size) counts) t.range s.entry (clips_le (k * c.size) t)

-- a value that does not occur has no clipped count
clipped_none : (k : ℕ) (vs : List ℕ) (v : ℕ) → count (eqb v) vs ≡ 0 → clipped k vs v ≡ 0
unfolding clipped
clipped_none k vs v e = omega arith

module _ {k a b : ℕ} {vs counts sums : List ℕ} {c : Measures} (range : Ranged c a b) (s : ClippedSums k c counts sums)
    (h : Histogram vs counts c) where
  -- they are the sums of the limited rule, for every list of values that has the measures and the counts
  pub clipped_sums : (v : ℕ) → c.least ≤ v → v ≤ c.greatest → at sums v ≡ sum_to (clipped k vs) a v
  unfolding clipped
  clipped_sums v lv vg =
      let each : (u : ℕ) → clipped_at (k * c.size) counts u ≡ clipped k vs u = λ u.
      ap₂ (λ (q n : ℕ). min (1000 * q) (k * n)) (h.tally.entry u) h.measured.size in
      let low = (measured_inside h.measured).low in
      s.entry v lv vg
      ∙ sum_same (clipped_at (k * c.size) counts) (clipped k vs) c.least (v - c.least + 1) (λ u _ _. each u)
      ∙ sym (sum_to_low (clipped k vs) range.from lv (λ u ul. clipped_none k vs u (low u ul)))

  -- the last is the sum over [a, b]
  clipped-whole : at sums c.greatest ≡ sum_to (clipped k vs) a b
  clipped-whole =
      let high = (measured_inside h.measured).high in
      clipped_sums c.greatest range.order (omega arith)
      ∙ sym (sum_to_high (clipped k vs) (omega arith) range.to (λ u gu. clipped_none k vs u (high u gu)))

  -- and they give its tones
  pub limited_by_sums : (v : ℕ) → c.least ≤ v → v ≤ c.greatest → limited_by sums c a b v ≡ limited_tone k a b vs v
  unfolding limited_tone
  limited_by_sums v lv vg = rw (clipped_sums v lv vg, clipped-whole, h.measured.size)

-- ## Tables

-- the limited rule's entries at the component's values
pub limited_tables : {plane queue counts sums table : List ℕ} {k a b : ℕ} {c : Measures}
    → Gathered plane queue counts c a b → ClippedSums k c counts sums
    → Filled (limited_by sums c a b) plane queue table c.size
    → RuleTables never_kept (limited_tone k a b) plane queue table c.size true
limited_tables g u f vs s =
    let tones = limited_by_sums (gathered_range g) u (histogram_of g s) in
    let within = gathered_within g in
    record { answer = refl; entry = λ i im. f.entry i im ∙ tones _ (within i im).0 (within i im).1 }
