-- What measures and counts say of every list of values that has them: the sums of the counts, and that these never
-- fall; and what is gathered of a component. Assumes nothing.
use Prim.Native.Nat.{ℕ, ◌+◌, ◌-◌, ◌≤◌, ◌<◌}
use mathlib.Core.Path.{◌≡◌, sym, ◌∙◌}
use mathlib.Core.Bool.{false}
use mathlib.Core.List.{List}
use native.Mathlib.Nat.{le_refl}
use native.Mathlib.Omega.{arith}
use lib.ListN.{length, take}
use lib.Dec.{eqb, leb}
use borrow.Author.Tests.{ne_eqb}
use Rattle.planes.specs.Lists.{from, count, at}
use Rattle.planes.proofs.Counts.{count_map, count_same, count_none}
use Rattle.planes.proofs.Enumerations.{count_indexes}
use Rattle.histograms.specs.Values.{sum_to, greatest}
use Rattle.histograms.specs.Histograms.{values, Component, Alike, Gathered}
use Rattle.histograms.specs.Histograms.{Inside, Histogram, Ranged, Counted}
use Rattle.histograms.specs.Sums.{SummedInPlace, Sums}
use Rattle.histograms.specs.declared.Measures.{Measures}
use Rattle.histograms.proofs.Components.{values_size, values_at}
use Rattle.histograms.proofs.Sums.{sum_same, sum_to_mono, term_le}
use Rattle.histograms.proofs.Values.{In, in-at, in-inside, inside_all, inside_sum}
use Rattle.histograms.proofs.Values.{least_le, least_in, greatest_in}
use Rattle.histograms.proofs.Measured.{measured_alike, tally_alike, alike_turned, measured_inside}

-- ## Sums

module _ {vs counts : List ℕ} {c : Measures} (h : Histogram vs counts c) where
  -- the sum up to v is the number of values that are no greater than v
  pub histogram_sum : (v : ℕ) → c.least ≤ v → sum_to (at counts) c.least v ≡ count (λ x. leb x v) vs
  histogram_sum v lv =
      sum_same (at counts) (λ u. count (eqb u) vs) c.least (v - c.least + 1) (λ u _ _. h.tally.entry u)
      ∙ inside_sum (measured_inside h.measured) v lv

  -- of sums made in place, the entry at v is c(v), the number of values that are no greater than v
  pub summed_counts : {sums : List ℕ} → SummedInPlace c.least c.greatest counts sums
      → (v : ℕ) → c.least ≤ v → v ≤ c.greatest → at sums v ≡ count (λ x. leb x v) vs
  summed_counts s v lv vg = s.entry v lv vg ∙ histogram_sum v lv

  -- it is the sum of the counts of v and of all values below it: those below the least are 0
  pub summed_all : {sums : List ℕ} → SummedInPlace c.least c.greatest counts sums
      → (v : ℕ) → c.least ≤ v → v ≤ c.greatest → at sums v ≡ sum_to (λ u. count (eqb u) vs) 0 v
  summed_all s v lv vg =
      let all : Inside 0 c.greatest vs = record {
        low = λ u below. absurd (omega arith);
        high = (measured_inside h.measured).high;
      } in
      summed_counts s v lv vg ∙ sym (inside_sum all v (omega arith))

-- sums of any terms never fall, and end at the sum of all: the terms may be counts, or counts clipped
pub summed_rise : {sums : List ℕ} {c : Measures} {most a b : ℕ} (f : ℕ → ℕ) → Ranged c a b
    → ((v : ℕ) → c.least ≤ v → v ≤ c.greatest → at sums v ≡ sum_to f c.least v)
    → sum_to f c.least c.greatest ≤ most → Sums sums most c a b
summed_rise {c = c} f range entry top =
    let last = entry c.greatest range.order (omega arith) in
    record {
      range = range;
      rises = λ v lv vg. omega (arith, entry v lv vg, last, sum_to_mono f c.least vg);
      top = omega (arith, last);
    }

-- the sums of a component's counts
pub counted_sums : {counts sums : List ℕ} {c : Measures} {a b : ℕ} → Counted counts c a b
    → SummedInPlace c.least c.greatest counts sums → Sums sums c.size c a b
counted_sums {counts} k s = summed_rise (at counts) k.range s.entry (omega (arith, k.whole))

-- no more pixels have the least value than there are
pub counted_first : {counts : List ℕ} {c : Measures} {a b : ℕ} → Counted counts c a b → at counts c.least ≤ c.size
counted_first {counts} {c} k =
    omega (arith, term_le (at counts) {a = c.least} (le_refl _) k.range.order, k.whole)

-- ## Components

module _ {plane queue : List ℕ} {m a b : ℕ} (k : Component plane queue m a b) where
  -- a value that no pixel of the component has does not occur
  absent : (v : ℕ) → ((i : ℕ) → i < m → v ≡ at plane (at queue i) → ⊥) → count (eqb v) (values plane queue m) ≡ 0
  absent v none =
      count_map (eqb v) (at plane) (take m queue)
      ∙ count_indexes queue (λ p. eqb v (at plane p)) m k.room
      ∙ count_same (λ i. eqb v (at plane (at queue i))) (λ i. false) m (λ i im. ne_eqb v _ (none i im))
      ∙ count_none (from 0 m)

  pub component_inside : Inside a b (values plane queue m)
  component_inside = record {
    low = λ v va. absent v (λ i im e. omega (arith, k.within i im));
    high = λ v bv. absent v (λ i im e. omega (arith, k.within i im));
  }

  some-values : 1 ≤ length (values plane queue m)
  some-values = omega (arith, k.some, values_size plane queue m k.room)

  -- each pixel's value occurs
  occurs : (i : ℕ) → i < m → In (at plane (at queue i)) (values plane queue m)
  occurs i im =
      let size = values_size plane queue m k.room in
      rw (values_at plane queue m k.room i im) at (in-at (values plane queue m) i (omega arith))

module _ {plane queue counts : List ℕ} {c : Measures} {a b : ℕ} (g : Gathered plane queue counts c a b) where
  -- every list that has the component's values has its measures and counts
  pub histogram_of : {vs : List ℕ} → Alike vs (values plane queue c.size) → Histogram vs counts c
  histogram_of s = record {
    measured = measured_alike (some-values g.component) (alike_turned s) g.measured;
    tally = tally_alike (alike_turned s) g.tally;
  }

  -- each pixel's value lies in [least, greatest]
  pub gathered_within : (i : ℕ) → i < c.size
      → (c.least ≤ at plane (at queue i)) × (at plane (at queue i) ≤ c.greatest)
  gathered_within i im = in-inside (measured_inside g.measured) (occurs g.component i im)

  -- and [least, greatest] in [a, b]
  pub gathered_range : Ranged c a b
  gathered_range =
      let vs = values plane queue c.size in
      let some = some-values g.component in
      let low = in-inside (component_inside g.component) (least_in vs some) in
      let high = in-inside (component_inside g.component) (greatest_in vs some) in
      let order = least_le (greatest vs) vs (greatest_in vs some) in
      record {
        from = omega (arith, g.measured.least_is);
        order = omega (arith, g.measured.least_is, g.measured.greatest_is);
        to = omega (arith, g.measured.greatest_is);
        some = g.component.some;
        few = g.component.few;
      }

  -- it is a component in [least, greatest]
  pub gathered_own : Gathered plane queue counts c c.least c.greatest
  gathered_own =
      let k = g.component in
      record {
        component = record {
          order = gathered_range.order;
          some = k.some;
          few = k.few;
          room = k.room;
          pixels = k.pixels;
          once = k.once;
          within = gathered_within;
        };
        measured = g.measured;
        tally = g.tally;
      }

  pub gathered_counted : Counted counts c a b
  gathered_counted =
      let h : Histogram _ counts c = record { measured = g.measured; tally = g.tally } in
      record {
        size = g.tally.size;
        range = gathered_range;
        whole = histogram_sum h c.greatest gathered_range.order
            ∙ inside_all (measured_inside g.measured)
            ∙ sym g.measured.size;
      }
