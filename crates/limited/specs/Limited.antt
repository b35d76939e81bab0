-- The limited rule: what the value v of a component in the section [a, b] becomes. It sees only the list vs of the
-- component's values, and keeps nothing back. Definitions only.
--
-- For callers:
--   clipped       a value's clipped count, in thousandths of a pixel
--   limited_tone  the sum of the clipped counts up to v, with its share of what the clipping left over, scaled
--   never_kept    the rule keeps nothing back
-- For the functions within:
--   limited_by   the tone, by the sums of the clipped counts
--   clipped_at   an array's counts in thousandths, none above a limit
--   ClippedSums  what clipping the counts and summing them in place leaves
--   Filled       a table with new entries at the values of the listed pixels
use Rattle.std.specs.Prelude.{ℕ, ◌+◌, ◌-◌, ◌*◌, ◌≤◌, ◌<◌, min, ◌≡◌, Bool, false, List, length, eqb}
use Rattle.planes.specs.Lists.{count, at}
use Rattle.histograms.specs.Values.{sum_to, scaled}
use Rattle.histograms.specs.Histograms.{Outside}
use Rattle.histograms.specs.declared.Measures.{Measures}

-- ## The rule

-- the count q of the value v gives min (1000 q) (k m)
unfoldable pub clipped : ℕ → List ℕ → ℕ → ℕ
clipped k vs v = min (1000 * count (eqb v) vs) (k * length vs)

-- w is W, the number of values of [a, b], n of which are no greater than v; all is 1000 m; e is E, what the clipping
-- leaves over. Each value has its clipped count and E / W more, so that the sum up to v over 1000 m is
-- (W * sum of the clipped counts + n * E) / (W * 1000 m). Nothing but the tone is rounded.
unfoldable pub limited_tone : ℕ → ℕ → ℕ → List ℕ → ℕ → ℕ
limited_tone k a b vs v =
    let w = b - a + 1 in
    let n = v - a + 1 in
    let all = 1000 * length vs in
    let e = all - sum_to (clipped k vs) a b in
    scaled a b (w * sum_to (clipped k vs) a v + n * e) (w * all)

abbrev pub never_kept : List ℕ → Bool
never_kept vs = false

-- ## Sums and tables

-- the limited rule's tone of v, by the sums of the clipped counts, of which that at the greatest value is the whole
abbrev pub limited_by : List ℕ → Measures → ℕ → ℕ → ℕ → ℕ
limited_by sums c a b v =
    let w = b - a + 1 in
    let n = v - a + 1 in
    let all = 1000 * c.size in
    let e = all - at sums c.greatest in
    scaled a b (w * at sums v + n * e) (w * all)

abbrev pub clipped_at : ℕ → List ℕ → ℕ → ℕ
clipped_at most counts v = min (1000 * at counts v) most

-- each entry of [least, greatest] holds the sum of what it and the entries below it held before, each clipped; what
-- stands outside is in no sum and stays
pub record ClippedSums (k : ℕ) (c : Measures) (before after : List ℕ) : Type 0 where
  pub entry : (v : ℕ) → c.least ≤ v → v ≤ c.greatest
      → at after v ≡ sum_to (clipped_at (k * c.size) before) c.least v
  pub rest : Outside c.least c.greatest before after

-- at the value of each of the queue's first m pixels, the entry is that of f
pub record Filled (f : ℕ → ℕ) (plane queue table : List ℕ) (m : ℕ) : Type 0 where
  pub entry : (i : ℕ) → i < m → at table (at plane (at queue i)) ≡ f (at plane (at queue i))
