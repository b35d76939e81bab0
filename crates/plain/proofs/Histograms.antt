-- What measures and counts say of the plain rule, for every list of values that has them: its tones, and whether they
-- are kept back. Assumes nothing.
use Prim.Native.Nat.{ℕ, ◌+◌, ◌-◌, ◌≤◌}
use mathlib.Core.Path.{◌≡◌, sym, ap, ap₂, ◌∙◌}
use mathlib.Core.List.{List, map}
use native.Mathlib.Omega.{arith}
use lib.ListN.{length}
use Rattle.planes.specs.Lists.{at}
use Rattle.histograms.specs.Values.{scaled, least, spread}
use Rattle.plain.specs.Plain.{plain_tone, kept_by, plain_kept}
use Rattle.histograms.specs.Histograms.{Histogram, Ranged, Refilled}
use Rattle.histograms.specs.Sums.{SummedInPlace}
use Rattle.histograms.specs.Tables.{Tabled}
use Rattle.histograms.specs.declared.Measures.{Measures}
use Rattle.histograms.proofs.Sums.{sum_to_first}
use Rattle.histograms.proofs.Values.{spread_map}
use Rattle.histograms.proofs.Histograms.{histogram_sum, summed_counts}
use Rattle.plain.proofs.Sound.{plain_rises}
use Rattle.plain.proofs.Ends.{plain_greatest}

module _ {a b : ℕ} {vs counts : List ℕ} {c : Measures} (range : Ranged c a b) (h : Histogram vs counts c) where
  -- the least value's count is its sum, which gives its tone
  least-tone : scaled a b (at counts c.least) c.size ≡ plain_tone a b vs (least vs)
  unfolding plain_tone
  least-tone =
      let count = sym (sum_to_first (at counts) c.least) ∙ histogram_sum h c.least (omega arith) in
      ap₂ (scaled a b) count h.measured.size
      ∙ ap (plain_tone a b vs) h.measured.least_is

  -- the greatest value's tone is b
  pub kept_by_ends : (low high : ℕ)
      → kept_by low high (c.greatest - c.least) (b - scaled a b (at counts c.least) c.size)
      ≡ plain_kept low high a b vs
  unfolding plain_kept
  kept_by_ends low high =
      let some : 1 ≤ length vs = omega (arith, h.measured.size) in
      let before : c.greatest - c.least ≡ spread vs = ap₂ ◌-◌ h.measured.greatest_is h.measured.least_is in
      let after : spread (map (plain_tone a b vs) vs) ≡ b - scaled a b (at counts c.least) c.size
      = spread_map (plain_tone a b vs) (plain_rises a b vs) vs some
      ∙ ap₂ ◌-◌ (plain_greatest a b vs (omega arith) some) (sym least-tone) in
      ap₂ (kept_by low high) before (sym after)

-- a table filled by the sums of the counts
pub plain_tabled : (a b : ℕ) {counts sums table table' : List ℕ} {c : Measures}
    → SummedInPlace c.least c.greatest counts sums
    → Refilled (λ v. scaled a b (at sums v) c.size) c.least (c.greatest + 1) table table'
    → Tabled (plain_tone a b) c counts table'
unfolding plain_tone
plain_tabled a b s t = record {
  exact = λ vs h v lv vg.
      t.new v lv (omega arith) ∙ ap₂ (scaled a b) (summed_counts h s v lv vg) h.measured.size;
}
