-- One array holds the counts of a component and then their sums. Definitions only.
--
--   SummedInPlace   what the summing in place leaves
--   Sums            sums of which none is above the last
use Rattle.std.specs.Prelude.{ℕ, ◌≤◌, ◌≡◌, List}
use Rattle.planes.specs.Lists.{at}
use Rattle.histograms.specs.Values.{sum_to}
use Rattle.histograms.specs.Histograms.{Outside, Ranged}
use Rattle.histograms.specs.declared.Measures.{Measures}

-- After the summing in place, each entry of [a, b] holds the sum of what it and the entries of [a, b] below it held
-- before. What stands outside is in no sum and stays.
pub record SummedInPlace (a b : ℕ) (before after : List ℕ) : Type 0 where
  pub entry : (v : ℕ) → a ≤ v → v ≤ b → at after v ≡ sum_to (at before) a v
  pub rest : Outside a b before after

-- in [least, greatest], which lies in [a, b], no entry is above the last, which is no more than `most`
pub record Sums (sums : List ℕ) (most : ℕ) (c : Measures) (a b : ℕ) : Type 0 where
  pub range : Ranged c a b
  pub rises : (v : ℕ) → c.least ≤ v → v ≤ c.greatest → at sums v ≤ at sums c.greatest
  pub top : at sums c.greatest ≤ most
