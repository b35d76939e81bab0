-- A rule's table of new values for a component. Definitions only.
--
--   ToneTable    a rule's table for a component, by a list of its values
--   ToneTables   the same by every such list
--   ToneTabled   what `tone_table` answers and leaves, and what it leaves free
use Rattle.std.specs.Prelude.{ℕ, Bool, List}
use Rattle.histograms.specs.Tables.{RuleTable, RuleTables, RuleTabled}
use Rattle.histograms.specs.declared.Measures.{Measures}
use Rattle.tones.specs.declared.Rule.{Rule}
use Rattle.tones.specs.Tones.{tone, kept}

abbrev pub ToneTable : Rule → ℕ → ℕ → List ℕ → List ℕ → List ℕ → List ℕ → ℕ → Bool → Type 0
ToneTable rule a b = RuleTable (kept rule a b) (tone rule a b)

abbrev pub ToneTables : Rule → ℕ → ℕ → List ℕ → List ℕ → List ℕ → ℕ → Bool → Type 0
ToneTables rule a b = RuleTables (kept rule a b) (tone rule a b)

-- free are entries of [least, greatest] only
abbrev pub ToneTabled : Rule → ℕ → ℕ → Measures → List ℕ → List ℕ → List ℕ → List ℕ → Bool → List ℕ → List ℕ → Type 0
ToneTabled rule a b c plane queue counts table =
    RuleTabled (kept rule a b) (tone rule a b) c.least c.greatest plane queue counts table c.size
