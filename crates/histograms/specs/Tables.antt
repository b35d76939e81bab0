-- Tables of new values, by any tone rule. A rule is given by its two functions of a component's values: `kept`, whether
-- the rule keeps the old values back, and `tone`, what each value becomes if it does not. Definitions only.
--
--   Tabled       a table of tones, by every list of values that has the measures and the counts
--   Ruled        a rule's table, by every list of values that has them
--   RuleTable    a rule's table for a component, by a list of its values
--   RuleTables   the same by every such list
--   RuleTabled   what a function that fills a rule's table answers and leaves, and what it leaves free
use Rattle.std.specs.Prelude.{ℕ, ◌≤◌, ◌<◌, ◌≡◌, Bool, not, cond, List}
use Rattle.planes.specs.Lists.{at}
use Rattle.histograms.specs.Histograms.{values, Alike, Confined, Histogram}
use Rattle.histograms.specs.declared.Measures.{Measures}

-- the entries of [least, greatest] are the tones of the values there, for every list of values that has these measures
-- and counts
pub record Tabled (tone : List ℕ → ℕ → ℕ) (c : Measures) (counts table : List ℕ) : Type 0 where
  pub exact : (vs : List ℕ) → Histogram vs counts c → (v : ℕ) → c.least ≤ v → v ≤ c.greatest
      → at table v ≡ tone vs v

-- for every list of values that has these measures and counts: r says that it is not kept back; the entries of
-- [least, greatest] are the tones of the values there, or the values themselves if it is
pub record Ruled (kept : List ℕ → Bool) (tone : List ℕ → ℕ → ℕ) (c : Measures) (counts table : List ℕ) (r : Bool)
    : Type 0 where
  pub answer : (vs : List ℕ) → Histogram vs counts c → r ≡ not (kept vs)
  pub exact : (vs : List ℕ) → Histogram vs counts c → (v : ℕ) → c.least ≤ v → v ≤ c.greatest
      → at table v ≡ cond (kept vs) v (tone vs v)

-- a component whose values are vs: r says that it is not kept back; at each of its values the table has the value's
-- tone, or the value itself if it is
pub record RuleTable (kept : List ℕ → Bool) (tone : List ℕ → ℕ → ℕ) (vs plane queue table : List ℕ) (m : ℕ) (r : Bool)
    : Type 0 where
  pub answer : r ≡ not (kept vs)
  pub entry : (i : ℕ) → i < m
      → at table (at plane (at queue i)) ≡ cond (kept vs) (at plane (at queue i)) (tone vs (at plane (at queue i)))

-- the same for every list of the component's values
abbrev pub RuleTables : (List ℕ → Bool) → (List ℕ → ℕ → ℕ) → List ℕ → List ℕ → List ℕ → ℕ → Bool → Type 0
RuleTables kept tone plane queue table m r =
    (vs : List ℕ) → Alike vs (values plane queue m) → RuleTable kept tone vs plane queue table m r

-- r and the table's entries at the values of the component are the rule's. Free are the counts of [x, y], and the
-- table's entries of [x, y] at values that no pixel of the component has; all other entries, and both lengths, stay
pub record RuleTabled (kept : List ℕ → Bool) (tone : List ℕ → ℕ → ℕ) (x y : ℕ) (plane queue counts table : List ℕ)
    (m : ℕ) (r : Bool) (counts' table' : List ℕ) : Type 0 where
  pub tones : RuleTables kept tone plane queue table' m r
  pub confined : Confined x y counts table counts' table'
