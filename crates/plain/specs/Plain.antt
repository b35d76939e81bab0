-- The plain rule: what the value v of a component in the section [a, b] becomes, and when it keeps the old values back.
-- It sees only the list vs of the component's values. Definitions only.
--
--   plain_tone   the part c(v) of m of b - a, where c(v) counts the values no greater than v, and m all values
--   kept_by      the old values are kept, by the spreads before and after
--   plain_kept   the rule keeps the old values back
use Rattle.std.specs.Prelude.{ℕ, ◌*◌, Bool, ◌||◌, List, map, length, leb, ltb, eqb}
use Rattle.planes.specs.Lists.{count}
use Rattle.histograms.specs.Values.{spread, scaled}

unfoldable pub plain_tone : ℕ → ℕ → List ℕ → ℕ → ℕ
plain_tone a b vs v = scaled a b (count (λ x. leb x v) vs) (length vs)

-- with the spreads s before and t after: s = 0, or 100 t > high s, or 100 t < low s
abbrev pub kept_by : ℕ → ℕ → ℕ → ℕ → Bool
kept_by low high s t = eqb s 0 || ltb (high * s) (100 * t) || ltb (100 * t) (low * s)

unfoldable pub plain_kept : ℕ → ℕ → ℕ → ℕ → List ℕ → Bool
plain_kept low high a b vs = kept_by low high (spread vs) (spread (map (plain_tone a b vs) vs))
