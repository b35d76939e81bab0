-- Components that a rule keeps back, and so does every later pass with this rule on a part of their section.
-- Definitions only.
--
--   one_value  all values are one
--   lone       a component of one value under the plain rule
use Rattle.std.specs.Prelude.{ℕ, Bool, false, List, eqb}
use Rattle.planes.specs.Lists.{at, every}
use Rattle.tones.specs.declared.Rule.{Rule}
use Rattle.tones.specs.declared.Rule.TheVariants.{Plain, Limited, Affine}

unfoldable pub one_value : List ℕ → Bool
one_value vs = every (eqb (at vs 0)) vs

-- the plain rule keeps a component of one value back; the limited rule keeps none; the affine rule may retone one of
-- one value
abbrev pub lone : Rule → List ℕ → Bool
lone (Plain low high) vs = one_value vs
lone (Limited k) vs = false
lone (Affine segments smin smax) vs = false
