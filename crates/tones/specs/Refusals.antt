-- The refusals of a tone rule's own numbers. Definitions only.
use Rattle.std.specs.Prelude.{ℕ, ◌||◌, eqb, ltb}
use Rattle.planes.specs.Refusals.{when}
use Rattle.tones.specs.declared.Rule.{Rule}
use Rattle.tones.specs.declared.Rule.TheVariants.{Plain, Limited, Affine}

-- 7: low > high, or high > 25,500; 8: k above 1,000; 18: no segments or more than 16, smin > smax, or smax > 10,000
unfoldable pub rule_refusal : Rule → ℕ
rule_refusal (Plain low high) = when (ltb high low || ltb 25500 high) 7
rule_refusal (Limited k) = when (ltb 1000 k) 8
rule_refusal (Affine segments smin smax) =
    when (eqb segments 0 || ltb 16 segments || ltb smax smin || ltb 10000 smax) 18
