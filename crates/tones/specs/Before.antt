-- The numbers of a tone rule as they were read before the affine rule was there. The law that other numbers are read as
-- before needs this; nothing else does. Definitions only.
--
--   rule_before        the rule that some numbers stood for
--   malformed_before   numbers that stood for no rule
use Rattle.std.specs.Prelude.{Bool, not, cond, ◌&&◌, ◌||◌, ltb, eqb}
use Rattle.tones.specs.declared.Rule.{Rule}
use Rattle.tones.specs.declared.Rule.TheVariants.{Plain, Limited}
use Rattle.tones.specs.declared.RuleNumbers.{RuleNumbers}

-- the code 0 was plain, with low and high; any other was limited, with k
abbrev pub rule_before : RuleNumbers → Rule
rule_before n = cond (eqb n.code 0) (Plain n.first n.second) (Limited n.first)

-- the code was neither 0 nor 1, or the extra byte was set, or limited's second number was
abbrev pub malformed_before : RuleNumbers → Bool
malformed_before n =
    ltb 1 n.code || not (eqb n.extra 0)
    || (eqb n.code 1 && not (eqb n.second 0))
