-- The numbers that stand for a tone rule in a record of a pass list and in a call from C. Definitions only.
--
--   rule_of       the rule that some numbers stand for
--   malformed     numbers that stand for no rule
--   form_refusal  the refusal of such numbers
--   Reads         the rule that some numbers stand for, or their refusal
--   numbers_of    the numbers of a rule
--   RuleFits      a rule whose numbers fit 16 bits, and its segments 8
--   NumbersFit    numbers that fit their fields
use Rattle.std.specs.Prelude.{ℕ, ◌<◌, ◌≡◌, Bool, not, cond, ◌&&◌, ◌||◌, ltb, eqb, Result, IfOk}
use Rattle.planes.specs.Refusals.{when, number_in}
use Rattle.planes.specs.declared.refusal.Refusal.{Refusal}
use Rattle.tones.specs.declared.Rule.{Rule}
use Rattle.tones.specs.declared.Rule.TheVariants.{Plain, Limited, Affine}
use Rattle.tones.specs.declared.RuleNumbers.{RuleNumbers}

-- the code 0 is plain, with low and high; 1 is limited, with k; any other is affine, with the segments in the extra
-- byte, smin and smax
abbrev pub rule_of : RuleNumbers → Rule
rule_of n =
    cond (eqb n.code 0) (Plain n.first n.second)
    (cond (eqb n.code 1) (Limited n.first) (Affine n.extra n.first n.second))

-- the code is above 2, or it is 0 or 1 and the extra byte is set, or limited's second number is
unfoldable pub malformed : RuleNumbers → Bool
malformed n =
    ltb 2 n.code || (ltb n.code 2 && not (eqb n.extra 0))
    || (eqb n.code 1 && not (eqb n.second 0))

-- 17: the numbers stand for no rule
abbrev pub form_refusal : RuleNumbers → ℕ
form_refusal n = when (malformed n) 17

-- the rule that the numbers stand for, unless they stand for none
abbrev pub Reads : RuleNumbers → Result Rule Refusal → Type 0
Reads n r = (number_in r ≡ form_refusal n) × IfOk r (λ rule. rule ≡ rule_of n)

abbrev pub numbers_of : Rule → RuleNumbers
numbers_of (Plain low high) = record { code = 0; extra = 0; first = low; second = high }
numbers_of (Limited k) = record { code = 1; extra = 0; first = k; second = 0 }
numbers_of (Affine segments smin smax) = record { code = 2; extra = segments; first = smin; second = smax }

abbrev pub RuleFits : Rule → Type 0
RuleFits (Plain low high) = (low < 65536) × (high < 65536)
RuleFits (Limited k) = k < 65536
RuleFits (Affine segments smin smax) = (segments < 256) × ((smin < 65536) × (smax < 65536))

pub record NumbersFit (n : RuleNumbers) : Type 0 where
  pub code_fits : n.code < 256
  pub extra_fits : n.extra < 256
  pub first_fits : n.first < 65536
  pub second_fits : n.second < 65536
