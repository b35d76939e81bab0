-- The numbers that a caller in C lends for a rule and for the neighbours of a pass. Definitions only.
--
--   ruled           so many numbers are lent for a rule
--   numbers_for     the numbers of a rule, by the four or five that are lent
--   neighbours_for  the number of neighbours, by the fifth of them
--   rule_lent       the four numbers of a rule
--   pass_lent       the same and a number of neighbours
use Rattle.std.specs.Prelude.{ℕ, min, Bool, ◌||◌, cond, List, [], ◌∷◌, ◌++◌, length, eqb}
use Rattle.planes.specs.Lists.{at}
use Rattle.tones.specs.declared.Rule.{Rule}
use Rattle.tones.specs.declared.RuleNumbers.{RuleNumbers}
use Rattle.tones.specs.Numbers.{numbers_of}

-- four numbers are lent for a rule, or five: those of a rule and a number of neighbours
abbrev pub ruled : ℕ → Bool
ruled count = eqb count 4 || eqb count 5

-- a rule by its code, first and second number, and segments. Code and segments are bytes of a record: what is above 255
-- stands for 255, which is no code and too many segments. Fewer numbers than four, or more than five, are no rule's.
abbrev pub numbers_for : List ℕ → RuleNumbers
numbers_for rule =
    cond (ruled (length rule))
    (record { code = min (at rule 0) 255; extra = min (at rule 3) 255; first = at rule 1; second = at rule 2 })
    (record { code = 255; extra = 0; first = 0; second = 0 })

abbrev pub rule_lent : Rule → List ℕ
rule_lent rule = let n = numbers_of rule in n.code ∷ n.first ∷ n.second ∷ n.extra ∷ []

-- the fifth number, and 4 where there is none. What is above 255 stands for 255, which is neither 4 nor 8.
abbrev pub neighbours_for : List ℕ → ℕ
neighbours_for rule = cond (eqb (length rule) 5) (min (at rule 4) 255) 4

abbrev pub pass_lent : Rule → ℕ → List ℕ
pass_lent rule number = rule_lent rule ++ number ∷ []
