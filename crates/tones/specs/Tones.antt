-- The tone rules: what the value v of a component in the section [a, b] becomes. A rule sees only the list vs of the
-- component's values. Definitions only.
--
--   slopes_of  the numbers of an affine rule
--   tone       the tone of a rule
--   kept       the rule keeps the old values back
use Rattle.std.specs.Prelude.{ℕ, Bool, false, List}
use Rattle.plain.specs.Plain.{plain_tone, plain_kept}
use Rattle.limited.specs.Limited.{limited_tone}
use Rattle.affine.specs.Affine.{affine_tone, affine_kept}
use Rattle.points.specs.declared.Slopes.{Slopes}
use Rattle.tones.specs.declared.Rule.{Rule}
use Rattle.tones.specs.declared.Rule.TheVariants.{Plain, Limited, Affine}

-- the numbers of an affine rule
abbrev pub slopes_of : ℕ → ℕ → ℕ → Slopes
slopes_of segments smin smax = record { segments = segments; smin = smin; smax = smax }

unfoldable pub tone : Rule → ℕ → ℕ → List ℕ → ℕ → ℕ
tone (Plain low high) a b vs v = plain_tone a b vs v
tone (Limited k) a b vs v = limited_tone k a b vs v
tone (Affine segments smin smax) a b vs v = affine_tone (slopes_of segments smin smax) a b vs v

-- the limited rule keeps nothing back
unfoldable pub kept : Rule → ℕ → ℕ → List ℕ → Bool
kept (Plain low high) a b vs = plain_kept low high a b vs
kept (Limited k) a b vs = false
kept (Affine segments smin smax) a b vs = affine_kept (slopes_of segments smin smax) a b vs
