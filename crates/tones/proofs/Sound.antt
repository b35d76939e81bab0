-- Every tone rule is sound: on [a, b] it never falls, and it stays in [a, b]. Assumes nothing.
use Prim.Native.Nat.{ℕ, ◌≤◌}
use mathlib.Core.List.{List}
use Rattle.histograms.specs.Sound.{Sound}
use Rattle.tones.specs.Tones.{slopes_of, tone}
use Rattle.tones.specs.declared.Rule.{Rule}
use Rattle.tones.specs.declared.Rule.TheVariants.{Plain, Limited, Affine}
use Rattle.plain.proofs.Sound.{plain_sound}
use Rattle.limited.proofs.Sound.{limited_sound}
use Rattle.affine.proofs.Sound.{affine_sound}

pub tone_sound : (r : Rule) (a b : ℕ) (vs : List ℕ) → a ≤ b → Sound a b (tone r a b vs)
unfolding tone
tone_sound (Plain low high) a b vs ab = plain_sound a b vs ab
tone_sound (Limited k) a b vs ab = limited_sound k a b vs ab
tone_sound (Affine segments smin smax) a b vs ab = affine_sound (slopes_of segments smin smax) a b vs ab
