-- The plain rule is sound: on [a, b] it never falls, and it stays in [a, b]. Assumes nothing.
use Prim.Native.Nat.{ℕ, ◌≤◌}
use mathlib.Core.List.{List}
use native.Mathlib.Nat.{le_trans}
use lib.ListN.{length}
use lib.Dec.{leb}
use borrow.Author.Tests.{leb-true, le-leb}
use Rattle.planes.specs.Lists.{count}
use Rattle.planes.proofs.Counts.{count_le, count_mono}
use Rattle.plain.specs.Plain.{plain_tone}
use Rattle.histograms.specs.Sound.{Sound}
use Rattle.histograms.proofs.Scaled.{scaled_mono, scaled_above, scaled_below}

pub plain_rises : (a b : ℕ) (vs : List ℕ) (v u : ℕ) → v ≤ u → plain_tone a b vs v ≤ plain_tone a b vs u
unfolding plain_tone
plain_rises a b vs v u vu = scaled_mono a b (length vs)
    (count_mono (λ x. leb x v) (λ x. leb x u) (λ x e. le-leb x u (le_trans (leb-true x v e) vu)) vs)

pub plain_sound : (a b : ℕ) (vs : List ℕ) → a ≤ b → Sound a b (plain_tone a b vs)
unfolding plain_tone
plain_sound a b vs ab = record {
  rises = λ v u _ vu _. plain_rises a b vs v u vu;
  above = λ v _ _. scaled_above a b (count (λ x. leb x v) vs) (length vs);
  below = λ v _ _. scaled_below a b (count (λ x. leb x v) vs) (length vs) ab (count_le (λ x. leb x v) vs);
}
