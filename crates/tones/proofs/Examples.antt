-- The worked examples of the tone rules hold, by computation. Those for one pixel and for 1,048,576 hold by law.
-- Assumes nothing.
use mathlib.Core.Path.{refl, ap₂, ◌∙◌}
use mathlib.Core.List.{[], ◌∷◌}
use native.Mathlib.Nat.{max-zero}
use native.Mathlib.Omega.{arith}
use Rattle.histograms.specs.Values.{scaled}
use Rattle.plain.specs.Plain.{plain_tone, plain_kept}
use Rattle.limited.specs.Limited.{clipped, limited_tone}
use Rattle.points.specs.Points.{least_from, next_point, points_after}
use Rattle.affine.specs.Affine.{joined, affine_top, affine_tone, affine_kept}
use Rattle.tones.specs.Tones.{tone, kept}
use Rattle.tones.specs.Examples.{ToneExamples}
use Rattle.plain.proofs.Ends.{plain_greatest}

pub tone_examples : ToneExamples
unfolding plain_tone plain_kept clipped limited_tone tone kept
    affine_tone affine_top affine_kept least_from next_point points_after joined
tone_examples = record {
  a = refl;
  a_not_kept = refl;
  b = refl;
  c = refl;
  c_not_kept = refl;
  d = refl;
  g = refl;
  h = refl;
  i = refl;
  affine = refl;
  affine_not_kept = refl;
  affine_kept_lem = refl;
  affine_one = refl;
  affine_most = refl;
  affine_most_kept = refl;
  affine_point = refl;
  affine_even = refl;
  affine_flat = refl;
  affine_level = refl;
  affine_whole = refl;
  affine_whole_toned = refl;
  affine_less = refl;
  affine_above = refl;
  affine_single = refl;
  affine_single_not_kept = refl;
  affine_least = refl;
  one_value = λ low high. refl;
  two_values = refl;
  at_high = refl;
  above_high = refl;
  at_low = refl;
  below_low = refl;
  point = refl;
  point_limited = refl;
  single = λ a b v ab. rw (max-zero v) at (plain_greatest a b (v ∷ []) ab (omega arith));
  single_limited = refl;
  most_down = λ vs v size c. ap₂ (scaled 0 255) c size ∙ refl;
  most_up = λ vs v size c. ap₂ (scaled 0 255) c size ∙ refl;
  most_end = λ vs size. plain_greatest 0 255 vs (omega arith) (omega arith);
}
