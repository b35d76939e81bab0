-- The worked examples of the published recursion hold, by computation. Assumes nothing.
use mathlib.Core.Path.{refl}
use Rattle.planes.specs.Neighbours.{four, linked, component, first}
use Rattle.plain.specs.Plain.{plain_tone, plain_kept}
use Rattle.limited.specs.Limited.{clipped, limited_tone}
use Rattle.tones.specs.Tones.{tone, kept}
use Rattle.model.specs.Published.{member, level_set, amid, connected_components, painted, histogram_equalization}
use Rattle.model.specs.Published.{for_each, process_level_set, recursive_histogram_equalization, published_in}
use Rattle.model.specs.PublishedExamples.{PublishedExamples}

pub published_examples : PublishedExamples
unfolding four linked component first plain_tone plain_kept clipped limited_tone tone kept
    member level_set amid connected_components painted histogram_equalization
    for_each process_level_set recursive_histogram_equalization published_in
published_examples = record {
  k = refl;
  l = refl;
  m = refl;
  kept_back = refl;
  both = refl;
  larger = refl;
  neither = refl;
  one_value = refl;
  one_value_small = refl;
  one_value_limited = refl;
}
