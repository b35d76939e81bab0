-- What the published recursion and the wrong turns leave, by computation; and that the shape that two of them share is
-- the published one. Assumes nothing.
use Prim.Native.Nat.{ℕ, zero, suc, ◌+◌, ◌/◌}
use mathlib.Core.Path.{◌≡◌, refl, ap}
use Rattle.planes.specs.Neighbours.{Near, four, linked, component, first}
use Rattle.tones.specs.declared.Rule.{Rule}
use Rattle.plain.specs.Plain.{plain_tone, plain_kept}
use Rattle.limited.specs.Limited.{clipped, limited_tone}
use Rattle.tones.specs.Tones.{tone, kept}
use Rattle.model.specs.Published.{Procedure, reading_order}
use Rattle.model.specs.Published.{member, level_set, amid, connected_components, painted, histogram_equalization}
use Rattle.model.specs.Published.{for_each, process_level_set, recursive_histogram_equalization, published_in}
use Rattle.model.specs.WrongTurns.{recursion_by, original_tones, one_histogram, area_test, stop_recursion, stop_at_kept}
use Rattle.model.specs.WrongTurns.{rounded_even, halves_to_even, WrongTurns}

-- with the published procedures it is Algorithm 2
pub shape_is : (near : Near) (area : ℕ) (rule : Rule) (levels : ℕ)
    → recursion_by (histogram_equalization rule) (process_level_set reading_order near area) levels
    ≡ recursive_histogram_equalization reading_order near area rule levels
unfolding recursion_by recursive_histogram_equalization
shape_is near area rule zero = refl
shape_is near area rule (suc levels) = ap one_more (shape_is near area rule levels)
  where
    half : Procedure → Procedure
    half = process_level_set reading_order near area

    one_more : Procedure → Procedure
    one_more next a b S t =
        half next ((a + b) / 2 + 1) b S (half next a ((a + b) / 2) S (histogram_equalization rule a b S t))

pub wrong_turns : WrongTurns
unfolding four linked component first plain_tone plain_kept clipped limited_tone tone kept
    member level_set amid connected_components painted histogram_equalization
    for_each process_level_set recursive_histogram_equalization published_in
    recursion_by original_tones one_histogram area_test stop_recursion stop_at_kept rounded_even halves_to_even
wrong_turns = record {
  original_tones_lem = record { published_is = refl; wrong_is = refl };
  one_histogram_lem = record { published_is = refl; wrong_is = refl };
  area_test_lem = record { published_is = refl; wrong_is = refl };
  stop_at_kept_lem = record { published_is = refl; wrong_is = refl };
  halves_to_even_lem = record { published_is = refl; wrong_is = refl };
}
