-- The worked examples of the refusals of a list hold, by computation. Assumes nothing.
use mathlib.Core.Path.{refl}
use Rattle.tones.specs.Refusals.{rule_refusal}
use Rattle.tones.specs.Numbers.{malformed}
use Rattle.model.specs.Calls.{area_refusal, neighbour_refusal, numbers_refusal}
use Rattle.listformat.specs.Format.{edition_of, pass_at, misnamed, miscounted, head_refusal}
use Rattle.listchecks.specs.Refusals.{record_refusal, record_refusals, list_refusal}
use Rattle.listchecks.specs.Examples.{ListRefusals}

pub list_refusals : ListRefusals
unfolding list_refusal head_refusal edition_of misnamed miscounted malformed record_refusals record_refusal pass_at
    numbers_refusal
    area_refusal rule_refusal neighbour_refusal
list_refusals = record {
  no_passes = refl;
  two_passes = refl;
  limited = refl;
  affine = refl;
  nothing = refl;
  mark_alone = refl;
  six_bytes = refl;
  other_mark = refl;
  other_version = refl;
  mark_before_count = refl;
  many = refl;
  short = refl;
  long = refl;
  length_before_record = refl;
  rule_three = refl;
  zero_byte = refl;
  second_number = refl;
  interval = refl;
  area_zero = refl;
  area_large = refl;
  low_above_high = refl;
  high_large = refl;
  clip_large = refl;
  no_segments = refl;
  segments_large = refl;
  smin_above_smax = refl;
  slope_large = refl;
  area_before_slopes = refl;
  form_first = refl;
  first_record = refl;
  last_record = refl;
  second = refl;
  second_no_passes = refl;
  second_short = refl;
  first_long = refl;
  second_zero = refl;
  second_zero_2 = refl;
  second_zero_3 = refl;
  zero_before_interval = refl;
  zero_before_neighbours = refl;
  six_neighbours = refl;
  area_before_neighbours = refl;
  third_version = refl;
  version_high_byte = refl;
}
