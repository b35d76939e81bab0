-- The worked examples hold, by computation: `starred`; and so do the hypotheses of demand 3 for one chain of calls,
-- `demand_3_met`, and of sections in parallel for two orders of calls and two copies, `parallel_met`. Assumes nothing.
use Prim.Native.Nat.{ℕ, suc, ◌≤◌, ◌<◌}
use mathlib.Core.Path.{◌≡◌, refl, sym, ap₂, ◌∙◌}
use mathlib.Core.Logic.{inl}
use mathlib.Core.List.{List, [], ◌∷◌, map}
use native.Mathlib.Omega.{arith}
use lib.ListN.{length, length-map}
use Rattle.planes.specs.Lists.{from}
use Rattle.planes.specs.Permutations.{swap}
use Rattle.planes.specs.Replies.{gives}
use Rattle.planes.specs.Refusals.{◌▷◌, size_refusal, side_refusal, pixel_refusal, length_refusal, room_refusal}
use Rattle.planes.specs.Refusals.{output_refusal}
use Rattle.planes.specs.Shapes.{neighbours, adjacency, shape_refusal, lent_refusal}
use Rattle.planes.specs.Neighbours.{four, eight, linked, component, first}
use Rattle.planes.specs.Extrema.{flat, extreme, extremes}
use Rattle.planes.proofs.Lists.{beyond_refl}
use Rattle.planes.proofs.Counts.{length_from}
use Rattle.planes.proofs.Refusals.{▷_last, output_none}
use Rattle.plain.specs.Plain.{plain_tone, plain_kept}
use Rattle.limited.specs.Limited.{clipped, limited_tone}
use Rattle.points.specs.Points.{least_from, next_point, points_after}
use Rattle.affine.specs.Affine.{joined, affine_top, affine_tone, affine_kept}
use Rattle.tones.specs.Tones.{tone, kept}
use Rattle.channels.specs.Channels.{third, new_channel}
use Rattle.colours.specs.Frames.{pixel_intensity, intensity, greatest_channel, recolour}
use Rattle.colours.specs.Calls.{intensity_refusal}
use Rattle.model.specs.Passes.{inside, component_values, changes, kept_back, retone, new_tone, passed, component_count}
use Rattle.model.specs.Neighbourhoods.{pass_neighbours}
use Rattle.model.specs.Effects.{run_effect}
use Rattle.model.specs.Runs.{All, none as All-none, more as All-more}
use Rattle.model.specs.declared.Pass.{Pass}
use Rattle.model.proofs.Outcomes.{done_by}
use Rattle.tones.specs.Refusals.{rule_refusal}
use Rattle.model.specs.Calls.{area_refusal, neighbour_refusal, numbers_refusal, pass_refusal, call, chain}
use Rattle.model.specs.Calls.{empty, refused, given}
use Rattle.model.specs.Enhancement.{section, level, levels, passes, call_of, enhanced}
use Rattle.tones.specs.Examples.{any_ratio}
use Rattle.tones.proofs.Examples.{tone_examples}
use Rattle.model.proofs.PublishedExamples.{published_examples}
use Rattle.passes.specs.Calls.{pass_call_refusal, PassOutcome, none, more}
use Rattle.model.specs.Calls.{none as none-refused, more as one-accepted}
use Rattle.schedules.specs.Orders.{none as none-disjoint, more as disjoint-more}
use Rattle.schedules.specs.Copies.{work_passes, taken as takenBy, handed_back, together}
use Rattle.schedules.specs.Copies.{none as none-worked, more as worked-more}
use Rattle.tones.specs.Numbers.{malformed}
use Rattle.listformat.specs.declared.Edition.{Edition}
use Rattle.listformat.specs.declared.Edition.TheVariants.{First, Second}
use Rattle.listformat.specs.Format.{other, record_start, edition_of, pass_at, passes_of, misnamed, miscounted}
use Rattle.listformat.specs.Format.{head_refusal}
use Rattle.listformat.specs.Format.{encode_fields, encode_pass, encode_passes, encode, Storable}
use Rattle.listchecks.specs.Refusals.{record_refusal, record_refusals, list_refusal, passes_refusal, places_refusal}
use Rattle.listchecks.proofs.Refusals.{encoded_refusal}
use Rattle.conversion.proofs.Editions.{stored, encoded_converts}
use Rattle.conversion.specs.Conversion.{converted, convert_refusal}
use Rattle.texts.specs.Ascii.{is_digit, decimal}
use Rattle.texts.specs.Heading.{heading}
use Rattle.gaps.specs.Bytes.{is_white, is_sign, ends_comment}
use Rattle.gaps.specs.Gaps.{pieces, gap}
use Rattle.headers.specs.Grammar.{mark, numeral, field, header_with, header}
use Rattle.netpbm.specs.Reading.{maxval_refusal, raster_refusal, trailing_refusal, frame_refusal, read_answer}
use Rattle.printing.specs.Printing.{enhanced_frame}
use Rattle.frames.specs.Program.{program_output}
use Rattle.worked.specs.Examples.{on, on_eight, PassExamples, Eight, ExtremaExamples, times_e, Many, Starred}
use Rattle.worked.specs.Examples.{Demand3Met, After, row, dark, bright, row_h, row_h', ParallelExamples}
use Rattle.worked.specs.Examples.{ParallelMet}

pass_examples : PassExamples
unfolding pass_neighbours adjacency neighbours four linked component first plain_tone plain_kept clipped limited_tone
    tone
    kept affine_tone affine_top affine_kept least_from next_point points_after joined
    inside component_values changes kept_back retone new_tone passed component_count
pass_examples = record {
  A = refl;
  B = refl;
  C = refl;
  D = refl;
  E = refl;
  F = refl;
  G = refl;
  H = refl;
  I = refl;
  J = refl;
  U = refl;
  U-kept = refl;
  U-flat = refl;
  U-same = refl;
  least = refl;
  joined = refl;
}

eight_examples : Eight
unfolding pass_neighbours adjacency neighbours four eight linked component first plain_tone plain_kept clipped
    limited_tone
    tone kept inside component_values changes kept_back retone new_tone passed component_count flat extreme extremes
    area_refusal rule_refusal neighbour_refusal numbers_refusal
eight_examples = record {
  J = refl;
  down = refl;
  up = refl;
  row_ends = refl;
  one_row = refl;
  one_column = refl;
  parted = refl;
  touch = refl;
  together = refl;
  tops = refl;
  pits = refl;
  neither = refl;
  after_slopes = refl;
}

extrema_examples : ExtremaExamples
unfolding neighbours four linked first flat extreme extremes
extrema_examples = record {
  constant = record { maxima_are = refl; minima_are = refl };
  single = record { maxima_are = refl; minima_are = refl };
  plateau = record { maxima_are = refl; minima_are = refl };
  step = record { maxima_are = refl; minima_are = refl };
  corners = record { maxima_are = refl; minima_are = refl };
  ring = record { maxima_are = refl; minima_are = refl };
  before_joined = record { maxima_are = refl; minima_are = refl };
  after_joined = record { maxima_are = refl; minima_are = refl };
}

parallel_examples : ParallelExamples
unfolding pass_neighbours adjacency neighbours four eight linked component first plain_tone plain_kept tone kept
    inside component_values changes kept_back retone new_tone passed component_count run_effect
    takenBy handed_back together
parallel_examples = record {
  one_order = refl;
  other_order = refl;
  put_together = refl;
  unworked = refl;
  overlapping = refl;
  overlapping' = refl;
  ring = refl;
  ring_four = refl;
  ringed = refl;
  unringed = refl;
  ringed_four = refl;
}

-- ## Many passes

times_fit : (js : List ℕ) → All (Storable First) (map (λ j. on 0 127 1 any_ratio) js)
times_fit [] = All-none
times_fit (j ∷ js) = All-more {s = on 0 127 1 any_ratio}
    (record {
      a_fits = omega arith;
      b_fits = omega arith;
      area_fits = omega arith;
      rule_fits = (omega arith, omega arith);
      neighbours_fit = refl;
    })
    (times_fit js)

times_length : (count : ℕ) → length (times_e count) ≡ count
times_length count = length-map (from 0 count) (λ j. on 0 127 1 any_ratio) ∙ length_from 0 count

-- there is room for their conversion
room : (count : ℕ) → count ≤ 1024 → (e : Edition) → output_refusal 16391 (record_start (other e) count) ≡ 0
room count few First = output_none 16391 (record_start Second count) (omega (arith, few))
room count few Second = output_none 16391 (record_start First count) (omega (arith, few))

-- what they get in memory, they get in a file of either edition and to be converted
many : (count number : ℕ) → count ≤ 1024 → passes_refusal (times_e count) ≡ number → Many count number
many count number few is =
    let told : length (times_e count) < 65536 = omega (arith, times_length count, few) in
    let fit = times_fit (from 0 count) in
    record {
      in_memory = is;
      in_file = λ e. encoded_refusal e (times_e count) told (stored e (times_e count) fit) ∙ is;
      to_convert = λ e. encoded_converts (times_e count) told fit e 16391
          ∙ ap₂ (λ (k n : ℕ). k ▷ output_refusal 16391 (record_start (other e) n)) is (times_length count)
          ∙ ▷_last number (output_refusal 16391 (record_start (other e) count)) (room count few e);
    }

pub starred : Starred
unfolding shape_refusal size_refusal side_refusal pixel_refusal length_refusal pass_neighbours adjacency neighbours four
    eight
    linked component first plain_tone plain_kept clipped limited_tone tone kept
    affine_tone affine_top affine_kept least_from next_point points_after joined
    third pixel_intensity intensity greatest_channel new_channel recolour
    inside component_values changes kept_back retone new_tone passed component_count run_effect
    room_refusal area_refusal rule_refusal neighbour_refusal numbers_refusal lent_refusal pass_refusal call chain
    section level levels passes call_of enhanced
    edition_of pass_at passes_of malformed misnamed miscounted head_refusal encode_fields encode_pass encode_passes
    encode
    record_refusal record_refusals list_refusal passes_refusal places_refusal output_refusal converted convert_refusal
    is_digit is_white is_sign ends_comment pieces gap mark numeral field header_with header
    maxval_refusal raster_refusal trailing_refusal frame_refusal read_answer decimal heading enhanced_frame
    program_output
starred = record {
  tones = tone_examples;
  passes = pass_examples;
  eight = eight_examples;
  extrema = extrema_examples;
  parallel = parallel_examples;
  K = refl;
  L = refl;
  flat = refl;
  flat_small = refl;
  flat_affine = refl;
  J-four = refl;
  J-eight = refl;
  published = published_examples;
  N = refl;
  N' = refl;
  O = λ j. refl;
  P = refl;
  P-commented = refl;
  Q-is = refl;
  Q-accepted = refl;
  Q = refl;
  Q2-is = refl;
  Q2-accepted = refl;
  Q2 = refl;
  J2 = refl;
  Q-up = refl;
  Q-down = refl;
  Q-accepts = refl;
  Q-short = refl;
  J-twenty = refl;
  Y-five = refl;
  many_319 = many 319 0 (omega arith) refl;
  many_320 = many 320 0 (omega arith) refl;
  many_321 = many 321 16 (omega arith) refl;
  many_1024 = many 1024 16 (omega arith) refl;
  W-is = refl;
  W-accepted = refl;
  W = refl;
}

-- ## Demand 3 on a chain

abbrev two : List ℕ
two = 0 ∷ 0 ∷ []

taken : (k : ℕ) → 0 ≡ suc k → ⊥
taken k e = omega (arith, e)

pub demand_3_met : Demand3Met
unfolding shape_refusal size_refusal side_refusal pixel_refusal length_refusal pass_neighbours adjacency neighbours four
    eight
    linked component first plain_tone plain_kept tone kept
    third pixel_intensity intensity intensity_refusal
    inside component_values changes kept_back retone new_tone passed component_count
    room_refusal area_refusal rule_refusal neighbour_refusal numbers_refusal lent_refusal pass_refusal
demand_3_met = record {
  filled = record { answer = refl; plane_is = refl };
  calls = more {s = on_eight 0 255 1 any_ratio} {marks = two} {queue = two} {plane' = 128 ∷ 255 ∷ []}
      (record {
        answer = refl;
        plane_is = refl;
        refused = λ k e. absurd (taken k e);
        marks_rest = beyond_refl 2 two;
        queue_rest = beyond_refl 2 two;
      })
      (more {s = on 0 255 1 any_ratio} {marks = two} {queue = 0 ∷ []}
      (record {
        answer = refl;
        plane_is = refl;
        refused = λ k e. (refl, refl);
        marks_rest = beyond_refl 2 two;
        queue_rest = beyond_refl 2 (0 ∷ []);
      })
      (more {s = on 255 0 1 any_ratio} {marks = two} {queue = two}
      (record {
        answer = refl;
        plane_is = refl;
        refused = λ k e. (refl, refl);
        marks_rest = beyond_refl 2 two;
        queue_rest = beyond_refl 2 two;
      })
      none));
  carry = given refl (refused (refused empty));
}

-- ## Sections in parallel on calls

abbrev four_marks : List ℕ
four_marks = 0 ∷ 0 ∷ 0 ∷ 0 ∷ []

abbrev five_marks : List ℕ
five_marks = 0 ∷ 0 ∷ 0 ∷ 0 ∷ 0 ∷ []

abbrev dark_done : List ℕ
dark_done = 64 ∷ 127 ∷ 200 ∷ 220 ∷ []

abbrev bright_done : List ℕ
bright_done = 10 ∷ 20 ∷ 192 ∷ 255 ∷ []

-- a call that retones one component, and leaves marks and queue as they came
retones_one : (s : Pass) (p marks queue q : List ℕ) → pass_call_refusal (row 4) s p marks queue ≡ 0
    → After (row 4) p s q 1 0 → PassOutcome (row 4) s p marks queue (gives (1 ∷ 0 ∷ [])) q marks queue
retones_one s p marks queue q taken-all is = done_by {r = record { retoned = 1; kept = 0 }} taken-all (record {
  effect_is = sym is;
  marks_rest = beyond_refl 4 marks;
  queue_rest = beyond_refl 4 queue;
})

pub parallel_met : ParallelMet
unfolding shape_refusal size_refusal side_refusal pixel_refusal length_refusal pass_neighbours adjacency neighbours four
    eight
    linked component first plain_tone plain_kept tone kept
    inside component_values changes kept_back retone new_tone passed component_count
    room_refusal area_refusal rule_refusal neighbour_refusal numbers_refusal lent_refusal pass_refusal work_passes
parallel_met =
    let dark-first = retones_one dark row_h four_marks four_marks dark_done refl refl in
    record {
      calls = more {s = dark} {marks = four_marks} {queue = four_marks} dark-first
          (more {s = bright} {marks = five_marks} {queue = four_marks}
          (retones_one bright dark_done five_marks four_marks row_h' refl refl) none);
      turned = more {s = bright} {marks = four_marks} {queue = five_marks}
          (retones_one bright row_h four_marks five_marks bright_done refl refl)
          (more {s = dark} {marks = four_marks} {queue = four_marks}
          (retones_one dark bright_done four_marks four_marks row_h' refl refl) none);
      accepted = one-accepted (one-accepted none-refused);
      disjoint = disjoint-more {s = dark} (All-more {s = bright} (inl (omega arith)) All-none)
          (disjoint-more {s = bright} All-none none-disjoint);
      permuted = swap;
      worked = worked-more (more {s = dark} {marks = four_marks} {queue = four_marks} dark-first none)
          (one-accepted none-refused)
          (worked-more (more {s = bright} {marks = five_marks} {queue = four_marks}
          (retones_one bright row_h five_marks four_marks bright_done refl refl) none)
          (one-accepted none-refused) none-worked);
      work_passes_lem = refl;
    }
