-- The worked examples of reading and writing hold, by computation. Assumes nothing.
use mathlib.Core.Path.{refl}
use Rattle.planes.specs.Refusals.{size_refusal, side_refusal, pixel_refusal, length_refusal, output_refusal}
use Rattle.texts.specs.Ascii.{is_digit, decimal}
use Rattle.texts.specs.Heading.{heading}
use Rattle.gaps.specs.Bytes.{is_white, is_sign, ends_comment}
use Rattle.gaps.specs.Gaps.{pieces, gap}
use Rattle.headers.specs.Grammar.{mark, numeral, field, header_with, header}
use Rattle.headers.specs.Uncommented.{spaces, uncommented_header}
use Rattle.netpbm.specs.Reading.{maxval_refusal, raster_refusal, trailing_refusal, frame_refusal, read_answer}
use Rattle.netpbm.specs.Writing.{write_refusal}
use Rattle.netpbm.specs.Examples.{NetpbmExamples}

pub netpbm_examples : NetpbmExamples
unfolding read_answer header header_with mark field gap pieces numeral is_digit is_white is_sign ends_comment
    spaces uncommented_header
    frame_refusal size_refusal side_refusal pixel_refusal maxval_refusal raster_refusal trailing_refusal
    write_refusal length_refusal output_refusal heading decimal
netpbm_examples = record {
  accepted = refl;
  all_whitespace = refl;
  line_feed_in_raster = refl;
  six_digits = refl;
  comment = refl;
  comment_after_mark = refl;
  comment_after_digit = refl;
  comment_in_number = refl;
  empty_comments = refl;
  comment_bytes = refl;
  comment_to_return = refl;
  comment_to_both = refl;
  sign_in_raster = refl;
  wrong_mark = refl;
  empty = refl;
  ended = refl;
  seven_digits = refl;
  no_whitespace = refl;
  no_digits = refl;
  no_separator = refl;
  comment_unended = refl;
  comment_for_separator = refl;
  comment_before_mark = refl;
  comment_in_mark = refl;
  uncommented = refl;
  was_malformed = refl;
  side_unread = refl;
  no_width = refl;
  no_height = refl;
  too_wide = refl;
  too_high = refl;
  too_many = refl;
  too_many_for_program = refl;
  other_maxval = refl;
  just_enough_for_program = refl;
  maxval_before_raster = refl;
  no_raster = refl;
  two_bytes = refl;
  four_bytes = refl;
  written = refl;
  numbers = refl;
  write_no_width = refl;
  write_too_many = refl;
  write_other_raster = refl;
  write_little_room = refl;
  write_one_byte_short = refl;
  write_room = refl;
}
