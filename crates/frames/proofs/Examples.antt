-- The worked examples of what the program refuses hold, by computation. Assumes nothing.
use mathlib.Core.Path.{refl}
use Rattle.planes.specs.Refusals.{size_refusal, side_refusal, pixel_refusal}
use Rattle.texts.specs.Ascii.{is_digit, decimal}
use Rattle.gaps.specs.Bytes.{is_white, is_sign, ends_comment}
use Rattle.gaps.specs.Gaps.{pieces, gap}
use Rattle.headers.specs.Grammar.{mark, numeral, field, header_with, header}
use Rattle.netpbm.specs.Reading.{maxval_refusal, raster_refusal, trailing_refusal, frame_refusal, read_answer}
use Rattle.printing.specs.Printing.{refusal_line}
use Rattle.frames.specs.Program.{program_output}
use Rattle.frames.specs.Examples.{ProgramRefusals}
use Rattle.frames.proofs.Program.{long_output}

pub program_refusals : ProgramRefusals
unfolding program_output refusal_line read_answer header header_with mark field gap pieces numeral
    is_digit is_white is_sign ends_comment decimal
    frame_refusal size_refusal side_refusal pixel_refusal maxval_refusal raster_refusal trailing_refusal
program_refusals = record {
  empty = refl;
  wrong_mark = refl;
  comment_unended = refl;
  comment_for_separator = refl;
  behind_comments = refl;
  no_width = refl;
  too_many = refl;
  just_enough = refl;
  other_maxval = refl;
  short_raster = refl;
  long_raster = refl;
  too_long = λ input long. long_output input long;
  longest = refl;
  longest_comment = refl;
}
