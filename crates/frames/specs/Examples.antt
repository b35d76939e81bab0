-- Worked examples of what the program refuses, and in which order. Definitions only.
use Rattle.std.specs.Prelude.{ℕ, ◌<◌, ◌≡◌, List, ◌++◌, length, replicate}
use Prim.Native.String.{String}
use Rattle.texts.specs.Ascii.{ascii}
use Rattle.frames.specs.Program.{program_output}

-- the program writes the second text for the first
abbrev pub Says : String → String → Type 0
Says input output = program_output (ascii input) ≡ ascii output

pub record ProgramRefusals : Type 0 where
  pub empty : Says "" "refused 10\n"
  pub wrong_mark : Says "P5 1 1 255" "refused 10\n"
  -- a comment that never ends, one in place of the whitespace byte after the third number, and a number behind others
  pub comment_unended : Says "P6 1 1 #255 abc" "refused 10\n"
  pub comment_for_separator : Says "P6 1 1 255#\nabc" "refused 10\n"
  pub behind_comments : Says "P6#\n1 #1\r1# 255\n15 " "refused 11\n"
  pub no_width : Says "P6 0 1 255 " "refused 1\n"
  -- 129 × 128 is more than 16,384, which is seen before the third number
  pub too_many : Says "P6 129 128 254 " "refused 2\n"
  pub just_enough : Says "P6 128 128 254 " "refused 11\n"
  pub other_maxval : Says "P6 1 1 15 " "refused 11\n"
  pub short_raster : Says "P6 1 1 255 ab" "refused 12\n"
  pub long_raster : Says "P6 1 1 255 abcd" "refused 13\n"
  -- an input of more than 65,536 bytes, whatever they are; one of 65,536 bytes is read
  pub too_long : (input : List ℕ) → 65536 < length input → program_output input ≡ ascii "refused 13\n"
  pub longest : program_output (replicate 65536 0) ≡ ascii "refused 10\n"
  -- a comment that fills such an input and never ends
  pub longest_comment : program_output (ascii "P6" ++ replicate 65534 35) ≡ ascii "refused 10\n"
