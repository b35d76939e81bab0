-- Worked examples of reading and writing, as one statement. Definitions only.
use Rattle.std.specs.Prelude.{ℕ, ◌≡◌, [], ◌∷◌, map, take, replicate}
use Prim.Native.String.{String}
use Rattle.planes.specs.Lists.{from}
use Rattle.planes.specs.Refusals.{greatest_pixels}
use Rattle.texts.specs.Ascii.{ascii, decimal}
use Rattle.gaps.specs.Parsers.{failed, parsed}
use Rattle.headers.specs.Grammar.{header}
use Rattle.headers.specs.Uncommented.{uncommented_header}
use Rattle.netpbm.specs.Reading.{Answer, Refused, Frame, read_answer}
use Rattle.netpbm.specs.Writing.{encoding, write_refusal}

-- what the library's entry, and the program, answer to a text
abbrev pub read : String → Answer
read text = read_answer (ascii text) greatest_pixels

abbrev pub read_small : String → Answer
read_small text = read_answer (ascii text) 16384

-- the refusals of reading, in the order in which they are tested, and then writing
pub record NetpbmExamples : Type 0 where
  -- a frame
  pub accepted : read "P6 1 1 255 abc" ≡ Frame 1 1 11
  -- whitespace is one or more of space, TAB, LF, VT, FF and CR
  pub all_whitespace : read "P6 \t\n1\u{b}\u{c}\r1\n255\tabc" ≡ Frame 1 1 15
  -- exactly one whitespace byte follows maxval: the LF of a CR LF there belongs to the raster
  pub line_feed_in_raster : read "P6 1 1 255\r\nab" ≡ Frame 1 1 11
  -- six digits, leading zeros among them
  pub six_digits : read "P6 000001 1 255 abc" ≡ Frame 1 1 16
  -- a comment counts as one whitespace byte: after other whitespace, right after P6 and right after a digit, where it
  -- ends the number
  pub comment : read "P6 #1\n1 1 255 abc" ≡ Frame 1 1 14
  pub comment_after_mark : read "P6#x\n1 1 255 abc" ≡ Frame 1 1 13
  pub comment_after_digit : header (ascii "P6 3# x\n2 24 ") ≡ parsed (record { width = 3; height = 2; maxval = 24 }) []
  pub comment_in_number : header (ascii "P6 12#x\n3456 1 ")
      ≡ parsed (record { width = 12; height = 3456; maxval = 1 }) []
  -- it may be empty, follow another, and hold any byte but LF and CR
  pub empty_comments : read "P6#\n#\n1#\n#\n 1#\n255 abc" ≡ Frame 1 1 19
  pub comment_bytes : read "P6 # P6 9 9#\0þ#\n1 1 255 abc" ≡ Frame 1 1 24
  -- CR ends it as LF does; after CR LF the LF is one more whitespace byte
  pub comment_to_return : read "P6 #x\r1 1 255 abc" ≡ Frame 1 1 14
  pub comment_to_both : read "P6 #x\r\n1 1 255 abc" ≡ Frame 1 1 15
  -- after `255 ` a number sign belongs to the raster
  pub sign_in_raster : read "P6 1 1 255 #b\n" ≡ Frame 1 1 11
  -- 10: a header that is malformed or ended
  pub wrong_mark : read "P5 1 1 255" ≡ Refused 10
  pub empty : read "" ≡ Refused 10
  pub ended : map (λ (k : ℕ). read_answer (take k (ascii "P6 1 1 255 ")) greatest_pixels) (from 0 11)
      ≡ replicate 11 (Refused 10)
  pub seven_digits : read "P6 0000001 1 255 abc" ≡ Refused 10
  pub no_whitespace : read "P61 1 255 abc" ≡ Refused 10
  pub no_digits : read "P6 a 1 255 abc" ≡ Refused 10
  pub no_separator : read "P6 1 1 255abc" ≡ Refused 10
  -- a comment that never ends, one after the third number, one before P6
  pub comment_unended : map read ("P6 #" ∷ "P6 #1 1 255 abc" ∷ "P6 1#1 255 abc" ∷ "P6 1 1#255 abc" ∷ [])
      ≡ replicate 4 (Refused 10)
  pub comment_for_separator : map read ("P6 1 1 255#\nabc" ∷ "P6 1 1 255# abc" ∷ "P6 1 1 255# \nabc" ∷ [])
      ≡ replicate 3 (Refused 10)
  pub comment_before_mark : read "#x\nP6 1 1 255 abc" ≡ Refused 10
  pub comment_in_mark : read "P#\n6 1 1 255 abc" ≡ Refused 10
  -- before comments were read, a header with one was malformed, and one without was read
  pub uncommented : uncommented_header (ascii "P6 1 1 255 #bc")
      ≡ parsed (record { width = 1; height = 1; maxval = 255 }) (ascii "#bc")
  pub was_malformed : uncommented_header (ascii "P6 #1\n1 1 255 abc") ≡ failed
  pub side_unread : read "P6 0 1 255" ≡ Refused 10
  -- 1: a side is 0 or above 4,096
  pub no_width : read "P6 0 1 255 " ≡ Refused 1
  pub no_height : read "P6 1 0 255 " ≡ Refused 1
  pub too_wide : read "P6 4097 1 255 " ≡ Refused 1
  pub too_high : read "P6 1 4097 255 " ≡ Refused 1
  -- 2: more pixels than allowed, before maxval is looked at
  pub too_many : read "P6 4096 257 255 " ≡ Refused 2
  pub too_many_for_program : read_small "P6 129 128 254 " ≡ Refused 2
  -- 11: the third number is not 255
  pub other_maxval : read "P6 1 1 15 " ≡ Refused 11
  pub just_enough_for_program : read_small "P6 128 128 254 " ≡ Refused 11
  pub maxval_before_raster : read "P6 1 1 254 ab" ≡ Refused 11
  -- 12: the raster is short
  pub no_raster : read "P6 1 1 255 " ≡ Refused 12
  pub two_bytes : read "P6 1 1 255 ab" ≡ Refused 12
  -- 13: bytes after the raster
  pub four_bytes : read "P6 1 1 255 abcd" ≡ Refused 13
  -- writing: the bytes of a frame, and of numbers
  pub written : encoding (ascii "abcdef") 2 1 ≡ ascii "P6\n2 1\n255\nabcdef"
  pub numbers : map decimal (0 ∷ 7 ∷ 10 ∷ 99 ∷ 100 ∷ 4096 ∷ 999999 ∷ [])
      ≡ map ascii ("0" ∷ "7" ∷ "10" ∷ "99" ∷ "100" ∷ "4096" ∷ "999999" ∷ [])
  -- writing is refused with 1, 2, 3 and 14, in that order; 1 by 1 needs 14 bytes
  pub write_no_width : write_refusal 0 1 3 0 ≡ 1
  pub write_too_many : write_refusal 4096 257 3 0 ≡ 2
  pub write_other_raster : write_refusal 2 1 3 0 ≡ 3
  pub write_little_room : write_refusal 1 1 3 2 ≡ 14
  pub write_one_byte_short : write_refusal 1 1 3 13 ≡ 14
  pub write_room : write_refusal 1 1 3 14 ≡ 0
