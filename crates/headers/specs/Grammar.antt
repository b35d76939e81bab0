-- The grammar of a P6 header: the bytes P6, then width, height and maxval (the greatest value of a channel) as 1 to 6
-- digits, each after a gap of whitespace and comments, then one whitespace byte. What it leaves is the raster.
-- Definitions only.
use Rattle.std.specs.Prelude.{ℕ, leb, length}
use Rattle.texts.specs.Ascii.{is_digit, value}
use Rattle.gaps.specs.Bytes.{is_white}
use Rattle.gaps.specs.Parsers.{Parser, ◌>>=◌, ◌>>◌, pure, check, byte, one_byte, take_while1}
use Rattle.gaps.specs.Gaps.{gap}

-- 1 to 6 digits; leading zeros count among them
unfoldable pub numeral : Parser ℕ
numeral = do
  digits ← take_while1 is_digit
  check (leb (length digits) 6)
  pure (value digits)

-- a number after what another parser takes
unfoldable pub field : Parser (Unit {0}) → Parser ℕ
field before = do
  before
  numeral

-- the three numbers of a header
pub record Numbers : Type 0 where
  pub width : ℕ
  pub height : ℕ
  pub maxval : ℕ

-- the bytes P6
unfoldable pub mark : Parser (Unit {0})
mark = do
  byte 80
  byte 54

-- a header, by what stands before each number
unfoldable pub header_with : Parser (Unit {0}) → Parser Numbers
header_with before = do
  mark
  w ← field before
  h ← field before
  maxval ← field before
  one_byte is_white
  pure (record { width = w; height = h; maxval = maxval })

-- before each number stands a gap
unfoldable pub header : Parser Numbers
header = header_with gap
