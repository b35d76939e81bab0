-- What the header reader answers, as what the grammar makes of the bytes. Definitions only.
--
--   FirstDigit   a digit begins the bytes, of this value, and what follows it
--   read         the numbers of a header, and the raster after it
use Rattle.std.specs.Prelude.{ℕ, ◌-◌, ◌≤◌, ◌≡◌, true, List, ◌∷◌, Option, Some, None}
use Rattle.texts.specs.Ascii.{is_digit}
use Rattle.gaps.specs.Parsers.{Parsed, failed, parsed}
use Rattle.headers.specs.Grammar.{Numbers}
use Rattle.headers.specs.declared.Fields.{Fields}

pub record FirstDigit (bytes : List ℕ) (digit : ℕ) (rest : List ℕ) : Type 0 where
  pub byte : ℕ
  pub is : bytes ≡ byte ∷ rest
  pub digit_is : is_digit byte ≡ true
  pub value_is : digit ≡ byte - 48
  pub small : digit ≤ 9

abbrev pub read : Option Fields → Parsed Numbers
read None = failed
read (Some f) = parsed (record { width = f.w; height = f.h; maxval = f.maxval }) f.raster.now
