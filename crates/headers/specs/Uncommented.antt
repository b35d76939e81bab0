-- Headers as they were read before comments were: whitespace alone stands before each number. The law that headers
-- without comments are read as before needs this; nothing else does. Definitions only.
--
--   uncommented_header  the grammar of such a header
--   signless            no number sign stands in the header before a raster
--   Uncommented         no number sign stands in a header that begins the bytes
use Rattle.std.specs.Prelude.{ℕ, ◌-◌, ◌≡◌, Bool, true, List, length, take}
use Rattle.planes.specs.Lists.{every}
use Rattle.gaps.specs.Bytes.{is_white, not_sign}
use Rattle.gaps.specs.Parsers.{Parser, ◌>>◌, pure, take_while1}
use Rattle.headers.specs.Grammar.{Numbers, header_with}
use Rattle.headers.specs.Headers.{IsHeader}

-- one or more whitespace bytes
unfoldable pub spaces : Parser (Unit {0})
spaces = do
  take_while1 is_white
  pure tt

unfoldable pub uncommented_header : Parser Numbers
uncommented_header = header_with spaces

-- no number sign stands before the raster, in the bytes of the header
abbrev pub signless : List ℕ → List ℕ → Bool
signless bytes raster = every not_sign (take (length bytes - length raster) bytes)

abbrev pub Uncommented : List ℕ → Type 0
Uncommented bytes = (w h maxval : ℕ) (raster : List ℕ) → IsHeader bytes w h maxval raster → signless bytes raster ≡ true
