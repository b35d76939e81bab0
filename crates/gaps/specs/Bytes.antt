-- The bytes of a header: digits, whitespace, the number sign and the rest. Definitions only.
--
--   is_white       a byte is TAB, LF, VT, FF, CR or space
--   not_white      a byte is another
--   is_sign        a byte is the number sign, which opens a comment
--   not_sign       a byte is another
--   ends_comment   a byte is LF or CR, which ends one
--   move_for       the header reader's next move, by the next byte
use Rattle.std.specs.Prelude.{ℕ, ◌-◌, Bool, not, ◌&&◌, ◌||◌, cond, eqb, leb}
use Rattle.texts.specs.Ascii.{is_digit}
use Rattle.gaps.specs.declared.Move.{Move}
use Rattle.gaps.specs.declared.Move.TheVariants.{Take, Skip, Comment, Stop}

unfoldable pub is_white : ℕ → Bool
is_white b = (leb 9 b && leb b 13) || eqb b 32

abbrev pub not_white : ℕ → Bool
not_white b = not (is_white b)

unfoldable pub is_sign : ℕ → Bool
is_sign b = eqb b 35

abbrev pub not_sign : ℕ → Bool
not_sign b = not (is_sign b)

unfoldable pub ends_comment : ℕ → Bool
ends_comment b = eqb b 10 || eqb b 13

unfoldable pub move_for : ℕ → Move
move_for b = cond (is_digit b) (Take (b - 48)) (cond (is_white b) Skip (cond (is_sign b) Comment Stop))
