-- What stands before each number of a header: whitespace and comments. Definitions only.
--
-- By parts, with no parser:
--   Piece p       p is a whitespace byte or a comment: a number sign, bytes other than LF and CR, and one LF or CR
--   Gap s         s is one or more pieces
--
-- As parsers:
--   rest_of_comment   what is left of a comment that has begun; fails where it does not end
--   pieces            zero or more pieces, up to the first byte that begins none; fails where a comment does not end
--   comment_and_then  what is left of a comment that has begun, and then zero or more pieces
--   gap               one or more pieces
use Rattle.std.specs.Prelude.{ℕ, ◌≡◌, Bool, true, false, not, ◌||◌, cond, List, [], ◌∷◌, ◌++◌}
use Rattle.planes.specs.Lists.{every}
use Rattle.gaps.specs.Bytes.{is_white, is_sign, ends_comment}
use Rattle.gaps.specs.Parsers.{failed, parsed, Parser}

-- a byte of a comment's text: neither LF nor CR
abbrev pub is_text : ℕ → Bool
is_text b = not (ends_comment b)

pub data Piece : List ℕ → Type 0 where
  white : {b : ℕ} → is_white b ≡ true → Piece (b ∷ [])
  comment : (text : List ℕ) (end : ℕ) → every is_text text ≡ true → ends_comment end ≡ true
      → Piece ((35 ∷ []) ++ text ++ (end ∷ []))

pub data Gap : List ℕ → Type 0 where
  one : {p : List ℕ} → Piece p → Gap p
  more : {p s : List ℕ} → Piece p → Gap s → Gap (p ++ s)

-- what is left of a comment that has begun, up to and including its end
unfoldable pub rest_of_comment : Parser (Unit {0})
rest_of_comment [] = failed
rest_of_comment (b ∷ bytes) = cond (ends_comment b) (parsed tt bytes) (rest_of_comment bytes)

unfoldable mutual
  pub pieces : Parser (Unit {0})
  pieces [] = parsed tt []
  pieces (b ∷ bytes) =
      cond (is_white b) (pieces bytes) (cond (is_sign b) (comment_and_then bytes) (parsed tt (b ∷ bytes)))

  pub comment_and_then : Parser (Unit {0})
  comment_and_then [] = failed
  comment_and_then (b ∷ bytes) = cond (ends_comment b) (pieces bytes) (comment_and_then bytes)

-- a piece begins the bytes, whole or not
abbrev pub begun : List ℕ → Bool
begun [] = false
begun (b ∷ bytes) = is_white b || is_sign b

unfoldable pub gap : Parser (Unit {0})
gap bytes = cond (begun bytes) (pieces bytes) failed
