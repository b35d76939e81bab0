-- Texts and decimal numbers as bytes, in ASCII. Definitions only.
--
--   ascii        the bytes of a text
--   is_digit     a byte is one of 0 to 9
--   value s      the number whose decimal digits are s
--   Numeral x s  s is 1 to 6 digits, of value x
--   decimal x    the digits of x, with no leading zeros
use Rattle.std.specs.Prelude.{ℕ, zero, suc, ◌+◌, ◌-◌, ◌*◌, ◌/◌, ◌%◌, ◌≤◌, ◌≡◌, Bool, true, ◌&&◌, cond, List, [], ◌∷◌}
use Rattle.std.specs.Prelude.{◌++◌, leb, ltb, length}
use Prim.Native.Char.{code}
use Prim.Native.String.{String, [] as none, ◌∷◌ as ◌then◌}
use Rattle.planes.specs.Lists.{every}

abbrev pub ascii : String → List ℕ
ascii none = []
ascii (c then text) = code c ∷ ascii text

unfoldable pub is_digit : ℕ → Bool
is_digit b = leb 48 b && leb b 57

-- the number whose decimal digits are those of v and then these
abbrev pub value_after : ℕ → List ℕ → ℕ
value_after v [] = v
value_after v (digit ∷ digits) = value_after (10 * v + (digit - 48)) digits

abbrev pub value : List ℕ → ℕ
value = value_after 0

pub record Numeral (x : ℕ) (s : List ℕ) : Type 0 where
  pub digits : every is_digit s ≡ true
  pub present : 1 ≤ length s
  pub few : length s ≤ 6
  pub value_is : value s ≡ x

-- the last k decimal digits of x, with no leading zeros
abbrev pub last_digits : ℕ → ℕ → List ℕ
last_digits zero x = []
last_digits (suc k) x = cond (ltb x 10) [] (last_digits k (x / 10)) ++ ((48 + x % 10) ∷ [])

-- the decimal digits of a number of at most six digits
unfoldable pub decimal : ℕ → List ℕ
decimal = last_digits 6
