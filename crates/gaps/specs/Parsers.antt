-- Parsers of lists of bytes, as small pieces that are put together by `do`. Definitions only.
--
--   Parser A       fails on a list of bytes, or makes a value of its beginning and leaves the rest
--   p >>= f        p, and then, on what p leaves, f of p's value; `do` is written for it
--   pure a         the value a, of no bytes
--   check t        passes, on no bytes, where the test passes
--   byte b         the byte b
--   one_byte f     one byte that passes the test f
--   take_while1 f  all bytes up to the first that fails the test f, or to the end; at least one
--   left, made     what a function of the reader answers, as what a parser makes of the bytes
use Rattle.std.specs.Prelude.{ℕ, Bool, cond, List, [], ◌∷◌, eqb, Option, Some, None}
use Rattle.std.specs.Borrow.{Bor}

-- what a parser makes of a list of bytes
pub data Parsed (A : Type 0) : Type 0 where
  failed : Parsed A
  parsed : A → List ℕ → Parsed A

abbrev pub Parser : Type 0 → Type 0
Parser A = List ℕ → Parsed A

module _ {A B : Type 0} where
  -- where the first parser fails both do; else the second goes on with its value and with what it leaves
  abbrev pub next : Parsed A → (A → Parser B) → Parsed B
  next failed f = failed
  next (parsed a rest) f = f a rest

  infixl 20 ◌>>=◌
  abbrev pub ◌>>=◌ : Parser A → (A → Parser B) → Parser B
  (p >>= f) bytes = next (p bytes) f

  infixl 20 ◌>>◌
  abbrev pub ◌>>◌ : Parser A → Parser B → Parser B
  (p >> q) bytes = next (p bytes) (λ a. q)

abbrev pub pure : {A : Type 0} → A → Parser A
pure a bytes = parsed a bytes

abbrev pub check : Bool → Parser (Unit {0})
check t bytes = cond t (parsed tt bytes) failed

abbrev pub one_byte : (ℕ → Bool) → Parser (Unit {0})
one_byte f [] = failed
one_byte f (b ∷ bytes) = cond (f b) (parsed tt bytes) failed

abbrev pub byte : ℕ → Parser (Unit {0})
byte b = one_byte (λ c. eqb c b)

-- the longest beginning whose bytes all pass the test
abbrev pub take_while : (ℕ → Bool) → List ℕ → List ℕ
take_while f [] = []
take_while f (b ∷ bytes) = cond (f b) (b ∷ take_while f bytes) []

-- what follows it
abbrev pub drop_while : (ℕ → Bool) → List ℕ → List ℕ
drop_while f [] = []
drop_while f (b ∷ bytes) = cond (f b) (drop_while f bytes) (b ∷ bytes)

-- a run that was taken, unless it is empty
abbrev pub some : List ℕ → List ℕ → Parsed (List ℕ)
some [] rest = failed
some (b ∷ taken) rest = parsed (b ∷ taken) rest

abbrev pub take_while1 : (ℕ → Bool) → Parser (List ℕ)
take_while1 f bytes = some (take_while f bytes) (drop_while f bytes)

-- the bytes that are left, if the parser does not fail
abbrev pub left : Option (Bor (List ℕ)) → Parsed (Unit {0})
left None = failed
left (Some rest) = parsed tt rest.now

-- the same with a value
abbrev pub made : {A : Type 0} → Option (A × Bor (List ℕ)) → Parsed A
made None = failed
made (Some (a, rest)) = parsed a rest.now
