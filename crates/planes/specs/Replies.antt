-- What a call answers and leaves, in the requirements' terms: a refusal's number, or values. A call returns a result,
-- whose reply is told by `reply_of`, by what its values are. Definitions only.
--
--   Reply         an answer: refused with a number, or given with values
--   reply_of      the reply of a result, by the values that it gives where it is not a refusal
--   replied       the answer for the number of the first refusal that applies, 0 where none does, and some values
--   after         lent memory after such a call: as it was if it is refused
--   overwritten   an output with some bytes in the place of its first ones
use Rattle.std.specs.Prelude.{ℕ, zero, suc, List, ◌++◌, length, drop, Result, Ok, Err}
use Rattle.planes.specs.declared.refusal.Refusal.{Refusal}
use Rattle.planes.specs.Refusals.{number}

pub data Reply : Type 0 where
  refuses : ℕ → Reply
  gives : List ℕ → Reply

abbrev pub reply_of : {A : Type 0} → (A → List ℕ) → Result A Refusal → Reply
reply_of values (Ok x) = gives (values x)
reply_of values (Err r) = refuses (number r)

abbrev pub replied : ℕ → List ℕ → Reply
replied zero values = gives values
replied (suc k) values = refuses (suc k)

abbrev pub after : ℕ → List ℕ → List ℕ → List ℕ
after zero old new = new
after (suc k) old new = old

abbrev pub overwritten : List ℕ → List ℕ → List ℕ
overwritten output bytes = bytes ++ drop (length bytes) output
