-- How the library's answers and settings are written as numbers for a C caller. Definitions only.
--
--   encoded         an answer as one number: a refusal k as -k, and else the value
--   number_reply    the reply that a number stands for, of a call that gives one value
--   done_reply      the same of a call that gives none: 0 stands for done
--   status_number   the answer of intensity or recolouring, encoded
--   answer_number   the answer of a pass, a list or an enhancement, encoded; its counts go to lent numbers
--   counts_after    the lent numbers after it
--   counts_refusal  14, where too few numbers are lent for both counts
--   counts_reply    the reply that a number and the lent numbers stand for, of such a call
--   written_number  the answer of writing, encoded
--   pass_of         the pass for its numbers
--   settings_of     the settings for their numbers
--   read_number     the answer of reading, encoded; what is read goes to lent numbers
--   numbers_after   the lent numbers after it
use Rattle.std.specs.Prelude.{ℕ, zero, suc, ◌<◌, cond, ◌≡◌, List, [], ◌∷◌, ℤ, pos, negsuc, length, take, drop, ltb}
use Rattle.std.specs.Prelude.{Result, Ok, Err}
use Rattle.planes.specs.declared.refusal.Refusal.{Refusal}
use Rattle.planes.specs.Refusals.{number, when}
use Rattle.planes.specs.Replies.{Reply, refuses, gives, overwritten}
use Rattle.model.specs.declared.Counts.{Counts}
use Rattle.model.specs.declared.Pass.{Pass}
use Rattle.netpbm.specs.Reading.{Answer, Refused, Frame}
use Rattle.levels.specs.declared.Settings.{Settings}
use Rattle.tones.specs.Numbers.{rule_of}
use Rattle.crules.specs.Rules.{numbers_for, neighbours_for}

-- the number of a refusal, 0 where there is none, and a value; negsuc k is -(k + 1)
abbrev pub encoded : ℕ → ℕ → ℤ
encoded zero value = pos value
encoded (suc k) value = negsuc k

-- negsuc k is -(k + 1), which stands for the refusal k + 1
abbrev pub number_reply : ℤ → Reply
number_reply (pos value) = gives (value ∷ [])
number_reply (negsuc k) = refuses (suc k)

abbrev pub done_reply : ℤ → Reply
done_reply (pos zero) = gives []
done_reply (pos (suc value)) = gives (suc value ∷ [])
done_reply (negsuc k) = refuses (suc k)

-- the results of the calls as numbers
abbrev pub status_number : Result (Unit {0}) Refusal → ℤ
status_number (Ok x) = encoded 0 0
status_number (Err r) = encoded (number r) 0

abbrev pub answer_number : Result Counts Refusal → ℤ
answer_number (Ok counts) = encoded 0 0
answer_number (Err r) = encoded (number r) 0

-- both counts stand in the first two numbers; those beyond stay
abbrev pub counts_after : Result Counts Refusal → List ℕ → List ℕ
counts_after (Ok counts) numbers = overwritten numbers (counts.retoned ∷ counts.kept ∷ [])
counts_after (Err r) numbers = numbers

-- 14: fewer than two numbers are lent
abbrev pub counts_refusal : ℕ → ℕ
counts_refusal lent = when (ltb lent 2) 14

-- 0 stands for the first two lent numbers, and negsuc k for the refusal k + 1
abbrev pub counts_reply : ℤ → List ℕ → Reply
counts_reply (pos zero) numbers = gives (take 2 numbers)
counts_reply (pos (suc value)) numbers = gives (suc value ∷ [])
counts_reply (negsuc k) numbers = refuses (suc k)

abbrev pub written_number : Result ℕ Refusal → ℤ
written_number (Ok size) = encoded 0 size
written_number (Err r) = encoded (number r) 0

-- a length that a signed number of 64 bits holds
pub record Short (r : Result ℕ Refusal) : Type 0 where
  pub short : (size : ℕ) → r ≡ Ok size → size < 9223372036854775808

-- by the numbers that are lent
abbrev pub pass_of : ℕ → ℕ → ℕ → List ℕ → Pass
pass_of a b area rule =
    record { a = a; b = b; area = area; rule = rule_of (numbers_for rule); neighbours = neighbours_for rule }

abbrev pub settings_of : ℕ → ℕ → List ℕ → Settings
settings_of last area rule =
    record { last = last; area = area; rule = rule_of (numbers_for rule); neighbours = neighbours_for rule }

-- ## What reading answers

-- the answer for what reading gives: its refusal, then 14 where fewer than three numbers are lent, else 0
abbrev pub read_number : Answer → ℕ → ℤ
read_number (Refused k) lent = encoded k 0
read_number (Frame w h offset) lent = encoded (when (ltb lent 3) 14) 0

-- the lent numbers afterwards; those beyond the first three stay
abbrev pub numbers_after : Answer → List ℕ → List ℕ
numbers_after (Refused k) numbers = numbers
numbers_after (Frame w h offset) numbers =
    cond (ltb (length numbers) 3) numbers (w ∷ h ∷ offset ∷ drop 3 numbers)
