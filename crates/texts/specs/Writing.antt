-- What a call that writes bytes into a lent output answers and leaves. Definitions only.
--
--   written_reply   the reply of its result
--   WritingOutcome  the contract of writing some bytes, or of the refusal: its answer, and the output after it
use Rattle.std.specs.Prelude.{ℕ, ◌≡◌, List, [], ◌∷◌, length, Result}
use Rattle.planes.specs.declared.refusal.Refusal.{Refusal}
use Rattle.planes.specs.Replies.{Reply, reply_of, replied, after, overwritten}

-- the refusal's number, or the length written
abbrev pub written_reply : Result ℕ Refusal → Reply
written_reply = reply_of (λ n. n ∷ [])

-- the output has the bytes from its beginning on, and beyond them what it had; a refusal changes nothing
pub record WritingOutcome (number : ℕ) (bytes output : List ℕ) (reply : Reply) (output' : List ℕ) : Type 0 where
  pub answer : reply ≡ replied number (length bytes ∷ [])
  pub output_is : output' ≡ after number output (overwritten output bytes)
