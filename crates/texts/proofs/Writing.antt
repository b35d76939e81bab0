-- What writing some bytes answers and leaves. Assumes nothing.
--
--   wrote_refused, wrote_accepted   the contract, from a refusal and from bytes put into the output
--   wrote_none, wrote_size          where a length is answered nothing is refused, and it is that of the bytes
--   wrote_bytes, wrote_beyond       the first bytes are these, and those beyond them are as they were
use Prim.Native.Nat.{ℕ}
use mathlib.Core.Path.{◌≡◌, sym, ap, ◌∙◌}
use mathlib.Core.List.{List, [], ◌∷◌, ◌++◌}
use native.Mathlib.Nat.{zero-add}
use lib.ListN.{length, take, drop}
use lib.Seq.{take_at, drop_at}
use Rattle.planes.specs.Lists.{at}
use Rattle.std.specs.Prelude.{Ok, Err}
use Rattle.planes.specs.declared.refusal.Refusal.{Refusal}
use Rattle.planes.specs.Refusals.{number}
use Rattle.planes.specs.Replies.{gives, overwritten}
use Rattle.planes.proofs.Replies.{replied_gives, replied_err, after_err, replied_ok, after_ok}
use Rattle.texts.specs.Placing.{Put}
use Rattle.texts.specs.Writing.{written_reply, WritingOutcome}

module _ (n : ℕ) (bytes output : List ℕ) where
  pub wrote_refused : (r : Refusal) → number r ≡ n → WritingOutcome n bytes output (written_reply (Err r)) output
  wrote_refused r e = record {
    answer = replied_err r n (length bytes ∷ []) e;
    output_is = after_err r n output (overwritten output bytes) e;
  }

  pub wrote_accepted : (r : ℕ) (output' : List ℕ) → 0 ≡ n → Put output 0 bytes r output'
      → WritingOutcome n bytes output (written_reply (Ok r)) output'
  wrote_accepted r output' e p =
      let size = length bytes in
      let whole : r ≡ size = p.next ∙ zero-add size in
      let left = p.leaves ∙ ap (λ (k : ℕ). bytes ++ drop k output) (zero-add size) in
      record {
        answer = ap (λ (k : ℕ). gives (k ∷ [])) whole ∙ replied_ok n (size ∷ []) e;
        output_is = left ∙ after_ok n output (overwritten output bytes) e;
      }

module _ {number : ℕ} {bytes output : List ℕ} {size : ℕ} {output' : List ℕ}
    (wrote : WritingOutcome number bytes output (gives (size ∷ [])) output') where
  told : (number ≡ 0) × (size ≡ length bytes)
  told =
      let given = replied_gives number (length bytes ∷ []) (sym wrote.answer) in
      (given.0, ap (λ (vs : List ℕ). at vs 0) given.1)

  pub wrote_none : number ≡ 0
  wrote_none = told.0

  pub wrote_size : size ≡ length bytes
  wrote_size = told.1

  left : output' ≡ bytes ++ drop size output
  left = wrote.output_is ∙ rw (told.0, told.1)

  pub wrote_bytes : take size output' ≡ bytes
  wrote_bytes = ap (take size) left ∙ take_at bytes (drop size output) size (sym wrote_size)

  pub wrote_beyond : drop size output' ≡ drop size output
  wrote_beyond = ap (drop size) left ∙ drop_at bytes (drop size output) size (sym wrote_size)
