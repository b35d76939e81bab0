-- What the program writes.
--
--   long_output, read_output     the cases of the definition: an input that is too long, and any other
--   frame_output                 a frame of at most 65,536 bytes and 16,384 pixels is answered by its enhancement
--   refused_output               any other input that is not too long is answered by the number that reading replies
--   long_emitted, read_emitted   the contract, in each case
--
-- Assumes nothing.
use Prim.Native.Nat.{ℕ, ◌≤◌, ◌<◌}
use mathlib.Core.Path.{◌≡◌, ap, subst, sym}
use mathlib.Core.List.{List}
use lib.ListN.{length, drop}
use borrow.Author.Tests.{lt-ltb, le-ltb}
use Rattle.planes.specs.Replies.{refuses}
use Rattle.netpbm.specs.Reading.{Answer, read_reply, read_answer}
use Rattle.netpbm.specs.Frames.{IsFrame}
use Rattle.netpbm.proofs.Frames.{accepted_iff}
use Rattle.netpbm.proofs.Replies.{refused_answer}
use Rattle.printing.specs.Printing.{greatest_frame, refusal_line, enhanced_frame}
use Rattle.frames.specs.Program.{greatest_input, output_for}
use Rattle.printing.specs.Printing.{Emitted}
use Rattle.frames.specs.Program.{program_output}

module _ (input : List ℕ) where
  pub long_output : greatest_input < length input → program_output input ≡ refusal_line 13
  unfolding program_output
  long_output long = rw (lt-ltb greatest_input (length input) long)

  pub read_output : {answer : Answer} → length input ≤ greatest_input → read_answer input greatest_frame ≡ answer
      → program_output input ≡ output_for input answer
  unfolding program_output
  read_output short read = rw (le-ltb greatest_input (length input) short) (ap (output_for input) read)

  pub frame_output : {w h offset : ℕ} → length input ≤ greatest_input → IsFrame input greatest_frame w h offset
      → program_output input ≡ enhanced_frame (drop offset input) w h
  frame_output {w} {h} {offset} short f = read_output short ((accepted_iff input greatest_frame w h offset).1 f)

  pub refused_output : {k : ℕ} → length input ≤ greatest_input
      → read_reply input greatest_frame ≡ refuses k → program_output input ≡ refusal_line k
  refused_output short e = read_output short (refused_answer input greatest_frame e)

  module _ {output output' : List ℕ} {r : ℕ} where
    pub long_emitted : greatest_input < length input → Emitted (refusal_line 13) output r output'
        → Emitted (program_output input) output r output'
    long_emitted long = subst (λ (l : List ℕ). Emitted l output r output') (sym (long_output long))

    pub read_emitted : {answer : Answer} → length input ≤ greatest_input → read_answer input greatest_frame ≡ answer
        → Emitted (output_for input answer) output r output' → Emitted (program_output input) output r output'
    read_emitted short read = subst (λ (l : List ℕ). Emitted l output r output') (sym (read_output short read))
