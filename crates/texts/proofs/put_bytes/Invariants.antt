-- The invariant of `texts::put_bytes`: the first i bytes stand in the output from `at` on, and the rest of it is as it
-- was. Assumes nothing.
use mathlib.Core.Path.{◌≡◌}
use lib.Seq.{paste}
use Rattle.texts.proofs.put_bytes.Given as goal

-- lib.Seq's `paste output at bytes i` has the first i bytes in the place of the output's i bytes from `at` on
abbrev pub invariant-loop-i : goal.invariant-loop-i
invariant-loop-i l = l.output ≡ paste l.initial.output l.at l.bytes l.i
