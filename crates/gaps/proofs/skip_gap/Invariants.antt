-- The invariant of `gaps::skip_gap`: what the parser leaves of the rest is what it leaves of all. The measure is
-- what is left of the bytes: a whitespace byte and a comment both take some. Assumes nothing.
use mathlib.Core.Path.{◌≡◌}
use lib.ListN.{length}
use Rattle.gaps.specs.Gaps.{pieces}
use Rattle.gaps.proofs.skip_gap.Given as goal

abbrev pub invariant-loop-byte : goal.invariant-loop-byte
invariant-loop-byte l = pieces l.rest ≡ pieces l.bytes

abbrev pub decreases-loop-byte : goal.decreases-loop-byte
decreases-loop-byte l = length l.rest
