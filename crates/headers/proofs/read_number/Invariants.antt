-- The invariant of `headers::read_number` is `Reading`, and its measure what is left of the bytes. Assumes nothing.
use lib.ListN.{length}
use Rattle.headers.proofs.Numbers.{Reading}
use Rattle.headers.proofs.read_number.Given as goal

abbrev pub invariant-loop-digit : goal.invariant-loop-digit
invariant-loop-digit l = Reading l.bytes l.rest l.digits l.value

abbrev pub decreases-loop-digit : goal.decreases-loop-digit
decreases-loop-digit l = length l.rest
