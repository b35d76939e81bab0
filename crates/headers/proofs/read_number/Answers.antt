-- `headers::read_number` meets its contract: one more digit is taken into the number. Assumes nothing.
use Rattle.headers.proofs.Numbers.{reading_more}
use Rattle.headers.proofs.read_number.Goals as goal

pub loop-digit-preserved : goal.loop-digit-preserved
loop-digit-preserved c = reading_more c.loop-digit.invariant c.in-Some.ensures c.if-digits-eq-DIGITS.false
