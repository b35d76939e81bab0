-- `printing::put_refusal` meets its contract: the word, the number's digits and LF are put one after the other, from
-- the beginning of the output on, and there is room for them. Assumes nothing.
use native.Mathlib.Omega.{arith}
use Rattle.texts.proofs.Decimal.{decimal_few}
use Rattle.texts.proofs.Placing.{put_more}
use Rattle.printing.specs.Printing.{refusal_line}
use Rattle.printing.proofs.Emitting.{emitted_put}
use Rattle.printing.proofs.put_refusal.Goals as goal

pub returns : goal.returns
unfolding refusal_line
returns c =
    let digits = decimal_few c.from.result (omega arith) in
    let numbered = put_more c.put_bytes-after_word.ensures c.put_number-after_number.ensures (omega arith) in
    rw (← c.from.ensures) (emitted_put (put_more numbered c.put_bytes.ensures (omega arith)))
