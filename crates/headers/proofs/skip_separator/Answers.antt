-- `headers::skip_separator` meets its contract, by the move for the first byte. Assumes nothing.
use mathlib.Core.Path.{sym}
use Rattle.headers.proofs.Grammar.{white_there, white_absent}
use Rattle.headers.proofs.skip_separator.Goals as goal

pub returns-in-Skip : goal.returns-in-Skip
returns-in-Skip c =
    sym (white_there c.args.bytes.now c.in_ok-byte.ensures.cases.0 (rw c.sorted.ensures at c.in-Skip.is))

pub returns-in_default : goal.returns-in_default
returns-in_default c =
    sym (white_absent c.args.bytes.now c.in_ok-byte.ensures.cases.0 (rw c.sorted.ensures at c.in_default.not-Skip))
