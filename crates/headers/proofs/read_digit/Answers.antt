-- `headers::read_digit` meets its contract: before a byte that is no digit there is none. Assumes nothing.
use mathlib.Core.Path.{sym, ◌∙◌}
use Rattle.headers.proofs.Numbers.{no_digit}
use Rattle.headers.proofs.read_digit.Goals as goal

pub returns-then-not-is_ascii_digit : goal.returns-then-not-is_ascii_digit
returns-then-not-is_ascii_digit c =
    no_digit _ c.in_ok-byte.ensures.cases.0 (sym c.is_ascii_digit.ensures.value ∙ c.if-not-is_ascii_digit.true)
