-- `levels::level` meets its contract: the trailing zeros of a power of two are its exponent. Assumes nothing.
use Rattle.std.proofs.Common.{refl, ◌∙◌}
use Rattle.levels.proofs.Widths.{zeros}
use Rattle.levels.proofs.level.Goals as goal

pub returns : goal.returns
returns c k h e = c.saturating_sub.ensures ∙ rw (e, zeros k h) refl
