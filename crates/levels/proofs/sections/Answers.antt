-- `levels::sections` meets its contract: the greatest byte, shifted, is one less than a power of two. Assumes nothing.
use Rattle.std.proofs.Common.{rules}
use Rattle.levels.proofs.Widths.{spans_right}
use Rattle.levels.proofs.sections.Goals as goal

pub returns : goal.returns
returns c = (spans_right c.args.last c.requires, search rules)
