-- `spread` of a `Tail` meets its contract: what is above and below a taken pixel is all that is next to it by four
-- neighbours. Assumes nothing.
use Rattle.spreading.proofs.Around.{spread_four}
use Rattle.components.proofs.TailSpreads.spread.Goals as goal

pub returns : goal.returns
returns c = (spread_four c.args.grid.size c.requires.0 c.reach_column.ensures, tt)
