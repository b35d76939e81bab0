-- `spreading::reach_column` meets its contract: the pixels above and below are reached, one after the other. Assumes
-- nothing.
use Rattle.spreading.proofs.Columns.{may_above, may_below, column_reached}
use Rattle.spreading.proofs.reach_column.Goals as goal

pub reach-next-requires : goal.reach-next-requires
reach-next-requires c = may_above c.args.grid.size c.requires c.above.ensures

pub reach-requires : goal.reach-requires
reach-requires c =
    let below = rw c.pixels-n.ensures at c.below.ensures in
    may_below c.args.grid.size c.requires c.above.ensures c.reach-next.ensures below

pub returns : goal.returns
returns c =
    let below = rw c.pixels-n.ensures at c.below.ensures in
    column_reached c.args.grid.size c.requires c.above.ensures c.reach-next.ensures below c.reach.ensures
