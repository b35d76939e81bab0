-- `spreading::spread` meets its contract: the run is begun, and the column of the pixel to the right is reached.
-- Assumes nothing.
use Rattle.spreading.proofs.Around.{right_line, still_spreadable, beside_reachable, spread_on}
use Rattle.spreading.proofs.spread.Goals as goal

pub reach_column-tail-requires : goal.reach_column-tail-requires
reach_column-tail-requires c =
    let right_is = rw c.row_of.ensures at c.right-reached.ensures in
    let size = c.args.grid.size in
    beside_reachable size (still_spreadable c.requires.0 c.begin_run-next.ensures.reaches.taken)
    (right_line c.args.grid.shape.w c.args.p size.wide right_is)

pub returns : goal.returns
returns c =
    let right_is = rw c.row_of.ensures at c.right-reached.ensures in
    spread_on c.args.grid.size c.requires.0 c.begin_run-next.ensures right_is c.reach_column-tail.ensures
