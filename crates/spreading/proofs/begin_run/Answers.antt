-- `spreading::begin_run` meets its contract: the columns of the pixel to the left and of the pixel itself are reached,
-- unless they are clear already. Assumes nothing.
use Rattle.spreading.proofs.Around.{left_line, still_spreadable, beside_reachable, begun_before, run_begun}
use Rattle.spreading.proofs.begin_run.Goals as goal

pub returns-then-p-front : goal.returns-then-p-front
returns-then-p-front c = begun_before c.requires.0 (c.requires.1.1 c.if-p-front.true)

pub reach_column-next-requires : goal.reach_column-next-requires
reach_column-next-requires c =
    let left_is = rw c.requires.1.0 at c.left.ensures in
    let size = c.args.grid.size in
    beside_reachable size c.requires.0 (left_line c.args.grid.shape.w c.args.p size.wide left_is)

pub reach_column-requires : goal.reach_column-requires
reach_column-requires c =
    (still_spreadable c.requires.0 c.reach_column-next.ensures.reaches.taken).reachable

pub returns : goal.returns
returns c =
    let left_is = rw c.requires.1.0 at c.left.ensures in
    run_begun c.args.grid.size c.requires.0 left_is c.reach_column-next.ensures c.reach_column.ensures
