-- `rows::Grid::reach` meets its contract: where q has the code, the first pixel of its run is found and the run taken
-- from there. Assumes nothing.
use Rattle.std.proofs.Common.{ap, ◌*◌}
use Rattle.rows.proofs.Runs.{not_reached, reached}
use Rattle.rows.proofs.Grid.reach.Goals as goal

pub returns-then-marks-q : goal.returns-then-marks-q
returns-then-marks-q c = not_reached c.if-marks-q.true

pub returns : goal.returns
returns c =
    let row = ap (◌* c.args.self.shape.w) c.row_of.ensures in
    reached c.args.self.size.wide c.requires row c.if-marks-q.false c.run_start-first.ensures c.take_run.ensures
