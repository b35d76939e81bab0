-- `affine::fill_lines` meets its contract: p is point i, what is left of the points leads to the last and gives the
-- tones of the whole, and the entries from the least value to below p's place are tones. Assumes nothing.
use Rattle.std.proofs.Common.{max}
use Rattle.planes.specs.Lists.{at}
use Rattle.histograms.specs.Histograms.{Refilled}
use Rattle.points.specs.Points.{start, points, Reached}
use Rattle.affine.specs.Affine.{joined}
use Rattle.points.proofs.Ahead.{Ahead}
use Rattle.affine.proofs.Lines.{Onward}
use Rattle.affine.proofs.fill_lines.Given as goal

abbrev pub invariant-loop-i : goal.invariant-loop-i
invariant-loop-i l =
    let k = l.curve in
    record {
      reached : Reached k.s k.sums.now k.c k.a l.i l.p;
      ahead : Ahead k.s k.a k.b (at k.sums.now) k.c.size l.i l.p;
      onward : Onward k.s k.a k.b l.y (at k.sums.now) k.c.size l.i l.p;
      filled : Refilled (joined k.a k.b l.y (start k.a) (points k.s k.a k.b (at k.sums.now) k.c.size)) k.c.least
          (max k.c.least l.p.place) l.initial.table l.table;
    }
