-- `points::Curve::top_height` meets its contract: p is point i, and what is left of the points leads to the last.
-- Assumes nothing.
use Rattle.planes.specs.Lists.{at}
use Rattle.points.specs.Points.{Reached}
use Rattle.points.proofs.Ahead.{Ahead}
use Rattle.points.proofs.Curve.top_height.Given as goal

abbrev pub invariant-loop-i : goal.invariant-loop-i
invariant-loop-i l = record {
  reached : Reached l.self.s l.self.sums.now l.self.c l.self.a l.i l.p;
  ahead : Ahead l.self.s l.self.a l.self.b (at l.self.sums.now) l.self.c.size l.i l.p;
}
