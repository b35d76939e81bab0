-- `points::Curve::top_height` meets its contract. Assumes nothing.
use Rattle.std.proofs.Common.{◌≡◌, ap, arith}
use Rattle.planes.specs.Lists.{at}
use Rattle.points.specs.declared.Point.{Point}
use Rattle.points.proofs.Points.{reached_few}
use Rattle.points.proofs.Ahead.{end_top, next_of}
use Rattle.points.proofs.Curve.top_height.Goals as goal

pub loop-i-preserved : goal.loop-i-preserved
loop-i-preserved c =
    let inv = c.loop-i.invariant in
    let next = next_of c.args.self.cumulative (omega arith) inv.reached inv.ahead c.next_point-p.ensures in
    record { reached = next.reached; ahead = next.ahead }

pub returns : goal.returns
returns c =
    let a = c.args.self in
    let inv = c.loop-i.invariant in
    let all : c.loop-i.i ≡ a.s.segments = omega arith in (
      ap (λ (q : Point). q.height) (end_top a.s a.a a.b (at a.sums.now) a.c.size c.loop-i.p (rw all at inv.ahead)),
      omega (arith, reached_few inv.reached (omega arith) (omega arith) (omega arith)),
    )
