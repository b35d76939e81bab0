-- `points::Curve::next_point` meets its contract: the search finds the next point's place, and its height fits. Assumes
-- nothing.
use Rattle.std.proofs.Common.{ℕ, ◌+◌, ◌-◌, ap, sym, ◌∙◌, arith}
use Rattle.points.specs.declared.Point.{Point}
use Rattle.points.proofs.Points.{next_is, reached_few, growth_few}
use Rattle.points.proofs.Curve.next_point.Goals as goal

pub overflow_add-height : goal.overflow_add-height
overflow_add-height c =
    let a = c.args.self in
    omega (
      arith,
      reached_few c.requires.1 (omega arith) (omega arith) (omega arith),
      c.grown.ensures,
      growth_few a.s (c.find-place.result - c.args.p.place) c.saturating_sub.result
          (omega arith) (omega arith) (omega arith),
    )

pub returns : goal.returns
returns c =
    let a = c.args.self in
    let pre = c.requires in
    let place = c.find-place.result in
    let at_place : ℕ → Point = λ g. record { place = place; height = c.args.p.height + g } in
    let grown = rw (c.saturating_sub.ensures, c.from-3.ensures) at c.grown.ensures in
    let found = rw (c.max-from.ensures, c.from-n.ensures, c.from.ensures, c.from-2.ensures) at c.find-place.ensures in
    ap at_place grown ∙ sym (next_is a.s a.cumulative c.args.i pre.0 c.args.p pre.1 found)
