-- `affine::fill_lines` meets its contract: each line is that of the whole, and the last point is at the greatest value.
-- Assumes nothing.
use Rattle.std.proofs.Common.{◌≡◌, ℕ, max, ap, sym, ◌∙◌, arith}
use Rattle.planes.specs.Lists.{at}
use Rattle.histograms.specs.Values.{scaled}
use Rattle.histograms.proofs.Scaled.{scaled_all}
use Rattle.histograms.proofs.Stores.{refilled_more}
use Rattle.points.specs.declared.Point.{Point}
use Rattle.points.specs.Points.{start}
use Rattle.affine.specs.Affine.{joined}
use Rattle.points.proofs.Points.{reached_end}
use Rattle.points.proofs.Ahead.{end_top, Next, next_of}
use Rattle.affine.proofs.Lines.{onward_next, onward_line, end_tone, filled_next}
use Rattle.affine.proofs.fill_lines.Goals as goal
use Rattle.affine.proofs.fill_lines.Goals.{After-next_point-q}

next : (c : After-next_point-q) →
    let a = c.args.curve in
    Next a.s a.sums.now a.c a.a a.b c.loop-i.i c.loop-i.p c.next_point-q.result
next c =
    let inv = c.loop-i.invariant in
    next_of c.args.curve.cumulative (omega arith) inv.reached inv.ahead c.next_point-q.ensures

pub fill_line-requires : goal.fill_line-requires
fill_line-requires c =
    let pre = c.requires in
    let range = c.args.curve.cumulative.range in
    let q = next (goal.at.fill_line-requires c).After-next_point-q in (
      ((omega (arith, range.from, range.order, range.to), omega arith), omega (arith, q.reached.to)),
      ((q.higher, omega (arith, q.top, pre.1)), pre.0.1),
    )

pub loop-i-preserved : goal.loop-i-preserved
loop-i-preserved c =
    let a = c.args.curve in
    let i = c.loop-i.i in
    let inv = c.loop-i.invariant in
    let q = next (goal.at.loop-i-preserved c).After-next_point-q in
    let sums = at a.sums.now in
    let is = c.next_point-q.ensures in
    let onward = onward_next a.s a.a a.b c.args.y sums a.c.size i c.loop-i.p _ is inv.onward q.after in
    let line = onward_line a.s a.a a.b c.args.y sums a.c.size i c.loop-i.p _ is inv.onward (omega arith) in
    let filled = rw (c.max.ensures, c.from-least.ensures) at c.fill_line.ensures in
    record {
      reached = q.reached;
      ahead = q.ahead;
      onward = onward;
      filled = filled_next inv.filled filled q.after line;
    }

pub returns : goal.returns
returns c =
    let a = c.args.curve in
    let pre = c.requires in
    let inv = c.loop-i.invariant in
    let range = c.args.curve.cumulative.range in
    let p = c.loop-i.p in
    let sums : ℕ → ℕ = at a.sums.now in
    let all : c.loop-i.i ≡ a.s.segments = omega arith in
    let end = reached_end a.s a.cumulative pre.0.0 (rw all at inv.reached) in
    let last : p.height ≡ c.args.y =
    ap (λ (q : Point). q.height) (end_top a.s a.a a.b sums a.c.size p (rw all at inv.ahead)) ∙ sym pre.1 in
    let tone : a.b ≡ joined a.a a.b c.args.y (start a.a) _ a.c.greatest =
    sym (scaled_all a.a a.b c.args.y (omega (arith, range.from, range.order, range.to)) pre.0.1.0)
    ∙ sym (ap (λ (h : ℕ). scaled a.a a.b h c.args.y) last)
    ∙ end_tone a.s a.a a.b c.args.y sums a.c.size p (rw all at inv.onward) a.c.greatest (omega arith) in
    let up_to : max a.c.least p.place ≡ a.c.greatest = omega (arith, end, range.order) in
    rw c.from.ensures (refilled_more (rw up_to at inv.filled) range.order (omega arith) tone)
