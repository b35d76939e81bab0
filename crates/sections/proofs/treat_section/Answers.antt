-- `sections::treat_section` meets its contract: each component is found, flooded, treated and counted, one after the
-- other. Assumes nothing.
use Rattle.std.proofs.Common.{refl, arith}
use Rattle.planes.specs.Shapes.{pixels}
use Rattle.rows.specs.Stretches.{None}
use Rattle.histograms.proofs.Measured.{blank, tally_byte, cleared}
use Rattle.histograms.proofs.Histograms.{gathered_range}
use Rattle.retoning.proofs.Steps.{gathered_some}
use Rattle.sections.proofs.Passing.{treatable, pass_begin, pass_over, size_le, go_on, pass_end}
use Rattle.sections.proofs.Passing.{by_pass, gauged_by_pass, gathered}
use Rattle.sections.proofs.Passing.{alike, listed, at_most_one, take_one}
use Rattle.works.proofs.Works.{same_refl}
use Rattle.sections.proofs.treat_section.Goals as goal

pub returns-then-not-due : goal.returns-then-not-due
returns-then-not-due c = record {
  same = same_refl _;
  done = pass_over c.requires c.if-not-due.true c.none-told.ensures;
}

pub loop-p-init : goal.loop-p-init
loop-p-init c = (rw c.none-told.ensures (pass_begin _ _ _ _ _ _ _ _), blank _ refl refl)

pub treat_found-t-requires : goal.treat_found-t-requires
treat_found-t-requires c =
    let known = treatable c.requires in
    let inv = c.loop-p.invariant.0 in
    let f = rw c.new-grid.ensures at c.in-Some.ensures in
    let flood = rw c.new-grid.ensures at c.flood-c.ensures in
    let reached = go_on known inv _ f.past (omega (arith, f.below)) f.none in
    let F = by_pass c.args.work.now.shape c.args.pass flood.0 in (
      gathered known reached f.below f.has F (gauged_by_pass c.args.work.now.shape c.args.pass flood.1),
      listed known reached f.below f.has F (omega (arith, c.requires.lent.covered, inv.marks_size)),
    )

pub clear-requires : goal.clear-requires
clear-requires c =
    let known = treatable c.requires in
    let f = rw c.new-grid.ensures at c.in-Some.ensures in
    let flood = rw c.new-grid.ensures at c.flood-c.ensures in
    let reached = go_on known c.loop-p.invariant.0 _ f.past (omega (arith, f.below)) f.none in
    let F = by_pass c.args.work.now.shape c.args.pass flood.0 in
    let one = gathered known reached f.below f.has F (gauged_by_pass c.args.work.now.shape c.args.pass flood.1) in
    let byte = tally_byte (gathered_some one) one.measured one.tally in
    ((gathered_range one).order, omega (arith, c.treat_found-t.ensures.counts_rest.size, one.tally.size))

pub add-told-requires : goal.add-told-requires
add-told-requires c =
    let known = treatable c.requires in
    let f = rw c.new-grid.ensures at c.in-Some.ensures in
    let flood = rw c.new-grid.ensures at c.flood-c.ensures in
    let reached = go_on known c.loop-p.invariant.0 _ f.past (omega (arith, f.below)) f.none in
    let F = by_pass c.args.work.now.shape c.args.pass flood.0 in
    let done = c.treat_found-t.ensures.done _ (alike known reached f.below f.has F) in
    let one = at_most_one known reached f.below f.has F done in
    let sums = size_le known reached in
    let few = c.requires.lent.size.few in
    (omega (arith, f.below), (omega (arith, f.below), omega (arith, f.below)))

pub loop-p-preserved : goal.loop-p-preserved
loop-p-preserved c =
    let known = treatable c.requires in
    let f = rw c.new-grid.ensures at c.in-Some.ensures in
    let flood = rw c.new-grid.ensures at c.flood-c.ensures in
    let reached = go_on known c.loop-p.invariant.0 _ f.past (omega (arith, f.below)) f.none in
    let F = by_pass c.args.work.now.shape c.args.pass flood.0 in
    let done = c.treat_found-t.ensures.done _ (alike known reached f.below f.has F) in
    let one = gathered known reached f.below f.has F (gauged_by_pass c.args.work.now.shape c.args.pass flood.1) in (
      rw c.add-told.ensures (take_one known reached f.below f.has F done),
      cleared one.measured one.tally c.treat_found-t.ensures.counts_rest c.clear.ensures,
    )

pub returns : goal.returns
returns c =
    let inv = c.loop-p.invariant.0 in
    let f : None c.loop-p.marks c.args.code c.loop-p.from (pixels c.args.work.now.shape) =
    λ p l h. c.in_default.ensures p l (rw c.new-grid.ensures h) in
    let all = go_on (treatable c.requires) inv (pixels c.args.work.now.shape) inv.swept.order (omega arith) f in
    record {
      same = record { plane = refl; marks = refl; queue = refl; shape = refl };
      done = pass_end (treatable c.requires) all (omega arith) _ refl refl refl refl;
    }
