-- `passes::treat` meets its contract: the section is marked with 1 and treated. Assumes nothing.
use mathlib.Core.Path.{subst}
use native.Mathlib.Omega.{arith}
use Rattle.model.specs.Neighbourhoods.{pass_neighbours}
use Rattle.painting.specs.Painting.{Marked}
use Rattle.sections.proofs.Marked.{marked_section}
use Rattle.passes.proofs.Calls.{over}
use Rattle.passes.proofs.treat.Goals as goal

pub treat_section-t-requires : goal.treat_section-t-requires
treat_section-t-requires c =
    let w = c.args.work.now in
    let M = subst (Marked c.args.pass w.plane.now w.marks.now _) c.pixels-n.ensures c.mark_section.ensures in
    marked_section w.lent c.requires M ((λ e. absurd (omega arith)), (λ e. absurd (omega arith)))

pub returns : goal.returns
returns c =
    let w = c.args.work.now in
    let S = c.treat_section-t.ensures.same in
    let M = subst (Marked c.args.pass w.plane.now w.marks.now _) c.pixels-n.ensures c.mark_section.ensures in
    record {
      same = record { plane = S.plane; marks = S.marks; queue = S.queue; shape = S.shape };
      over = over (pass_neighbours w.shape) M c.treat_section-t.ensures.done.treated;
    }
