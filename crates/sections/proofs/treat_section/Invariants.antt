-- `sections::treat_section`: the components with a pixel before `from` are retoned and counted, and have their next
-- marks (`Passing`). The measure is what is left of the plane. Assumes nothing.
use Rattle.std.proofs.Common.{◌-◌, []}
use Rattle.planes.specs.Shapes.{pixels}
use Rattle.histograms.specs.Histograms.{Tally}
use Rattle.model.specs.Neighbourhoods.{pass_neighbours}
use Rattle.sections.proofs.Passing.{Passing}
use Rattle.sections.proofs.treat_section.Given as goal

abbrev pub invariant-loop-p : goal.invariant-loop-p
invariant-loop-p l =
    Passing (pass_neighbours l.fn.work.shape l.pass) (pixels l.fn.work.shape) l.code l.pass l.next
    l.fn.work.plane.now l.fn.work.marks.now l.fn.work.queue.now l.plane l.marks l.queue l.from l.told
    × Tally [] l.counts

abbrev pub decreases-loop-p : goal.decreases-loop-p
decreases-loop-p l = pixels l.fn.work.shape - l.from
