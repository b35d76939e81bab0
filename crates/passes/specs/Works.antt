-- Runs over the memory that they work on. Definitions only.
--
--   Ran   what a run does
use Rattle.planes.specs.Shapes.{pixels}
use Rattle.model.specs.declared.Counts.{Counts}
use Rattle.model.specs.Effects.{Effect}
use Rattle.model.specs.Outcomes.{Over}
use Rattle.works.specs.declared.Work.{Work}
use Rattle.works.specs.Works.{Same}

-- the same memory, in which the run had its effect
pub record Ran (e : Effect) (s t : Work) (r : Counts) : Type 0 where
  pub same : Same s t
  pub over : Over (pixels s.shape) e s.marks.now s.queue.now t.plane.now t.marks.now t.queue.now r
