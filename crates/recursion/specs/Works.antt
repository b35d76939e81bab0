-- The recursion in the memory that a run works on. Definitions only.
--
--   RecursionIn   what `run_levels` does
use Rattle.model.specs.declared.Counts.{Counts}
use Rattle.levels.specs.declared.Settings.{Settings}
use Rattle.works.specs.declared.Work.{Work}
use Rattle.works.specs.Works.{Same}
use Rattle.recursion.specs.Recursion.{RecursionOutcome}

-- the same memory, in which the recursion has run
pub record RecursionIn (t : Settings) (s u : Work) (r : Counts) : Type 0 where
  pub same : Same s u
  pub done : RecursionOutcome s.shape t s.plane.now s.marks.now s.queue.now u.plane.now u.marks.now u.queue.now r
