-- What one pass does to the memory that a run works on. Definitions only.
--
--   Room     there is room for the counts
--   Turned   what one pass does, after those before it
use Rattle.model.specs.declared.Pass.{Pass}
use Rattle.model.specs.declared.Counts.{Counts}
use Rattle.model.specs.Outcomes.{came}
use Rattle.works.specs.declared.Work.{Work}
use Rattle.works.specs.Works.{Same}
use Rattle.passturns.specs.Steps.{further, Countable, StepOutcome}

-- the counts with the pass fit 32 bits
abbrev pub Room : Pass → Counts → Work → Type 0
Room p before s = Countable (further s.shape p (came s.plane.now before))

-- the same memory, in which the run comes to the effect with the pass
pub record Turned (p : Pass) (before : Counts) (s t : Work) (r : Counts) : Type 0 where
  pub same : Same s t
  pub step : StepOutcome s.shape p (came s.plane.now before) s.marks.now s.queue.now r
      t.plane.now t.marks.now t.queue.now
