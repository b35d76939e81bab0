-- The steps of a list's run. What a run has come to is an effect: the plane that it has left, and what it has counted.
-- Definitions only.
--
--   further      what a run comes to with one more pass
--   Countable    the counts fit 32 bits
--   StepReady    what one pass requires
--   StepOutcome  what it does
--   Runnable     what all passes require
use Rattle.std.specs.Prelude.{ℕ, ◌≤◌, ◌<◌, ◌≡◌, List, length}
use Rattle.planes.specs.Lists.{Beyond}
use Rattle.planes.specs.Shapes.{pixels, Lent}
use Rattle.planes.specs.declared.Shape.{Shape}
use Rattle.model.specs.declared.Pass.{Pass}
use Rattle.model.specs.declared.Counts.{Counts}
use Rattle.model.specs.Neighbourhoods.{pass_neighbours}
use Rattle.model.specs.Effects.{Effect, then, pass_effect}
use Rattle.model.specs.Outcomes.{came}
use Rattle.listchecks.specs.Refusals.{passes_refusal}

abbrev pub further : Shape → Pass → Effect → Effect
further z p e = then e (pass_effect (pass_neighbours z) p e.plane)

-- the counts fit 32 bits
abbrev pub Countable : Effect → Type 0
Countable e = (e.retoned < 4294967296) × (e.kept < 4294967296)

-- ## One pass, and all of them

-- the memory is lent, the interval is in order, and there is room for the counts
pub record StepReady (z : Shape) (p : Pass) (e : Effect) (marks queue : List ℕ) : Type 0 where
  pub lent : Lent z (length e.plane) (length marks) (length queue)
  pub order : p.a ≤ p.b
  pub room : Countable (further z p e)

-- the run comes to the effect with the pass; marks and queue keep all entries from n on
pub record StepOutcome (z : Shape) (p : Pass) (e : Effect) (marks queue : List ℕ) (r : Counts)
    (plane' marks' queue' : List ℕ) : Type 0 where
  pub effect_is : came plane' r ≡ further z p e
  pub marks_rest : Beyond (pixels z) marks marks'
  pub queue_rest : Beyond (pixels z) queue queue'

-- the memory is lent, and the passes are not refused
pub record Runnable (z : Shape) (ss : List Pass) (plane marks queue : List ℕ) : Type 0 where
  pub lent : Lent z (length plane) (length marks) (length queue)
  pub fine : passes_refusal ss ≡ 0
