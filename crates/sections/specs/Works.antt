-- Sections in the memory that a run works on. Definitions only.
--
--   SectionIn   what the treatment of a section requires
--   TreatsIn    what it does
use Rattle.std.specs.Prelude.{ℕ, Bool}
use Rattle.planes.specs.Shapes.{pixels}
use Rattle.model.specs.declared.Pass.{Pass}
use Rattle.model.specs.Neighbourhoods.{pass_neighbours}
use Rattle.painting.specs.declared.Next.{Next}
use Rattle.retoning.specs.declared.Treatment.{Treatment}
use Rattle.works.specs.declared.Work.{Work}
use Rattle.works.specs.Works.{Same}
use Rattle.sections.specs.Sections.{Section, Treats}

abbrev pub SectionIn : Work → ℕ → Bool → Pass → Next → Type 0
SectionIn s code due p t = Section s.plane.now s.marks.now s.queue.now s.shape code due p t

-- the same memory, in which the section has been treated
pub record TreatsIn (code : ℕ) (p : Pass) (t : Next) (s u : Work) (r : Treatment) : Type 0 where
  pub same : Same s u
  pub done : Treats (pass_neighbours s.shape p) (pixels s.shape) code p t s.plane.now s.marks.now s.queue.now
      u.plane.now u.marks.now u.queue.now r
