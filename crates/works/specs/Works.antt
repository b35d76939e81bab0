-- What stays of lent memory. Definitions only.
--
--   Same   the same memory, of the same shape
use Rattle.std.specs.Prelude.{◌≡◌}
use Rattle.works.specs.declared.Work.{Work}

-- the same three slices, with any content, and the shape
pub record Same (s t : Work) : Type 0 where
  pub plane : t.plane.ghost_name ≡ s.plane.ghost_name
  pub marks : t.marks.ghost_name ≡ s.marks.ghost_name
  pub queue : t.queue.ghost_name ≡ s.queue.ghost_name
  pub shape : t.shape ≡ s.shape
