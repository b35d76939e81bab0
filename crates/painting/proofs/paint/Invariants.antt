-- `painting::paint` meets its contract. The invariant: the queue's first pixels have their values and next marks, and
-- the flags tell of their sides. Assumes nothing.
use Rattle.planes.specs.Lists.{at}
use Rattle.painting.specs.Painting.{Painted}
use Rattle.painting.proofs.paint.Given as goal

abbrev pub invariant-loop-place : goal.invariant-loop-place
invariant-loop-place l =
    Painted (at l.table) l.next l.initial.plane l.initial.marks l.queue l.plane l.marks l.place-index l.sides
