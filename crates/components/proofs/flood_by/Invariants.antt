-- `components::flood_by` meets its contract. The loop's invariant is `Going`, with what the front knows. The measure is
-- what the head has left of the queue. Assumes nothing.
use Rattle.std.proofs.Common.{◌-◌, length}
use Rattle.components.proofs.Turns.{Going}
use Rattle.components.proofs.flood_by.Given as goal

abbrev pub invariant-loop-seen : goal.invariant-loop-seen
invariant-loop-seen g l =
    Going (g.F.Spreads.near l.grid.shape) l.grid.shape l.code l.start l.plane l.fn.marks l.fn.queue l.marks l.queue
    l.counts l.seen (g.F.Spreads.end l.front)
    × g.F.Spreads.knows l.front l.grid.shape l.code l.marks

abbrev pub decreases-loop-seen : goal.decreases-loop-seen
decreases-loop-seen g l = length l.queue - l.seen.size
