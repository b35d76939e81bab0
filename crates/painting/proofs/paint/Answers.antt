-- `painting::paint` meets its contract. Assumes nothing.
use Rattle.std.proofs.Common.{ap, arith, length-take-le, ◌<◌}
use Rattle.std.proofs.lemmas.List.{get_or-take}
use Rattle.planes.specs.Lists.{at}
use Rattle.painting.proofs.Painting.{painted_more}
use Rattle.painting.proofs.paint.Goals as goal

pub loop-place-preserved : goal.loop-place-preserved
loop-place-preserved c =
    let i = c.loop-place.place-index in
    let listed = c.requires.0 in
    let due : i < c.args.m = omega (arith, length-take-le c.args.m c.args.queue.now, listed.pixels.room) in
    let here = get_or-take c.args.m c.args.queue.now i 0 due in
    rw here
    (painted_more c.loop-place.invariant (listed.pixels.below i due) (listed.marked i due)
    (λ j h. c.requires.1 j i h due) (ap (at c.args.table.now) (rw here at c.from.ensures)) c.next_mark.ensures)
