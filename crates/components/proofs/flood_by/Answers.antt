-- `components::flood_by` meets its contract, whatever the front: it begins with the run of `start`, a turn takes what
-- is next to the pixel at the head and sees its value, and when the queue is done, the component was taken. Assumes
-- nothing.
use Rattle.std.proofs.Common.{◌<◌, arith}
use Rattle.planes.specs.Lists.{at}
use Rattle.components.proofs.Flooding.{may_begin, flood_begin}
use Rattle.components.proofs.Turns.{going_none, spreadable, may_see, going_on, flooded}
use Rattle.components.proofs.flood_by.Goals as goal

pub reach-tail-requires : goal.reach-tail-requires
reach-tail-requires g c = may_begin c.args.grid.size c.requires.0

pub loop-seen-init : goal.loop-seen-init
loop-seen-init g c =
    let size = c.args.grid.size in
    let rows = g.met.F.Spreads.rows c.args.grid.shape size.wide in
    let begun = flood_begin size c.requires.0 rows c.reach-tail.ensures in (
      rw c.begin-front.ensures.is_end (going_none c.args.plane.now c.requires.1.1 begun),
      c.begin-front.ensures.known _ _ _ (omega arith),
    )

pub spread-front-requires : goal.spread-front-requires
spread-front-requires g c =
    let due = rw c.tail.ensures at c.loop-seen-test.true in
    (spreadable c.loop-seen.invariant.0.flooding due, c.loop-seen.invariant.1)

pub see-seen-requires : goal.see-seen-requires
see-seen-requires g c =
    let due = rw c.tail.ensures at c.loop-seen-test.true in
    let going = c.loop-seen.invariant.0 in
    may_see going.flooding due c.args.plane.now c.loop-seen.counts _ _ c.requires.1.0 going.gauging

pub loop-seen-preserved : goal.loop-seen-preserved
loop-seen-preserved g c =
    let due = rw c.tail.ensures at c.loop-seen-test.true in
    let byte : at c.args.plane.now (at c.loop-seen.queue c.loop-seen.seen.size) < 256 =
    omega (arith, c.type_inv.plane (at c.loop-seen.queue c.loop-seen.seen.size)) in (
      going_on c.loop-seen.invariant.0 due byte c.spread-front.ensures.0 c.see-seen.ensures (omega arith),
      c.spread-front.ensures.1,
    )

pub returns : goal.returns
returns g c =
    let last = rw c.tail.ensures at c.loop-seen-test.false in
    let going = c.loop-seen.invariant.0 in
    flooded c.requires.0 c.loop-seen.seen going.flooding last c.args.plane.now going.gauging
