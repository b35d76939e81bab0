-- `conversion::put_converted` meets its contract. The invariant: where the loop began with the head put into a lent
-- output, the first j records are put (`Putting`). Assumes nothing.
use Prim.Native.Nat.{◌≤◌, ◌<◌}
use mathlib.Core.Path.{ap, subst, ◌∙◌}
use native.Mathlib.Omega.{arith}
use lib.ListN.{length}
use Rattle.texts.specs.Placing.{Put}
use Rattle.listformat.specs.declared.Edition.{Edition}
use Rattle.listformat.specs.Format.{other, count_of, encode_head, Bytes}
use Rattle.listformat.proofs.Format.{headed, headed_long}
use Rattle.conversion.proofs.Refusals.{length_converted, convertible, head_sound}
use Rattle.conversion.proofs.Putting.{Putting, putting_none, putting_all, put_same, turn_asks, turn_puts}
use Rattle.conversion.proofs.put_converted.Goals as goal
use Rattle.conversion.proofs.put_converted.Goals.{After-put_head-at}

-- the head is put, when the loop begins
begun : (c : After-put_head-at)
    → Putting c.args.list.now
    c.args.output.now 0
    c.put_head-at.result c.put_head-at.new.output
begun c =
    let list = c.args.list.now in
    let named = c.edition_of-edition.ensures in
    let turned = c.other-target.ensures ∙ ap other named in
    putting_none
    (subst (λ (e : Edition). Put c.args.output.now 0 (encode_head e (count_of list))
    c.put_head-at.result c.put_head-at.new.output) turned c.put_head-at.ensures)

pub edition_of-edition-requires : goal.edition_of-edition-requires
edition_of-edition-requires c = headed_long _ (head_sound _ (convertible _ _ c.requires))

pub count_of-count-requires : goal.count_of-count-requires
count_of-count-requires c = headed_long _ (head_sound _ (convertible _ _ c.requires))

pub put_head-at-requires : goal.put_head-at-requires
put_head-at-requires c =
    let list = c.args.list.now in
    let fine = convertible list (length c.args.output.now) c.requires in
    (omega (arith, fine.room, length_converted list), headed_long list (head_sound list fine))

pub loop-j-init : goal.loop-j-init
loop-j-init c = λ lent fine p. p

pub record_start-i-requires : goal.record_start-i-requires
record_start-i-requires c =
    let head = headed _ (head_sound _ (convertible _ _ c.requires)) in
    let counted = c.count_of-count.ensures in
    omega (arith, c.loop-j-test.true, counted, head.few)

pub put_record-at-requires : goal.put_record-at-requires
put_record-at-requires c =
    let list = c.args.list.now in
    let lent = c.args.output.now in
    let fine = convertible list (length lent) c.requires in
    let named = c.edition_of-edition.ensures in
    let turned = c.other-target.ensures in
    let due : c.loop-j.j < count_of list =
    omega (arith, c.loop-j-test.true, c.count_of-count.ensures) in
    turn_asks fine named turned c.record_start-i.ensures due (c.loop-j.invariant lent fine (begun
    (goal.at.put_record-at-requires c).After-put_head-at))

pub loop-j-preserved : goal.loop-j-preserved
loop-j-preserved c = λ lent fine p.
    let list = c.args.list.now in
    let named = c.edition_of-edition.ensures in
    let turned = c.other-target.ensures in
    let due : c.loop-j.j < count_of list =
    omega (arith, c.loop-j-test.true, c.count_of-count.ensures) in
    let bytes : Bytes list = record { each = λ i. omega (arith, c.type_inv.list i) } in
    turn_puts fine named turned c.record_start-i.ensures due (c.loop-j.invariant lent fine p) bytes
    c.put_record-at.ensures

pub shape_of-output : goal.shape_of-output
shape_of-output c =
    let fine = convertible c.args.list.now (length c.args.output.now) c.requires in
    put_same fine (c.loop-j.invariant c.args.output.now fine (begun (goal.at.shape_of-output c).After-put_head-at))

pub returns : goal.returns
returns c =
    let list = c.args.list.now in
    let fine = convertible list (length c.args.output.now) c.requires in
    let over : count_of list ≤ c.loop-j.j =
    omega (arith, c.loop-j-test.false, c.count_of-count.ensures) in
    putting_all (c.loop-j.invariant c.args.output.now fine (begun (goal.at.returns c).After-put_head-at)) over
