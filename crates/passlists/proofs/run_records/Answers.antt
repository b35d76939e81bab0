-- `passlists::run_records` meets its contract: it runs along the list's passes. Assumes nothing.
use Rattle.std.proofs.Common.{◌<◌, sym, ◌∙◌, arith}
use Rattle.listformat.specs.Format.{count_of}
use Rattle.listformat.proofs.Format.{headed_long, length_passes_of, passes_of_at}
use Rattle.passlists.proofs.Refusals.{list_head, list_runs}
use Rattle.passlists.proofs.Runs.{going_none, going_asks, going_step, going_all}
use Rattle.passlists.proofs.run_records.Goals as goal

pub count_of-j-end-requires : goal.count_of-j-end-requires
count_of-j-end-requires c = headed_long _ (list_head _ c.requires)

pub loop-j-init : goal.loop-j-init
loop-j-init c = going_none

pub pass_of-pass-requires : goal.pass_of-pass-requires
pass_of-pass-requires c = (list_head _ c.requires, omega arith)

pub step-counts-requires : goal.step-counts-requires
step-counts-requires c =
    let list = c.args.list.now in
    let due : c.loop-j.j < count_of list = omega arith in
    going_asks c.loop-j.invariant (c.pass_of-pass.ensures ∙ sym (passes_of_at list c.loop-j.j due))
    (omega (arith, length_passes_of list)) (list_runs _ c.requires)

pub loop-j-preserved : goal.loop-j-preserved
loop-j-preserved c =
    let list = c.args.list.now in
    let due : c.loop-j.j < count_of list = omega arith in
    going_step c.loop-j.invariant (c.pass_of-pass.ensures ∙ sym (passes_of_at list c.loop-j.j due))
    (omega (arith, length_passes_of list)) c.step-counts.ensures

pub returns : goal.returns
returns c = going_all c.loop-j.invariant (omega (arith, length_passes_of c.args.list.now))
