-- `passlists::run_each` meets its contract: it runs along the passes. A pass that is read is the same whatever stands
-- for one past the end. Assumes nothing.
use Rattle.std.proofs.lemmas.List.{get_or_default}
use Rattle.passlists.proofs.Runs.{going_none, going_asks, going_step, going_all}
use Rattle.passlists.proofs.run_each.Goals as goal

pub loop-pass-init : goal.loop-pass-init
loop-pass-init c = going_none

pub step-counts-requires : goal.step-counts-requires
step-counts-requires c =
    let due = c.loop-pass-test.true in
    going_asks c.loop-pass.invariant (get_or_default c.args.passes.now _ _ _ due) due c.requires

pub loop-pass-preserved : goal.loop-pass-preserved
loop-pass-preserved c =
    let due = c.loop-pass-test.true in
    going_step c.loop-pass.invariant (get_or_default c.args.passes.now _ _ _ due) due c.step-counts.ensures

pub returns : goal.returns
returns c = going_all c.loop-pass.invariant c.loop-pass-test.false
