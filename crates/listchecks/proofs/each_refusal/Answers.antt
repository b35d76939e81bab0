-- `listchecks::each_refusal` meets its contract: the refusals are looked for along the list of them. Assumes nothing.
use Rattle.std.proofs.Common.{sym, ◌∙◌, arith}
use Rattle.listchecks.proofs.First.{clear_more, clear_err, clear_all}
use Rattle.listchecks.proofs.Refusals.{records_length, records_at}
use Rattle.listchecks.proofs.each_refusal.Goals as goal

pub returns-in_err-record_refusal : goal.returns-in_err-record_refusal
returns-in_err-record_refusal c =
    clear_err c.from_residual.result _ c.from_residual.ensures.1 c.loop-j.invariant
    (omega (arith, records_length c.args.list.now))
    (c.in_err-record_refusal.ensures ∙ sym (records_at c.args.list.now c.loop-j.j (omega arith)))

pub loop-j-preserved : goal.loop-j-preserved
loop-j-preserved c =
    clear_more c.loop-j.invariant (omega (arith, records_length c.args.list.now))
    (records_at c.args.list.now c.loop-j.j (omega arith) ∙ sym c.in_ok-record_refusal.ensures)

pub returns : goal.returns
returns c = clear_all c.loop-j.invariant (omega (arith, records_length c.args.list.now))
