-- `conversion::convert_refusal` meets its contract: what the callees answer, in order. Assumes nothing.
use Rattle.std.proofs.Common.{sym, ap, ◌∙◌, arith}
use Rattle.listformat.specs.Format.{other}
use Rattle.listformat.proofs.Format.{headed, headed_long}
use Rattle.conversion.proofs.Refusals.{refused_head, refused_record, refused_room}
use Rattle.conversion.proofs.convert_refusal.Goals as goal

pub returns-in_err-head_refusal : goal.returns-in_err-head_refusal
returns-in_err-head_refusal c =
    refused_head _ _ c.from_residual.result _ c.from_residual.ensures.1 c.in_err-head_refusal.ensures

pub edition_of-requires : goal.edition_of-requires
edition_of-requires c = headed_long _ (sym c.in_ok-head_refusal.ensures)

pub records_refusal-requires : goal.records_refusal-requires
records_refusal-requires c = sym c.in_ok-head_refusal.ensures

pub returns-in_err-records_refusal : goal.returns-in_err-records_refusal
returns-in_err-records_refusal c =
    let r = c.from_residual-in_err-records_refusal in
    refused_record _ _ c.in_ok-head_refusal.ensures (c.other-edition.ensures ∙ ap other c.edition_of.ensures)
    r.result _ r.ensures.1 c.in_err-records_refusal.ensures

pub count_of-requires : goal.count_of-requires
count_of-requires c = headed_long _ (sym c.in_ok-head_refusal.ensures)

pub record_start-needed-requires : goal.record_start-needed-requires
record_start-needed-requires c =
    let head = headed _ (sym c.in_ok-head_refusal.ensures) in
    omega (arith, c.count_of.ensures, head.few)

pub returns : goal.returns
returns c =
    refused_room _ _ c.in_ok-head_refusal.ensures (c.other-edition.ensures ∙ ap other c.edition_of.ensures)
    c.in_ok-records_refusal.ensures c.record_start-needed.ensures c.count_of.ensures c.output_refusal.ensures
