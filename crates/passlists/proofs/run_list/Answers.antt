-- `passlists::run_list` meets its contract: refused with the first number that applies and nothing changed, or run.
-- Assumes nothing.
use Rattle.std.proofs.Common.{sym, rules}
use Rattle.planes.proofs.Refusals.{▷_none}
use Rattle.planes.proofs.Shapes.{lent_fits}
use Rattle.model.proofs.Outcomes.{refused_on, done_by}
use Rattle.passes.proofs.Calls.{handed_back}
use Rattle.passlists.proofs.run_list.Goals as goal

pub returns-in_err-list_refusal : goal.returns-in_err-list_refusal
returns-in_err-list_refusal c =
    refused_on c.from_residual.result _ c.from_residual.ensures.1 c.in_err-list_refusal.ensures

pub invariant_of-work : goal.invariant_of-work
invariant_of-work c = record { lent = lent_fits _ _ _ _ (▷_none _ _ (sym c.in_ok-list_refusal.ensures)).0 }

pub run_records-requires : goal.run_records-requires
run_records-requires c = (▷_none _ _ (sym c.in_ok-list_refusal.ensures)).1

pub returns : goal.returns
returns c =
    handed_back (search rules) (search rules) (search rules)
    (done_by (sym c.in_ok-list_refusal.ensures) c.run_records.ensures.over)
