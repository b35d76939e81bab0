-- `passlists::run_passes` meets its contract: refused with the first number that applies and nothing changed, or run.
-- Assumes nothing.
use Rattle.std.proofs.Common.{sym, rules}
use Rattle.planes.proofs.Refusals.{refused_first, passed_first}
use Rattle.planes.proofs.Shapes.{lent_fits}
use Rattle.model.proofs.Outcomes.{refused_on, done_by}
use Rattle.passes.proofs.Calls.{handed_back}
use Rattle.passlists.proofs.run_passes.Goals as goal

pub returns-in_err-lent_refusal : goal.returns-in_err-lent_refusal
returns-in_err-lent_refusal c =
    refused_on c.from_residual.result _ c.from_residual.ensures.1
    (refused_first _ _ _ c.in_err-lent_refusal.ensures)

pub returns-in_err-passes_refusal : goal.returns-in_err-passes_refusal
returns-in_err-passes_refusal c =
    let r = c.from_residual-in_err-passes_refusal in
    refused_on r.result _ r.ensures.1
    (passed_first _ _ _ c.in_ok-lent_refusal.ensures c.in_err-passes_refusal.ensures)

pub invariant_of-work : goal.invariant_of-work
invariant_of-work c = record { lent = lent_fits _ _ _ _ (sym c.in_ok-lent_refusal.ensures) }

pub run_each-requires : goal.run_each-requires
run_each-requires c = sym c.in_ok-passes_refusal.ensures

pub returns : goal.returns
returns c =
    handed_back (search rules) (search rules) (search rules)
    (done_by (sym (passed_first _ _ _ c.in_ok-lent_refusal.ensures c.in_ok-passes_refusal.ensures))
    c.run_each.ensures.over)
