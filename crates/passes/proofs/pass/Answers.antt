-- `passes::pass` meets its contract: refused with the first number that applies and nothing changed, or treated.
-- Assumes nothing.
use Rattle.std.proofs.Common.{sym, rules}
use Rattle.model.proofs.Outcomes.{refused_on, done_by}
use Rattle.model.proofs.Chains.{accepted, ordered}
use Rattle.passes.proofs.Calls.{handed_back}
use Rattle.passes.proofs.pass.Goals as goal

pub returns-in_err-refusal_of : goal.returns-in_err-refusal_of
returns-in_err-refusal_of c =
    refused_on c.from_residual.result _ c.from_residual.ensures.1 c.in_err-refusal_of.ensures

pub invariant_of-work : goal.invariant_of-work
invariant_of-work c = record { lent = (accepted _ _ _ (sym c.in_ok-refusal_of.ensures)).0 }

pub treat-requires : goal.treat-requires
treat-requires c = ordered _ (accepted _ _ _ (sym c.in_ok-refusal_of.ensures)).1

pub returns : goal.returns
returns c =
    handed_back (search rules) (search rules) (search rules)
    (done_by (sym c.in_ok-refusal_of.ensures) c.treat.ensures.over)
