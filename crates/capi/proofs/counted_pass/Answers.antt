-- `capi::counted_pass` meets its contract: refused with the first number that applies and nothing changed, or as the
-- call. Assumes nothing.
use Rattle.std.proofs.Common.{ap, subst, ◌∙◌}
use Rattle.planes.proofs.Refusals.{refused_first, passed_first}
use Rattle.tones.specs.Numbers.{form_refusal}
use Rattle.model.specs.declared.Pass.{Pass}
use Rattle.model.specs.Calls.{numbers_refusal, pass_refusal}
use Rattle.model.specs.Outcomes.{answer_reply}
use Rattle.model.proofs.Outcomes.{refused_on, outcome_number}
use Rattle.passes.specs.Calls.{PassOutcome}
use Rattle.capi.specs.Calls.{pass_refusal_of}
use Rattle.capi.proofs.Calls.{pass_made, clear_call}
use Rattle.capi.proofs.counted_pass.Goals as goal

pub returns-in_err-lent_refusal : goal.returns-in_err-lent_refusal
unfolding pass_refusal_of
returns-in_err-lent_refusal c =
    refused_on c.from_residual.result _ c.from_residual.ensures.1
    (refused_first _ _ _ c.in_err-lent_refusal.ensures)

pub returns-in_err-try_from : goal.returns-in_err-try_from
unfolding pass_refusal_of
returns-in_err-try_from c =
    let r = c.from_residual-in_err-try_from in
    refused_on r.result _ r.ensures.1
    (passed_first _ _ _ c.in_ok-lent_refusal.ensures
    (refused_first _ _ _ (c.in_err-try_from.ensures.0 ∙ ap form_refusal c.rule_numbers.ensures)))

pub returns-in_err-pass_refusal : goal.returns-in_err-pass_refusal
unfolding pass_refusal_of
returns-in_err-pass_refusal c =
    let r = c.from_residual-in_err-pass_refusal in
    let a = c.args in
    let read = c.in_ok-try_from.ensures in
    let made = pass_made a.rule.now c.rule_numbers.ensures read.1 c.neighbour_number.ensures a.a a.b a.area in
    refused_on r.result _ r.ensures.1
    (passed_first _ _ _ c.in_ok-lent_refusal.ensures
    (passed_first _ _ _ (read.0 ∙ ap form_refusal c.rule_numbers.ensures)
    (refused_first _ _ _ (c.in_err-pass_refusal.ensures ∙ ap numbers_refusal made))))

pub returns-in_err-counts_refusal : goal.returns-in_err-counts_refusal
unfolding pass_refusal_of
returns-in_err-counts_refusal c =
    let r = c.from_residual-in_err-counts_refusal in
    let a = c.args in
    let read = c.in_ok-try_from.ensures in
    let made = pass_made a.rule.now c.rule_numbers.ensures read.1 c.neighbour_number.ensures a.a a.b a.area in
    refused_on r.result _ r.ensures.1
    (passed_first _ _ _ c.in_ok-lent_refusal.ensures
    (passed_first _ _ _ (read.0 ∙ ap form_refusal c.rule_numbers.ensures)
    (passed_first _ _ _ (c.in_ok-pass_refusal.ensures ∙ ap numbers_refusal made) c.in_err-counts_refusal.ensures)))

pub returns : goal.returns
unfolding pass_refusal_of pass_refusal
returns c =
    let a = c.args in
    let read = c.in_ok-try_from.ensures in
    let made = pass_made a.rule.now c.rule_numbers.ensures read.1 c.neighbour_number.ensures a.a a.b a.area in
    let formed = read.0 ∙ ap form_refusal c.rule_numbers.ensures in
    let sound = c.in_ok-pass_refusal.ensures ∙ ap numbers_refusal made in
    outcome_number (clear_call formed sound c.in_ok-counts_refusal.ensures _ c.in_ok-lent_refusal.ensures)
    (subst (λ (s : Pass). PassOutcome a.shape s a.plane.now a.marks.now a.queue.now (answer_reply c.pass.result)
    c.pass.new.plane c.pass.new.marks c.pass.new.queue) made c.pass.ensures)
