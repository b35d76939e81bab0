-- `capi::counted_enhancement` meets its contract: refused with the first number that applies and nothing changed, or as
-- the call. Assumes nothing.
use Rattle.std.proofs.Common.{ap, subst, ◌∙◌}
use Rattle.planes.proofs.Refusals.{refused_first, passed_first}
use Rattle.tones.specs.Numbers.{form_refusal}
use Rattle.model.specs.Outcomes.{answer_reply}
use Rattle.model.proofs.Outcomes.{output_refused_on, output_number}
use Rattle.levels.specs.declared.Settings.{Settings}
use Rattle.enhance.specs.Calls.{settings_refusal, enhance_refusal, EnhanceOutcome}
use Rattle.capi.specs.Calls.{enhance_refusal_of}
use Rattle.capi.proofs.Calls.{settings_made, clear_call}
use Rattle.capi.proofs.counted_enhancement.Goals as goal

pub returns-in_err-memory_refusal : goal.returns-in_err-memory_refusal
unfolding enhance_refusal_of
returns-in_err-memory_refusal c =
    output_refused_on c.from_residual.result _ c.from_residual.ensures.1
    (refused_first _ _ _ c.in_err-memory_refusal.ensures)

pub returns-in_err-try_from : goal.returns-in_err-try_from
unfolding enhance_refusal_of
returns-in_err-try_from c =
    let r = c.from_residual-in_err-try_from in
    output_refused_on r.result _ r.ensures.1
    (passed_first _ _ _ c.in_ok-memory_refusal.ensures
    (refused_first _ _ _ (c.in_err-try_from.ensures.0 ∙ ap form_refusal c.rule_numbers.ensures)))

pub returns-in_err-settings_refusal : goal.returns-in_err-settings_refusal
unfolding enhance_refusal_of
returns-in_err-settings_refusal c =
    let r = c.from_residual-in_err-settings_refusal in
    let a = c.args in
    let read = c.in_ok-try_from.ensures in
    let made = settings_made a.rule.now c.rule_numbers.ensures read.1 c.neighbour_number.ensures a.last a.area in
    output_refused_on r.result _ r.ensures.1
    (passed_first _ _ _ c.in_ok-memory_refusal.ensures
    (passed_first _ _ _ (read.0 ∙ ap form_refusal c.rule_numbers.ensures)
    (refused_first _ _ _ (c.in_err-settings_refusal.ensures ∙ ap settings_refusal made))))

pub returns-in_err-counts_refusal : goal.returns-in_err-counts_refusal
unfolding enhance_refusal_of
returns-in_err-counts_refusal c =
    let r = c.from_residual-in_err-counts_refusal in
    let a = c.args in
    let read = c.in_ok-try_from.ensures in
    let made = settings_made a.rule.now c.rule_numbers.ensures read.1 c.neighbour_number.ensures a.last a.area in
    output_refused_on r.result _ r.ensures.1
    (passed_first _ _ _ c.in_ok-memory_refusal.ensures
    (passed_first _ _ _ (read.0 ∙ ap form_refusal c.rule_numbers.ensures)
    (passed_first _ _ _ (c.in_ok-settings_refusal.ensures ∙ ap settings_refusal made)
    c.in_err-counts_refusal.ensures)))

pub returns : goal.returns
unfolding enhance_refusal_of enhance_refusal
returns c =
    let a = c.args in
    let read = c.in_ok-try_from.ensures in
    let made = settings_made a.rule.now c.rule_numbers.ensures read.1 c.neighbour_number.ensures a.last a.area in
    let formed = read.0 ∙ ap form_refusal c.rule_numbers.ensures in
    let sound = c.in_ok-settings_refusal.ensures ∙ ap settings_refusal made in
    output_number (clear_call formed sound c.in_ok-counts_refusal.ensures _ c.in_ok-memory_refusal.ensures)
    (subst (λ (t : Settings). EnhanceOutcome a.shape t a.frame.now a.plane.now a.marks.now a.queue.now a.output.now
    (answer_reply c.enhance.result) c.enhance.new.plane c.enhance.new.marks c.enhance.new.queue c.enhance.new.output)
    made c.enhance.ensures)
