-- `listchecks::passes_refusal` meets its contract: the refusals are looked for along the list of them. Assumes nothing.
use Rattle.std.proofs.Common.{sym, ◌∙◌, arith}
use borrow.Author.Tests.{le-ltb}
use Rattle.listchecks.proofs.First.{clear_more, clear_err}
use Rattle.listchecks.proofs.Refusals.{passes_at, passes_length}
use Rattle.listchecks.specs.Refusals.{passes_refusal}
use Rattle.listchecks.proofs.passes_refusal.Goals as goal

pub returns-in_err-pass_refusal : goal.returns-in_err-pass_refusal
unfolding passes_refusal
returns-in_err-pass_refusal c =
    let passes = c.args.passes.now in
    simp (le-ltb _ _ c.if-passes-gt-COUNT.false)
    (clear_err c.from_residual.result _ c.from_residual.ensures.1 c.loop-pass.invariant
    (omega (arith, passes_length passes))
    (c.in_err-pass_refusal.ensures ∙ sym (passes_at passes _ _ c.loop-pass-test.true)))

pub loop-pass-preserved : goal.loop-pass-preserved
loop-pass-preserved c =
    let passes = c.args.passes.now in
    clear_more c.loop-pass.invariant (omega (arith, passes_length passes))
    (passes_at passes _ _ c.loop-pass-test.true ∙ sym c.in_ok-pass_refusal.ensures)
