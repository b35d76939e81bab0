-- `listchecks::places_refusal` meets its contract: the refusals are looked for along the list of them. Assumes nothing.
use Rattle.std.proofs.Common.{◌<◌, sym, ap, ◌∙◌, arith}
use Rattle.listformat.specs.Format.{count_of}
use Rattle.listchecks.specs.Refusals.{place_refusal, places_refusal}
use Rattle.listchecks.proofs.First.{clear_more, clear_err, clear_all}
use Rattle.listchecks.proofs.Refusals.{places_length, places_at}
use Rattle.listchecks.proofs.places_refusal.Goals as goal

pub returns-in_err-place_refusal : goal.returns-in_err-place_refusal
unfolding places_refusal
returns-in_err-place_refusal c =
    let args = c.args in
    let due : c.loop-j.j < count_of args.list.now = omega arith in
    clear_err c.from_residual.result _ c.from_residual.ensures.1 c.loop-j.invariant
    (omega (arith, places_length args.edition args.list.now))
    (c.in_err-place_refusal.ensures ∙ ap (place_refusal args.edition) c.pass_of.ensures
    ∙ sym (places_at args.edition args.list.now c.loop-j.j due))

pub loop-j-preserved : goal.loop-j-preserved
loop-j-preserved c =
    let args = c.args in
    let due : c.loop-j.j < count_of args.list.now = omega arith in
    clear_more c.loop-j.invariant (omega (arith, places_length args.edition args.list.now))
    (places_at args.edition args.list.now c.loop-j.j due
    ∙ sym (c.in_ok-place_refusal.ensures ∙ ap (place_refusal args.edition) c.pass_of.ensures))

pub returns : goal.returns
unfolding places_refusal
returns c = clear_all c.loop-j.invariant (omega (arith, places_length c.args.edition c.args.list.now))
