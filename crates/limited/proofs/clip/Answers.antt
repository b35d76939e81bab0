-- `limited::clip` meets its contract: no count is above the sum of all. Assumes nothing.
use Rattle.std.proofs.Common.{◌+◌, ◌-◌, ◌*◌, ◌∙◌, ap, min, rules, arith}
use Rattle.std.proofs.lemmas.List.{places}
use Rattle.std.proofs.lemmas.Grind.{common_steps}
use Rattle.planes.specs.Lists.{at}
use Rattle.histograms.proofs.Sums.{term_le}
use Rattle.histograms.proofs.Stores.{refilled_at}
use Rattle.histograms.proofs.Parts.{refilled_part}
use Rattle.limited.proofs.clip.Goals as goal

pub overflow_cast-n : goal.overflow_cast-n
overflow_cast-n c =
    let i = c.loop-n.n-index in
    let old = c.loop-n.invariant.old i (λ _ g. omega arith) in
    let v = c.args.first + i in
    let few = term_le (at c.args.counts.now) {a = c.args.first} {v = v} {b = c.args.last} (omega arith)
    (grind (arith, common_steps)) in
    grind (arith, common_steps, few, old)

pub returns : goal.returns
returns c =
    let a = c.from.result in
    let k = c.from-2.result + 1 - a in
    let inv = c.loop-n.invariant in
    refilled_at _ _ (refilled_part a k _ _ (omega arith) (grind (arith, common_steps, inv.size)) (λ j jk.
    inv.new j (omega arith) (grind (arith, common_steps))
    ∙ ap (λ n. min (1000 * n) c.args.most) (search (rules, places))))
    c.from.ensures (omega arith)
