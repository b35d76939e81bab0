-- `limited::Clipped::fill_all` meets its contract. Assumes nothing.
use Rattle.std.proofs.Common.{rules, arith}
use Rattle.histograms.proofs.Stores.{refilled_at}
use Rattle.limited.specs.Limited.{limited_by}
use Rattle.limited.proofs.Clipped.fill_all.Goals as goal

pub returns : goal.returns
returns c =
    let s = c.args.self.now in
    let toned = c.refill.ensures (limited_by s.sums.now s.c s.a s.b) (λ v y fv ve p. search rules) in
    let order = s.rising.range.order in
    refilled_at _ _ toned (omega arith) (omega arith)
