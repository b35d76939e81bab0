-- `histograms::fill_same` meets its contract. Assumes nothing.
use Rattle.std.proofs.Common.{rules, arith}
use Rattle.histograms.proofs.Stores.{refilled_at}
use Rattle.histograms.proofs.fill_same.Goals as goal

pub returns : goal.returns
returns c = refilled_at _ _ (c.refill.ensures (λ v. v) (λ v y fv ve p. search rules)) c.from.ensures (omega arith)
