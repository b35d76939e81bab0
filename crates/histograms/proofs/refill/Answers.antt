-- `histograms::refill` meets its contract. Assumes nothing.
use Rattle.std.proofs.Common.{arith}
use Rattle.histograms.proofs.Stores.{refilled_more, refilled_at}
use Rattle.histograms.proofs.refill.Goals as goal

pub loop-v-preserved : goal.loop-v-preserved
loop-v-preserved g c = record {
  within = omega arith;
  filled = λ f h.
      let from = c.loop-v.auto.v in
      refilled_more (c.loop-v.invariant.filled f h) from (omega arith) (h _ _ from (omega arith) c.tone.ensures);
}

pub returns : goal.returns
returns g c = λ f h. refilled_at _ _ (c.loop-v.invariant.filled f h) (omega arith) (omega arith)
