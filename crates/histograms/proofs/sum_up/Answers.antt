-- `histograms::sum_up` meets its contract. Assumes nothing.
use Rattle.std.proofs.Common.{◌≡◌, ◌+◌, arith}
use Rattle.planes.specs.Lists.{at}
use Rattle.histograms.proofs.Sums.{sum_to_mono}
use Rattle.histograms.proofs.Stores.{summing_next, summed_of}
use Rattle.histograms.proofs.sum_up.Goals as goal

pub overflow_add-counts-in-loop-v : goal.overflow_add-counts-in-loop-v
overflow_add-counts-in-loop-v c =
    omega (
      arith,
      summing_next c.loop-v.invariant (omega arith),
      sum_to_mono (at c.args.counts.now) c.args.a {v = c.loop-v.v + 1} {u = c.args.b} (omega arith),
    )

pub returns : goal.returns
returns c =
    let end : c.loop-v.v ≡ c.args.b = omega arith in
    summed_of (rw end at c.loop-v.invariant)
