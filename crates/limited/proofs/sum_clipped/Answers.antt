-- `limited::sum_clipped` meets its contract: the sums of the clipped counts are those of the definition. Assumes
-- nothing.
use Rattle.std.proofs.Common.{arith}
use Rattle.limited.proofs.Histograms.{clips_few, clipped_of}
use Rattle.limited.proofs.sum_clipped.Goals as goal

pub sum_up-requires : goal.sum_up-requires
sum_up-requires c =
    let few = clips_few _ c.requires c.clip.ensures in
    (c.requires.range.order, omega (arith, few, c.requires.range.few))

pub returns : goal.returns
returns c = clipped_of (grind arith) c.clip.ensures c.sum_up.ensures
