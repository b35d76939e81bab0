-- `plain::plain_keeps` meets its contract: the least value's count gives its tone. Assumes nothing.
use Rattle.std.proofs.Common.{arith}
use Rattle.histograms.proofs.Histograms.{counted_first}
use Rattle.histograms.proofs.Scaled.{scaled_below}
use Rattle.plain.proofs.plain_keeps.Goals as goal

pub scale-tone-requires : goal.scale-tone-requires
scale-tone-requires c = grind (arith, counted_first c.requires)

pub overflow_sub-b : goal.overflow_sub-b
overflow_sub-b c = grind (arith, counted_first c.requires, scaled_below)
