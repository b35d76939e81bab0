-- `plain::plain_table` meets its contract: the sums of the counts give the tones. Assumes nothing.
use Rattle.histograms.proofs.Histograms.{counted_sums}
use Rattle.plain.proofs.plain_table.Goals as goal

pub fill_plain-requires : goal.fill_plain-requires
fill_plain-requires c = counted_sums c.requires c.sum_up.ensures
