-- `limited::limited_tones` meets its contract: the sums of the clipped counts give the tones. Assumes nothing.
use Rattle.histograms.proofs.Histograms.{gathered_own, gathered_counted}
use Rattle.limited.proofs.Histograms.{clipped_rise, limited_tables}
use Rattle.limited.proofs.limited_tones.Goals as goal

pub sum_clipped-requires : goal.sum_clipped-requires
sum_clipped-requires c = gathered_counted (gathered_own c.requires)

pub invariant_of-clipped : goal.invariant_of-clipped
invariant_of-clipped c = record { rising = clipped_rise (gathered_counted c.requires) c.sum_clipped.ensures }

pub fill-requires : goal.fill-requires
fill-requires c = (gathered_own c.requires).component

pub returns : goal.returns
returns c =
    let sums = c.sum_clipped.ensures in
    record {
      tones = limited_tables c.requires sums c.fill.ensures.0;
      confined = record { counts_rest = sums.rest; table_rest = c.fill.ensures.1 };
    }
