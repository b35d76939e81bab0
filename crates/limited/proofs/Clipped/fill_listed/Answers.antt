-- `limited::Clipped::fill_listed` meets its contract. Assumes nothing.
use Rattle.std.proofs.Common.{arith}
use Rattle.std.proofs.lemmas.Grind.{common_steps}
use Rattle.histograms.proofs.Stores.{outside_more}
use Rattle.limited.proofs.Stores.{filled_more}
use Rattle.limited.proofs.Clipped.fill_listed.Goals as goal

pub loop-p-preserved : goal.loop-p-preserved
loop-p-preserved c =
    let within = c.requires.within c.loop-p.p-index (grind (arith, common_steps)) in
    let inv = c.loop-p.invariant in
    record {
      outside = outside_more _ inv.outside (grind (arith, common_steps, within)) (grind (arith, common_steps, within));
      filled = filled_more _ _ _ inv.filled (grind (arith, common_steps)) (omega arith) c.tone.ensures;
    }
