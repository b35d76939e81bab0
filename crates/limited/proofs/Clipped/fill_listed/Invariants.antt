-- `limited::Clipped::fill_listed` meets its contract: the entries at the values of the queue's pixels so far are tones,
-- and no entry outside [least, greatest] changes. Assumes nothing.
use Rattle.histograms.specs.Histograms.{Outside}
use Rattle.limited.specs.Limited.{Filled, limited_by}
use Rattle.limited.proofs.Clipped.fill_listed.Given as goal

abbrev pub invariant-loop-p : goal.invariant-loop-p
invariant-loop-p l = record {
  outside : Outside l.self.c.least l.self.c.greatest l.initial.table l.table;
  filled : Filled (limited_by l.self.sums.now l.self.c l.self.a l.self.b) l.plane l.queue l.table l.p-index;
}
