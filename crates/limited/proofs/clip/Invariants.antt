-- `limited::clip` meets its contract: the entries so far are clipped, and the others are as they were. Assumes nothing.
use Rattle.histograms.specs.Histograms.{Refilled}
use Rattle.limited.specs.Limited.{clipped_at}
use Rattle.limited.proofs.clip.Given as goal

abbrev pub invariant-loop-n : goal.invariant-loop-n
invariant-loop-n l = Refilled (clipped_at l.most l.initial.n-items) 0 l.n-index l.initial.n-items l.n-items
