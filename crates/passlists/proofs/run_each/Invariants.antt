-- `passlists::run_each`: the first passes have run, and have come to the memory and the counts.
use Rattle.passlists.proofs.Runs.{Going}
use Rattle.passlists.proofs.run_each.Given as goal

abbrev pub invariant-loop-pass : goal.invariant-loop-pass
invariant-loop-pass l = Going l.passes l.initial.work l.work l.pass-index l.counts
