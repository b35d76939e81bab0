-- `passlists::run_records`: the passes of the first records have run, and have come to the memory and the counts.
use Rattle.listformat.specs.Format.{passes_of}
use Rattle.passlists.proofs.Runs.{Going}
use Rattle.passlists.proofs.run_records.Given as goal

abbrev pub invariant-loop-j : goal.invariant-loop-j
invariant-loop-j l = Going (passes_of l.list) l.initial.work l.work l.j l.counts
