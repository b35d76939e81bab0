-- `rows::take_run` meets its contract. The invariant: the pixels from `at` on and before p were taken. Assumes nothing.
use Rattle.rows.specs.Runs.{RunUpTo}
use Rattle.rows.proofs.take_run.Given as goal

abbrev pub invariant-loop-p : goal.invariant-loop-p
invariant-loop-p l =
    RunUpTo l.code l.at l.initial.marks l.initial.queue l.tail l.p l.marks l.queue l.next
