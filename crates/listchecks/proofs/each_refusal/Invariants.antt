-- `listchecks::each_refusal`: none of the first j records is refused.
use Rattle.listchecks.specs.Refusals.{record_refusals}
use Rattle.listchecks.proofs.First.{Clear}
use Rattle.listchecks.proofs.each_refusal.Given as goal

abbrev pub invariant-loop-j : goal.invariant-loop-j
invariant-loop-j l = Clear (record_refusals l.list) l.j
