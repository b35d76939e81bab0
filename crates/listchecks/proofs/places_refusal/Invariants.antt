-- `listchecks::places_refusal`: the edition has a place for the first j passes.
use Rattle.listchecks.proofs.First.{Clear}
use Rattle.listchecks.proofs.Refusals.{places}
use Rattle.listchecks.proofs.places_refusal.Given as goal

abbrev pub invariant-loop-j : goal.invariant-loop-j
invariant-loop-j l = Clear (places l.edition l.list) l.j
