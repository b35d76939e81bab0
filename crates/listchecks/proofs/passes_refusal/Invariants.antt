-- `listchecks::passes_refusal`: none of the first passes is refused.
use Rattle.std.proofs.Common.{map}
use Rattle.model.specs.Calls.{numbers_refusal}
use Rattle.listchecks.proofs.First.{Clear}
use Rattle.listchecks.proofs.passes_refusal.Given as goal

abbrev pub invariant-loop-pass : goal.invariant-loop-pass
invariant-loop-pass l = Clear (map numbers_refusal l.passes) l.pass-index
