-- `Inverses::new` meets its contract: the closure gives the inverse of each index but 0. Assumes nothing.
use Rattle.std.proofs.Common.{rules}
use Rattle.channels.specs.Scales.{inverse}
use Rattle.channels.proofs.Inverses.new.Goals as goal

pub invariant_of-result : goal.invariant_of-result
unfolding inverse
invariant_of-result c = record {
  inverted = record {
    size = c.from_fn.ensures.items.long;
    entry = λ m some below. let (p, q, call) = c.from_fn.ensures.items.at m 0 below in search (rules, call);
  };
}
