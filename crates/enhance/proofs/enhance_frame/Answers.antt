-- `enhance::enhance_frame` meets its contract: intensity, the recursion and recolouring, one after the other.
-- Assumes nothing.
use Rattle.std.proofs.Common.{rules, arith}
use Rattle.enhance.proofs.Calls.{fine, handed_back, in-turn}
use Rattle.enhance.proofs.enhance_frame.Goals as goal

pub invariant_of-work : goal.invariant_of-work
invariant_of-work c =
    let lent = (fine _ _ _ _ _ _ _ c.requires).ready.lent in
    record {
      lent = record {
        size = lent.size;
        whole = omega (arith, c.intensity, lent.whole);
        covered = lent.covered;
        spare = lent.spare;
      };
    }

pub run_levels-counts-requires : goal.run_levels-counts-requires
run_levels-counts-requires c =
    let ready = (fine _ _ _ _ _ _ _ c.requires).ready in
    record { last = ready.last; area = ready.area }

pub returns : goal.returns
returns c =
    in-turn (fine _ _ _ _ _ _ _ c.requires) (omega (arith, c.intensity)) (omega (arith, c.intensity))
    c.intensity.ensures (handed_back (search rules) (search rules) (search rules) c.run_levels-counts.ensures.done)
    c.recolour.ensures
