-- `histograms::measure` meets its contract: the least and the greatest are those of the plane's values so far, and of
-- the first. Assumes nothing.
use lib.ListN.{take}
use Rattle.planes.specs.Lists.{at}
use mathlib.Core.List.{◌∷◌}
use mathlib.Core.Path.{◌≡◌}
use Rattle.histograms.specs.Values.{least, greatest}
use Rattle.histograms.proofs.measure.Given as goal

abbrev pub invariant-loop-v : goal.invariant-loop-v
invariant-loop-v l =
    let vs = at l.plane 0 ∷ take l.v-index l.plane in
    record { least_is : l.least ≡ least vs; greatest_is : l.greatest ≡ greatest vs }
