-- The invariant of `colours::fill_plane`: the first i pixels of the plane have their intensities, and the others are as
-- they were. Assumes nothing.
use mathlib.Core.Path.{◌≡◌}
use mathlib.Core.List.{◌++◌}
use lib.ListN.{take, drop}
use Rattle.colours.specs.Frames.{intensity}
use Rattle.colours.proofs.fill_plane.Given as goal

abbrev pub invariant-loop-i : goal.invariant-loop-i
invariant-loop-i l = l.plane ≡ take l.i (intensity l.frame) ++ drop l.i l.initial.plane
