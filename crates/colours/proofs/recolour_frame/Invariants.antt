-- The invariant of `colours::recolour_frame`: the first i pixels of the output are recoloured, and the bytes after them
-- are as they were. Assumes nothing.
use Prim.Native.Nat.{◌*◌}
use mathlib.Core.Path.{◌≡◌}
use mathlib.Core.List.{◌++◌}
use lib.ListN.{take, drop}
use Rattle.colours.specs.Frames.{recolour}
use Rattle.colours.proofs.recolour_frame.Given as goal

abbrev pub invariant-loop-i : goal.invariant-loop-i
invariant-loop-i l = l.output ≡ take (3 * l.i) (recolour l.frame l.plane) ++ drop (3 * l.i) l.initial.output
