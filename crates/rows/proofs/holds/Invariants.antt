-- `rows::holds` meets its contract. The invariant: `found` tells whether one of the marks passed has the code.
-- Assumes nothing.
use Rattle.std.proofs.Common.{◌+◌}
use Rattle.rows.specs.Stretches.{Tells}
use Rattle.rows.proofs.holds.Given as goal

abbrev pub invariant-loop-m : goal.invariant-loop-m
invariant-loop-m l = Tells l.marks l.code l.at (l.at + l.m-index) l.found
