-- `scans::next_pixel` meets its contract. The invariant of both loops: nothing is found yet, and no pixel from
-- `from` on and before the present one has the code. Assumes nothing.
use Rattle.std.proofs.Common.{◌+◌, ◌*◌, ◌≤◌, ◌≡◌}
use Rattle.std.specs.Prelude.{None}
use Rattle.rows.specs.Stretches.{Skipped}
use Rattle.scans.proofs.next_pixel.Given as goal

abbrev pub invariant-loop-x : goal.invariant-loop-x
invariant-loop-x l =
    (l.found ≡ None) × Skipped l.marks l.code l.from (l.row + l.x)

abbrev pub invariant-search : goal.invariant-search
invariant-search l =
    (l.found ≡ None) × ((l.first ≤ l.w) × Skipped l.marks l.code l.from (l.y * l.w + l.first))
