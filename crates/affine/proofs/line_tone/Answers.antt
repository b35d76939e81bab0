-- `affine::line_tone` meets its contract: the height on the line is no more than y, and what is divided fits. Assumes
-- nothing.
use Rattle.std.proofs.Common.{◌-◌, ◌*◌, ◌≤◌, arith}
use native.Mathlib.Nat.{le_trans, mul-le-mul, mul-le-mul_right, mul-pos}
use Rattle.affine.proofs.Sound.{part_le}
use Rattle.affine.proofs.line_tone.Goals as goal

pub scale-requires : goal.scale-requires
scale-requires c =
    let y = c.args.y in
    let d = c.args.q.place - c.args.p.place in
    let inside = c.requires.0 in
    let heights = c.requires.1.0 in
    let few : y * d ≤ 4294967295 * 255 = mul-le-mul {n₂ = 4294967295} {m₂ = 255} (omega arith) (omega arith) in
    let some : 1 ≤ y * d = mul-pos c.requires.1.1.0 (omega arith) in
    let high = mul-le-mul_right d heights.1 in
    (inside.0.0, (le_trans (part_le _ _ d _ heights.0 (omega arith)) high, (some, omega arith)))
