-- `limited::Clipped::tone` meets its contract: the parts are no more than the whole, which fits. Assumes nothing.
use Rattle.std.proofs.Common.{◌+◌, ◌*◌, arith}
use native.Mathlib.Nat.{mul-le-mul_right}
use Rattle.limited.proofs.Sound.{shares_le}
use Rattle.limited.proofs.Clipped.tone.Goals as goal

pub scale-requires : goal.scale-requires
scale-requires c =
    let sums = c.args.self.now.rising in
    let w = c.from-w.result + 1 in
    let all = 1000 * c.args.self.now.c.size in
    let rises = sums.rises c.args.v c.requires.0 c.requires.1 in (
      omega arith,
      (
        shares_le _ _ _ w all (grind (arith, rises)) (grind (arith, sums.top)) (omega arith),
        (
          omega (arith, mul-le-mul_right {m = 1} {n = w} all (omega arith)),
          omega (arith, mul-le-mul_right {m = w} {n = 256} all (omega arith)),
        ),
      ),
    )
