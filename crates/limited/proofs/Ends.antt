-- Where the limited rule ends: the value b becomes b; with a clip of 1,000 thousandths nothing is clipped. Assumes
-- nothing.
use Prim.Native.Nat.{ℕ, ◌+◌, ◌-◌, ◌*◌, ◌≤◌}
use mathlib.Core.Path.{◌≡◌, sym, ap, ◌∙◌}
use mathlib.Core.List.{List}
use native.Mathlib.Nat.{mul-le-mul, mul-le-mul_right, mul-add, min-eq_left}
use native.Mathlib.Omega.{arith}
use lib.ListN.{length}
use lib.Dec.{eqb}
use Rattle.planes.specs.Lists.{count}
use Rattle.planes.proofs.Counts.{count_le}
use Rattle.histograms.specs.Values.{sum_to, scaled}
use Rattle.limited.specs.Limited.{clipped, limited_tone}
use Rattle.histograms.proofs.Scaled.{scaled_all}
use Rattle.limited.proofs.Sound.{clipped_le}

pub limited_end : (k a b : ℕ) (vs : List ℕ) → a ≤ b → 1 ≤ length vs → limited_tone k a b vs b ≡ b
unfolding limited_tone
limited_end k a b vs ab some =
    let w = b - a + 1 in
    let all = 1000 * length vs in
    let s = sum_to (clipped k vs) a b in
    let both : s + (all - s) ≡ all = omega (arith, clipped_le k vs a w) in
    let x : w * s + w * (all - s) ≡ w * all = sym (mul-add w s (all - s)) ∙ ap (w *◌) both in
    let pos : 1 ≤ w * all = omega (arith, mul-le-mul_right {m = 1} {n = w} all (omega arith)) in
    ap (λ y. scaled a b y (w * all)) x ∙ scaled_all a b (w * all) ab pos

-- with k ≥ 1000 nothing is clipped
pub unclipped : (k : ℕ) (vs : List ℕ) → 1000 ≤ k → (v : ℕ) → clipped k vs v ≡ 1000 * count (eqb v) vs
unfolding clipped
unclipped k vs h v = min-eq_left (mul-le-mul h (count_le (eqb v) vs))
