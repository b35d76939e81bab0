-- Where the rules end: unless a component is kept back, each gives the value b itself b; with a clip of 1,000
-- thousandths the limited rule is the plain one. (With a smaller clip the limited rule may give the greatest value less
-- than b: what is left over goes to the values above it, too.) Assumes nothing.
use Prim.Native.Nat.{ℕ, ◌+◌, ◌-◌, ◌*◌, ◌≤◌}
use mathlib.Core.Path.{◌≡◌, ap, ap₂, ◌∙◌}
use mathlib.Core.Bool.{false}
use mathlib.Core.List.{List}
use native.Mathlib.Omega.{arith}
use lib.ListN.{length}
use lib.Dec.{leb, eqb}
use Rattle.planes.specs.Lists.{count}
use Rattle.planes.specs.Rounding.{rounded}
use Rattle.histograms.specs.Values.{sum_to, scaled, greatest}
use Rattle.plain.specs.Plain.{plain_tone}
use Rattle.limited.specs.Limited.{clipped, limited_tone}
use Rattle.tones.specs.Tones.{slopes_of, tone, kept}
use Rattle.histograms.specs.Histograms.{Inside}
use Rattle.tones.specs.declared.Rule.{Rule}
use Rattle.tones.specs.declared.Rule.TheVariants.{Plain, Limited, Affine}
use Rattle.histograms.proofs.Sums.{sum_same, sum_thousand}
use Rattle.histograms.proofs.Values.{in-inside, inside_all, inside_sum, greatest_in}
use Rattle.histograms.proofs.Scaled.{rounded_cancel}
use Rattle.plain.proofs.Ends.{plain_greatest, plain_end}
use Rattle.limited.proofs.Ends.{limited_end, unclipped}
use Rattle.affine.proofs.Ends.{affine_end}

-- ## A clip of 1,000 thousandths

pub limited_unclipped : (k a b : ℕ) (vs : List ℕ) → Inside a b vs → 1000 ≤ k → (v : ℕ) → a ≤ v → v ≤ b
    → limited_tone k a b vs v ≡ plain_tone a b vs v
unfolding limited_tone plain_tone
limited_unclipped k a b vs s h v av vb =
    let w = b - a + 1 in
    let m = length vs in
    let c = count (λ x. leb x v) vs in
    let to : (u : ℕ) → a ≤ u → sum_to (clipped k vs) a u ≡ 1000 * count (λ x. leb x u) vs = λ u au.
    sum_same (clipped k vs) (λ z. 1000 * count (eqb z) vs) a (u - a + 1) (λ z _ _. unclipped k vs h z)
    ∙ sum_thousand (λ z. count (eqb z) vs) a (u - a + 1) ∙ ap (1000 *◌) (inside_sum s u au) in
    let none : 1000 * m - sum_to (clipped k vs) a b ≡ 0 = omega (arith, to b (omega arith), inside_all s) in
    let part : w * sum_to (clipped k vs) a v + (v - a + 1) * (1000 * m - sum_to (clipped k vs) a b) ≡ w * (1000 * c)
    = ap₂ (λ (x y : ℕ). w * x + (v - a + 1) * y) (to v av) none ∙ omega arith in
    let num : (b - a) * (w * (1000 * c)) ≡ (w * 1000) * ((b - a) * c) = omega arith in
    let den : w * (1000 * m) ≡ (w * 1000) * m = omega arith in
    ap (λ x. scaled a b x (w * (1000 * m))) part
    ∙ ap₂ (λ (x y : ℕ). a + rounded x y) num den
    ∙ ap (a +◌) (rounded_cancel (w * 1000) ((b - a) * c) m (omega arith))

-- then its greatest value becomes b, too
pub limited_greatest : (k a b : ℕ) (vs : List ℕ) → a ≤ b → 1 ≤ length vs → Inside a b vs → 1000 ≤ k
    → limited_tone k a b vs (greatest vs) ≡ b
limited_greatest k a b vs ab some s h =
    let within = in-inside s (greatest_in vs some) in
    limited_unclipped k a b vs s h (greatest vs) within.0 within.1 ∙ plain_greatest a b vs ab some

-- ## Rules

-- the value b becomes b, unless it is kept back
pub tone_end : (r : Rule) (a b : ℕ) (vs : List ℕ) → a ≤ b → 1 ≤ length vs → Inside a b vs → kept r a b vs ≡ false
    → tone r a b vs b ≡ b
unfolding tone kept
tone_end (Plain low high) a b vs ab some s toned = plain_end a b vs ab some s
tone_end (Limited k) a b vs ab some s toned = limited_end k a b vs ab some
tone_end (Affine segments smin smax) a b vs ab some s toned = affine_end (slopes_of segments smin smax) a b vs ab toned
