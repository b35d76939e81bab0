-- A list that is overwritten from the front: `take k new ++ drop k old` has the first k members of `new`, and then
-- those of `old`. Assumes nothing.
use Prim.Native.Nat.{ℕ, zero, suc, ◌+◌, ◌*◌, ◌<◌}
use mathlib.Core.Path.{◌≡◌, refl, ap, ◌∙◌}
use mathlib.Core.List.{List, [], ◌∷◌, ◌++◌, append-nil}
use native.Mathlib.Nat.{le_of_eq, le_of_suc-le-suc, not-suc-le-zero}
use native.Mathlib.Numerals.{add-one}
use native.Mathlib.Omega.{arith}
use lib.ListN.{length, take, drop, set, drop_of_length-le}
use lib.Seq.{take_all}
use Rattle.planes.specs.Lists.{at}
use Rattle.channels.specs.declared.Pixel.{Pixel}
use Rattle.colours.specs.Frames.{pixel_at}
use Rattle.colours.specs.Steps.{with_pixel}
use Rattle.colours.proofs.Frames.{length_intensity, intensity_at, length_recolour, recolour_pixel}

store : (new old : List ℕ) (k : ℕ) → k < length new → k < length old
    → set (take k new ++ drop k old) k (at new k) ≡ take (suc k) new ++ drop (suc k) old
store [] old k hn ho = absurd (not-suc-le-zero hn)
store (x ∷ new) [] k hn ho = absurd (not-suc-le-zero ho)
store (x ∷ new) (y ∷ old) zero hn ho = refl
store (x ∷ new) (y ∷ old) (suc k) hn ho =
    ap (λ (l : List ℕ). x ∷ l) (store new old k (le_of_suc-le-suc hn) (le_of_suc-le-suc ho))

-- the next new member is stored
pub overwrite : {l : List ℕ} (new old : List ℕ) (k : ℕ) {v : ℕ} → k < length new → k < length old
    → l ≡ take k new ++ drop k old → v ≡ at new k → set l k v ≡ take (k + 1) new ++ drop (k + 1) old
overwrite new old k hn ho e value = rw (e, value, add-one k) (store new old k hn ho)

-- the three channels of the next pixel are stored
pub overwrite_pixel : {l : List ℕ} (new old : List ℕ) (i : ℕ) {p : Pixel} → 3 * i + 2 < length new
    → 3 * i + 2 < length old → l ≡ take (3 * i) new ++ drop (3 * i) old → p ≡ pixel_at new i
    → with_pixel p i l ≡ take (3 * (i + 1)) new ++ drop (3 * (i + 1)) old
overwrite_pixel new old i hn ho e pixel =
    let k = 3 * i in
    let one = overwrite new old k (omega arith) (omega arith) e refl in
    let two = overwrite new old (k + 1) (omega arith) (omega arith) one refl in
    let after_two : k + 1 + 1 ≡ k + 2 = omega arith in
    let three = overwrite new old (k + 2) hn ho (rw after_two at two) refl in
    let after_three : k + 2 + 1 ≡ 3 * (i + 1) = omega arith in
    rw pixel (rw after_three at three)

-- all new members are stored
pub overwrite_all : (new old : List ℕ) (k : ℕ) → length new ≡ k → take k new ++ drop k old ≡ new ++ drop k old
overwrite_all new old k all = ap (λ (p : List ℕ). p ++ drop k old) (take_all k new (le_of_eq all))

-- all new members are stored, and none of the old ones is left
pub overwrite_whole : (new old : List ℕ) (k : ℕ) → length new ≡ k → length old ≡ k → take k new ++ drop k old ≡ new
overwrite_whole new old k all end =
    overwrite_all new old k all
    ∙ ap (λ (q : List ℕ). new ++ q) (drop_of_length-le old (le_of_eq end))
    ∙ append-nil new

-- what finds that a plane is filled, and that an output is recoloured
pub ruleset filled = (overwrite, overwrite_whole, length_intensity, intensity_at)

pub ruleset recoloured = (overwrite_pixel, overwrite_all, length_recolour, recolour_pixel)
