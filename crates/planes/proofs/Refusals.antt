-- What it means that no refusal applies, and which number of an order a result has. Assumes nothing.
--
--   in_order, by_size   what finds the contract of a function that tests one refusal after the other
--   by_test             what finds that of a function that is one test
use Prim.Native.Nat.{ℕ, zero, suc, ◌*◌, ◌≤◌}
use mathlib.Core.Path.{◌≡◌, refl, sym, ap, ◌∙◌}
use mathlib.Core.Bool.{Bool, true, false, not, ◌||◌}
use native.Mathlib.Nat.{mul-le-mul}
use native.Mathlib.Omega.{arith}
use lib.Dec.{ltb, eqb}
use borrow.Author.Tests.{ltb-false, lt-ltb, le-ltb, eqb-true, eqb-false, eq-eqb, ne_eqb}
use Rattle.planes.specs.declared.refusal.Refusal.{Refusal}
use Rattle.planes.specs.declared.refusal.Refusal.TheVariants.{Sides, Pixels, Length, Room, Interval, Area, Ratios}
use Rattle.planes.specs.declared.refusal.Refusal.TheVariants.{Clip, Level, Header, Maxval, Raster, Trailing, Output}
use Rattle.planes.specs.declared.refusal.Refusal.TheVariants.{Version, Count, Record, Slopes, Neighbours, NoPlace}
use Rattle.std.specs.Prelude.{Result}
use Rattle.std.specs.Result.{IsErrAnd}
use Rattle.std.proofs.lemmas.Result.{err_from_is_err_and}
use Rattle.planes.specs.Refusals.{number, number_in, when, ◌▷◌, bad_side, side_refusal, pixel_refusal, length_refusal, room_refusal}
use Rattle.planes.specs.Refusals.{output_refusal, size_refusal, Sized}
use Rattle.planes.proofs.Tests.{or_none}

pub when_none : (t : Bool) (k : ℕ) → when t (suc k) ≡ 0 → t ≡ false
when_none true k e = absurd (omega arith)
when_none false k e = refl

when_some : (k : ℕ) → when true (suc k) ≡ 0 → ⊥
when_some k e = absurd (omega arith)

pub ▷_none : (x y : ℕ) → x ▷ y ≡ 0 → (x ≡ 0) × (y ≡ 0)
▷_none zero y e = (refl, e)
▷_none (suc x) y e = absurd (omega arith)

-- ## Results: the first refusal of an order

no : {k : ℕ} → suc k ≡ 0 → ⊥
no e = absurd (omega arith)

-- every refusal has a number
pub number_some : (r : Refusal) → number r ≡ 0 → ⊥
number_some r =
    elim r as (λ s. number s ≡ 0 → ⊥) [
      | Sides ↦ no
      | Pixels ↦ no
      | Length ↦ no
      | Room ↦ no
      | Interval ↦ no
      | Area ↦ no
      | Ratios ↦ no
      | Clip ↦ no
      | Level ↦ no
      | Header ↦ no
      | Maxval ↦ no
      | Raster ↦ no
      | Trailing ↦ no
      | Output ↦ no
      | Version ↦ no
      | Count ↦ no
      | Record ↦ no
      | Slopes ↦ no
      | Neighbours ↦ no
      | NoPlace ↦ no
    ]

-- a refusal of the left test is that of the order
pub refused_first : (r : Refusal) (x y : ℕ) → number r ≡ x → number r ≡ x ▷ y
refused_first r zero y e = absurd (number_some r e)
refused_first r (suc x) y e = e

-- the same of a result that hands the refusal on
pub refused_by : {A : Type 0} (r : Result A Refusal) (d : Refusal) (x y : ℕ) → IsErrAnd r (λ e. e ≡ d) → number d ≡ x
    → number_in r ≡ x ▷ y
refused_by r d x y h e =
    let (z, is, same) = err_from_is_err_and r h in
    rw is (refused_first z x y (ap number same ∙ e))

-- where the left test refuses nothing, the right one's number is that of the order
pub passed_first : (n x y : ℕ) → 0 ≡ x → n ≡ y → n ≡ x ▷ y
passed_first n zero y e d = d
passed_first n (suc x) y e d = absurd (omega arith)

-- ## Numbers

-- the left refusal where there is one, else the right one
pub ▷_left : (x y : ℕ) → (x ≡ 0 → ⊥) → x ▷ y ≡ x
▷_left zero y f = absurd (f refl)
▷_left (suc x) y f = refl

pub ▷_right : (x y : ℕ) → x ≡ 0 → x ▷ y ≡ y
▷_right zero y e = refl
▷_right (suc x) y e = absurd (omega arith)

-- a refusal that does not apply, at the end of an order
pub ▷_last : (x y : ℕ) → y ≡ 0 → x ▷ y ≡ x
▷_last zero y e = e
▷_last (suc x) y e = refl

pub ▷_both : (x y : ℕ) → x ≡ 0 → y ≡ 0 → x ▷ y ≡ 0
▷_both x y e d = ▷_right x y e ∙ d

-- the order of three does not depend on how they are bracketed
pub ▷_assoc : (x y z : ℕ) → (x ▷ y) ▷ z ≡ x ▷ (y ▷ z)
▷_assoc zero y z = refl
▷_assoc (suc x) y z = refl

good_side : (x : ℕ) → bad_side x ≡ false → (1 ≤ x) × (x ≤ 4096)
good_side x e =
    let tests = or_none (eqb x 0) (ltb 4096 x) e in
    let some = eqb-false x 0 tests.0 in
    let few = ltb-false 4096 x tests.1 in
    (go x some, few)
  where
    go : (x : ℕ) → (x ≡ 0 → ⊥) → 1 ≤ x
    go zero h = absurd (h refl)
    go (suc x) h = omega arith

-- ## What the tests tell, and back

pub sides_fit : (w h : ℕ) → side_refusal w h ≡ 0 → ((1 ≤ w) × (w ≤ 4096)) × ((1 ≤ h) × (h ≤ 4096))
unfolding side_refusal
sides_fit w h e =
    let sides = or_none (bad_side w) (bad_side h) (when_none (bad_side w || bad_side h) 0 e) in
    (good_side w sides.0, good_side h sides.1)

-- so that their product fits
pub pixels_fit : (w h : ℕ) → side_refusal w h ≡ 0 → w * h ≤ 4096 * 4096
pixels_fit w h e =
    let sides = sides_fit w h e in
    mul-le-mul {n₂ = 4096} {m₂ = 4096} sides.0.1 sides.1.1

pub pixels_few : (n limit : ℕ) → pixel_refusal n limit ≡ 0 → n ≤ limit
unfolding pixel_refusal
pixels_few n limit e = ltb-false limit n (when_none (ltb limit n) 1 e)

pub length_fits : (size needed : ℕ) → length_refusal size needed ≡ 0 → size ≡ needed
unfolding length_refusal
length_fits size needed e = go (eqb size needed) refl
  where
    go : (t : Bool) → eqb size needed ≡ t → size ≡ needed
    go true d = eqb-true size needed d
    go false d =
        absurd (when_some 2 (sym (ap (λ (b : Bool). when (not b) 3) d) ∙ e))

pub length_none : (size needed : ℕ) → size ≡ needed → length_refusal size needed ≡ 0
unfolding length_refusal
length_none size needed e = simp (eq-eqb size needed e)

pub room_fits : (n marks queue : ℕ) → room_refusal n marks queue ≡ 0 → (n ≤ marks) × (n ≤ queue)
unfolding room_refusal
room_fits n marks queue e =
    let tests = or_none (ltb marks n) (ltb queue n) (when_none (ltb marks n || ltb queue n) 3 e) in
    (ltb-false marks n tests.0, ltb-false queue n tests.1)

pub room_none : (n marks queue : ℕ) → n ≤ marks → n ≤ queue → room_refusal n marks queue ≡ 0
unfolding room_refusal
room_none n marks queue l m = simp (le-ltb marks n l, le-ltb queue n m)

pub output_fits : (output needed : ℕ) → output_refusal output needed ≡ 0 → needed ≤ output
unfolding output_refusal
output_fits output needed e = ltb-false output needed (when_none (ltb output needed) 13 e)

pub output_none : (output needed : ℕ) → needed ≤ output → output_refusal output needed ≡ 0
unfolding output_refusal
output_none output needed l = simp (le-ltb output needed l)

-- a plane whose size is not refused
pub sized : (w h limit : ℕ) → size_refusal w h limit ≡ 0 → Sized w h limit
unfolding size_refusal
sized w h limit e =
    let tests = ▷_none (side_refusal w h) (pixel_refusal (w * h) limit) e in
    let sides = sides_fit w h tests.0 in
    record {
      wide = sides.0.0;
      narrow = sides.0.1;
      high = sides.1.0;
      low = sides.1.1;
      few = pixels_few (w * h) limit tests.1;
    }

-- and back
pub sized_none : (w h limit : ℕ) → Sized w h limit → size_refusal w h limit ≡ 0
unfolding size_refusal side_refusal pixel_refusal
sized_none w h limit S =
    simp (
      ne_eqb w 0 (λ e. absurd (omega (arith, S.wide))),
      le-ltb 4096 w S.narrow,
      ne_eqb h 0 (λ e. absurd (omega (arith, S.high))),
      le-ltb 4096 h S.low,
      le-ltb limit (w * h) S.few,
    )

-- ## What finds the contract of a function that tests one refusal after the other

pub ruleset in_order = (refused_by, passed_first, pixels_fit)

-- the same where the size is tested first
pub size_small : (w h limit : ℕ) → size_refusal w h limit ≡ 0 → w * h ≤ limit
size_small w h limit e = (sized w h limit e).few

pub ruleset by_size = (refused_by, passed_first, size_small)

-- ## What finds the contract of a function that is one test

pub ruleset by_test = (lt-ltb, le-ltb, ne_eqb, eq-eqb)
