-- Frames that are not refused: what each test tells, and all of them. Assumes nothing.
use Prim.Native.Nat.{ℕ, ◌*◌, ◌≤◌}
use mathlib.Core.Path.{◌≡◌}
use mathlib.Core.Bool.{Bool, true, false, not, ◌||◌}
use native.Mathlib.Omega.{arith}
use lib.Dec.{eqb, ltb}
use borrow.Author.Tests.{le-ltb, ltb-false, eq-eqb, eqb-true, not-false}
use Rattle.planes.specs.Refusals.{when, ◌▷◌, bad_side, size_refusal, side_refusal, pixel_refusal, Sized}
use Rattle.planes.proofs.Refusals.{when_none, ▷_none, pixels_fit, sized, sized_none, length_fits}
use Rattle.planes.proofs.Refusals.{refused_by, passed_first}
use Rattle.texts.proofs.Heading.{heading_short}
use Rattle.netpbm.specs.Reading.{maxval_refusal, raster_refusal, trailing_refusal, frame_refusal}

-- sides of at most 4,096 have a product that is far from overflow
pub few_pixels : (w h limit : ℕ) → size_refusal w h limit ≡ 0 → w * h ≤ 4096 * 4096
unfolding size_refusal
few_pixels w h limit e = pixels_fit w h (▷_none (side_refusal w h) (pixel_refusal (w * h) limit) e).0

pub few_columns : (w h limit : ℕ) → size_refusal w h limit ≡ 0 → w ≤ 4096
few_columns w h limit e = (sized w h limit e).narrow

pub few_rows : (w h limit : ℕ) → size_refusal w h limit ≡ 0 → h ≤ 4096
few_rows w h limit e = (sized w h limit e).low

-- what finds the contract of a function that tests one refusal after the other
pub ruleset in_order =
    (refused_by, passed_first, few_pixels, few_columns, few_rows, length_fits, heading_short)

maxval_fits : (maxval : ℕ) → maxval_refusal maxval ≡ 0 → maxval ≡ 255
unfolding maxval_refusal
maxval_fits maxval e = eqb-true maxval 255 (not-false (eqb maxval 255) (when_none (not (eqb maxval 255)) 10 e))

raster_fits : (raster needed : ℕ) → raster_refusal raster needed ≡ 0 → needed ≤ raster
unfolding raster_refusal
raster_fits raster needed e = ltb-false raster needed (when_none (ltb raster needed) 11 e)

trailing_fits : (raster needed : ℕ) → trailing_refusal raster needed ≡ 0 → raster ≤ needed
unfolding trailing_refusal
trailing_fits raster needed e = ltb-false needed raster (when_none (ltb needed raster) 12 e)

-- what a frame that is not refused has
pub record Accepted (w h maxval raster limit : ℕ) : Type 0 where
  pub size : Sized w h limit
  pub maxval_is : maxval ≡ 255
  pub filled : raster ≡ 3 * (w * h)

pub frame_accepted : (w h maxval raster limit : ℕ) → frame_refusal w h maxval raster limit ≡ 0
    → Accepted w h maxval raster limit
unfolding frame_refusal
frame_accepted w h maxval raster limit e =
    let needed = 3 * (w * h) in
    let short = raster_refusal raster needed in
    let long = trailing_refusal raster needed in
    let a = ▷_none (size_refusal w h limit) (maxval_refusal maxval ▷ short ▷ long) e in
    let b = ▷_none (maxval_refusal maxval) (short ▷ long) a.1 in
    let c = ▷_none short long b.1 in
    let least = raster_fits raster needed c.0 in
    let most = trailing_fits raster needed c.1 in
    record { size = sized w h limit a.0; maxval_is = maxval_fits maxval b.0; filled = omega arith }

pub accepted_frame : {w h maxval raster limit : ℕ} → Accepted w h maxval raster limit
    → frame_refusal w h maxval raster limit ≡ 0
unfolding frame_refusal maxval_refusal raster_refusal trailing_refusal
accepted_frame {w} {h} {maxval} {raster} {limit} a =
    let filled = a.filled in
    simp (
      sized_none w h limit a.size,
      eq-eqb maxval 255 a.maxval_is,
      le-ltb raster (3 * (w * h)) (omega arith),
      le-ltb (3 * (w * h)) raster (omega arith),
    )

-- 10 is no refusal of a frame with a header
pub never_malformed : (w h maxval raster limit : ℕ) → frame_refusal w h maxval raster limit ≡ 10 → ⊥
unfolding frame_refusal size_refusal side_refusal pixel_refusal maxval_refusal raster_refusal trailing_refusal
never_malformed w h maxval raster limit =
    let needed = 3 * (w * h) in
    go (bad_side w || bad_side h) (ltb limit (w * h)) (not (eqb maxval 255)) (ltb raster needed) (ltb needed raster)
  where
    go : (a b c d e : Bool) → (when a 1 ▷ when b 2) ▷ when c 11 ▷ when d 12 ▷ when e 13 ≡ 10 → ⊥
    go true b c d e h = omega arith
    go false true c d e h = omega arith
    go false false true d e h = omega arith
    go false false false true e h = omega arith
    go false false false false true h = omega arith
    go false false false false false h = omega arith
