-- What a frame has that is written: nothing is refused exactly where size, raster and room are as they should. Assumes
-- nothing.
use Prim.Native.Nat.{ℕ, ◌+◌, ◌*◌, ◌≤◌}
use mathlib.Core.Path.{◌≡◌}
use mathlib.Core.List.{List, [], ◌∷◌}
use lib.ListN.{length}
use Rattle.planes.specs.Refusals.{◌▷◌, size_refusal, length_refusal, output_refusal, greatest_pixels, Sized}
use Rattle.planes.proofs.Refusals.{▷_none, ▷_both, sized, sized_none, length_fits, length_none}
use Rattle.planes.proofs.Refusals.{output_fits, output_none}
use Rattle.planes.specs.Replies.{gives}
use Rattle.texts.specs.Heading.{heading}
use Rattle.texts.proofs.Placing.{put_length}
use Rattle.texts.proofs.Writing.{wrote_none}
use Rattle.netpbm.specs.Writing.{write_refusal, WriteOutcome}

-- what holds where writing is not refused
pub record Writable (w h raster output : ℕ) : Type 0 where
  pub size : Sized w h greatest_pixels
  pub filled : raster ≡ 3 * (w * h)
  pub room : length (heading w h) + raster ≤ output

pub writable : (w h raster output : ℕ) → write_refusal w h raster output ≡ 0 → Writable w h raster output
unfolding write_refusal
writable w h raster output e =
    let needed = length (heading w h) + raster in
    let wrong = length_refusal raster (3 * (w * h)) in
    let short = output_refusal output needed in
    let a = ▷_none (size_refusal w h greatest_pixels) (wrong ▷ short) e in
    let b = ▷_none wrong short a.1 in
    record {
      size = sized w h greatest_pixels a.0;
      filled = length_fits raster (3 * (w * h)) b.0;
      room = output_fits output needed b.1;
    }

pub writable_none : {w h raster output : ℕ} → Writable w h raster output → write_refusal w h raster output ≡ 0
unfolding write_refusal
writable_none {w} {h} {raster} {output} fine =
    let raster-none = length_none raster (3 * (w * h)) fine.filled in
    let room_none = output_none output (length (heading w h) + raster) fine.room in
    ▷_both _ _ (sized_none w h greatest_pixels fine.size) (▷_both _ _ raster-none room_none)

-- where writing answers a length, nothing was refused
pub wrote_writable : (raster : List ℕ) (w h : ℕ) {output : List ℕ} {size : ℕ} {output' : List ℕ}
    → WriteOutcome raster w h output (gives (size ∷ [])) output' → Writable w h (length raster) (length output)
wrote_writable raster w h {output} wrote = writable w h (length raster) (length output) (wrote_none wrote)

-- what finds the room for the heading and the raster
pub ruleset room = (writable, put_length)
