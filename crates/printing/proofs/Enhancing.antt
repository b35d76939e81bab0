-- A frame of at most 16,384 pixels is enhanced with the house setting and written: none of the refusals applies to the
-- two calls, and what is written is the enhanced frame. Assumes nothing.
use Prim.Native.Nat.{ℕ, ◌+◌, ◌-◌, ◌*◌, ◌≤◌}
use mathlib.Core.Path.{◌≡◌, refl, ap, subst, ◌∙◌}
use mathlib.Core.List.{List, [], ◌∷◌}
use native.Mathlib.Omega.{arith}
use lib.ListN.{length, take, drop, length-drop}
use lib.Seq.{take_all, take_at}
use Rattle.planes.specs.Refusals.{greatest_pixels, Sized, length_refusal, room_refusal}
use Rattle.planes.specs.Replies.{Reply, after, overwritten}
use Rattle.planes.specs.Shapes.{shape_of, shape_refusal}
use Rattle.planes.proofs.Refusals.{▷_both, length_none, room_none, output_none}
use Rattle.planes.proofs.Shapes.{shape_none}
use Rattle.planes.proofs.Replies.{refuses_not_gives, replied_none}
use Rattle.colours.specs.Frames.{recolour}
use Rattle.colours.proofs.Frames.{length_recolour}
use Rattle.tones.specs.Refusals.{rule_refusal}
use Rattle.model.specs.Calls.{area_refusal, neighbour_refusal}
use Rattle.levels.specs.declared.Settings.{Settings}
use Rattle.enhance.specs.Calls.{house, level_refusal, settings_refusal, memory_refusal, enhance_refusal, chain_of}
use Rattle.enhance.specs.Calls.{EnhanceOutcome}
use Rattle.texts.specs.Heading.{heading}
use Rattle.texts.proofs.Heading.{heading_short}
use Rattle.netpbm.specs.Frames.{IsFrame}
use Rattle.texts.specs.Writing.{written_reply}
use Rattle.netpbm.specs.Writing.{encoding, write_refusal, WriteOutcome}
use Rattle.std.specs.Prelude.{Result, Ok, Err, IsOk}
use Rattle.planes.specs.declared.refusal.Refusal.{Refusal}
use Rattle.netpbm.proofs.Writing.{writable_none}
use Rattle.printing.specs.Printing.{greatest_frame, enhanced_frame, Emitted}
use Rattle.printing.proofs.Emitting.{emitted_wrote}

-- the frame's size is not refused by the library either
in-library : {w h : ℕ} → Sized w h greatest_frame → Sized w h greatest_pixels
in-library size = record {
  wide = size.wide;
  narrow = size.narrow;
  high = size.high;
  low = size.low;
  few = omega (arith, size.few);
}

house_accepted : settings_refusal house ≡ 0
unfolding settings_refusal level_refusal area_refusal rule_refusal neighbour_refusal
house_accepted = refl

-- the heading has at most 21 bytes
short_heading : {w h : ℕ} → Sized w h greatest_frame → length (heading w h) ≤ 21
short_heading {w} {h} size = heading_short w h (omega (arith, size.narrow)) (omega (arith, size.low))

-- the lengths of what the enhancement is lent, of which the first is exact
pub record Room (n plane marks queue colours : ℕ) : Type 0 where
  pub pixels : plane ≡ n
  pub marked : n ≤ marks
  pub queued : n ≤ queue
  pub coloured : 3 * n ≤ colours

module _ {w h : ℕ} (size : Sized w h greatest_frame) where
  enhance-accepts : {frame plane marks queue colours : ℕ} → frame ≡ 3 * (w * h)
      → Room (w * h) plane marks queue colours
      → enhance_refusal (shape_of w h) frame plane marks queue colours house ≡ 0
  unfolding enhance_refusal memory_refusal
  enhance-accepts {frame} {plane} {marks} {queue} {colours} channels room =
      let n = w * h in
      ▷_both _ (settings_refusal house)
      (▷_both (shape_refusal (shape_of w h)) _ (shape_none (shape_of w h) (in-library size))
      (▷_both (length_refusal plane n) _ (length_none plane n room.pixels)
      (▷_both (length_refusal frame (3 * n)) _ (length_none frame (3 * n) channels)
      (▷_both (room_refusal n marks queue) _ (room_none n marks queue room.marked room.queued)
      (output_none colours (3 * n) room.coloured)))))
      house_accepted

  write-accepts : {raster output : ℕ} → raster ≡ 3 * (w * h) → 3 * (w * h) + 21 ≤ output
      → write_refusal w h raster output ≡ 0
  write-accepts {raster} {output} channels room =
      let head = short_heading size in
      writable_none (record { size = in-library size; filled = channels; room = omega arith })

-- what stands from the offset on, lent as a part of the input
pub raster_lent : (input : List ℕ) (offset : ℕ) → take (length input - offset) (drop offset input) ≡ drop offset input
raster_lent input offset =
    take_all (length input - offset) (drop offset input) (omega (arith, length-drop offset input))

module _ {input : List ℕ} {w h offset : ℕ} (f : IsFrame input greatest_frame w h offset) where
  abbrev raster : List ℕ
  raster = drop offset input

  channels : length raster ≡ 3 * (w * h)
  channels = omega (arith, length-drop offset input, f.placed, f.filled)

  -- the enhancement's output is the recoloured frame
  pub recoloured : {frame plane marks queue colours plane' marks' queue' colours' : List ℕ} {t : Settings}
      {reply : Reply}
      → EnhanceOutcome (shape_of w h) t frame plane marks queue colours reply plane' marks' queue' colours'
      → t ≡ house → frame ≡ raster → Room (w * h) (length plane) (length marks) (length queue) (length colours)
      → take (3 * (w * h)) colours' ≡ recolour raster (chain_of (shape_of w h) house raster).plane
  recoloured {frame} {plane} {marks} {queue} {colours} {t = t} outcome setting-is frame_is room =
      let refusal = enhance_refusal (shape_of w h) (length frame) (length plane) (length marks) (length queue)
      (length colours) in
      let counted = ap length frame_is ∙ channels in
      let accepted = ap refusal setting-is ∙ enhance-accepts f.sized counted room in
      let new = recolour frame (chain_of (shape_of w h) t frame).plane in
      let long = length_recolour frame (chain_of (shape_of w h) t frame).plane ∙ counted in
      let left = outcome.output_is ∙ ap (λ (k : ℕ). after k colours (overwritten colours new)) accepted in
      ap (take (3 * (w * h))) left ∙ take_at new (drop (length new) colours) (3 * (w * h)) long
      ∙ ap (λ (s : Settings). recolour frame (chain_of (shape_of w h) s frame).plane) setting-is
      ∙ ap (λ (l : List ℕ). recolour l (chain_of (shape_of w h) house l).plane) frame_is

  -- which is what is written
  pub emitted_enhanced : (new : List ℕ) {output output' : List ℕ} {answer : Result ℕ Refusal} {size : ℕ}
      → WriteOutcome new w h output (written_reply answer) output' → answer ≡ Ok size
      → new ≡ recolour raster (chain_of (shape_of w h) house raster).plane
      → Emitted (enhanced_frame raster w h) output size output'
  unfolding enhanced_frame
  emitted_enhanced new {output} {output'} {size = size} wrote answer-is New-is =
      let left = λ (r : Result ℕ Refusal). WriteOutcome new w h output (written_reply r) output' in
      let written = subst left answer-is wrote in
      subst (λ (l : List ℕ). Emitted (encoding l w h) output size output') New-is (emitted_wrote new w h written)

  -- and is not refused
  pub always_written : (new : List ℕ) {output output' : List ℕ} (answer : Result ℕ Refusal)
      → WriteOutcome new w h output (written_reply answer) output' → length new ≡ 3 * (w * h)
      → 65536 ≤ length output → IsOk answer
  always_written new (Ok size) wrote counted room = refl
  always_written new {output} (Err r) wrote counted room =
      let few = f.sized.few in
      let fits : 3 * (w * h) + 21 ≤ length output = omega arith in
      let accepted = write-accepts f.sized counted fits in
      let gives-length = replied_none _ (length (encoding new w h) ∷ []) accepted in
      absurd (refuses_not_gives (wrote.answer ∙ gives-length))
