-- Reading accepts exactly the frames.
--
--   accepted_iff    reading answers width, height and offset exactly where the bytes are a frame with these
--   malformed_iff   reading answers refusal 10 exactly where no header begins the bytes
--
-- Assumes nothing.
use Prim.Native.Nat.{ℕ, zero, suc, ◌-◌, ◌*◌}
use mathlib.Core.Path.{◌≡◌, refl, subst₂, subst₃}
use mathlib.Core.Logic.{◌↔◌}
use mathlib.Core.List.{List}
use native.Mathlib.Omega.{arith}
use lib.ListN.{length}
use Rattle.planes.specs.Refusals.{Sized}
use Rattle.gaps.specs.Parsers.{Parsed, failed, parsed}
use Rattle.headers.specs.Grammar.{Numbers, header}
use Rattle.headers.specs.Headers.{IsHeader}
use Rattle.headers.proofs.Grammar.{header_passed, header_shorter}
use Rattle.headers.proofs.Headers.{header_accepts, header_parts, header_iff}
use Rattle.netpbm.specs.Reading.{Refused, Frame, frame_refusal, framed, answered, read_answer}
use Rattle.netpbm.specs.Frames.{IsFrame}
use Rattle.netpbm.proofs.Refusals.{Accepted, frame_accepted, accepted_frame, never_malformed}

framed_frame : (k w h offset w' h' offset' : ℕ) → framed k w h offset ≡ Frame w' h' offset'
    → (k ≡ 0) × (w ≡ w') × (h ≡ h') × (offset ≡ offset')
framed_frame zero w h offset w' h' offset' e = (refl, cc, cc, cc)
framed_frame (suc k) w h offset w' h' offset' e = let clash : ◌≡◌ {A = ℕ} 0 1 = cc in absurd (omega arith)

accepted_is : (bytes : List ℕ) (limit w h offset : ℕ) → read_answer bytes limit ≡ Frame w h offset
    → IsFrame bytes limit w h offset
unfolding read_answer
accepted_is bytes limit w h offset e = go (header bytes) refl e
  where
    go : (p : Parsed Numbers) → header bytes ≡ p → answered bytes limit p ≡ Frame w h offset
        → IsFrame bytes limit w h offset
    go failed d q = let clash : ◌≡◌ {A = ℕ} 0 1 = cc in absurd (omega arith)
    go (parsed n raster) d q =
        let refusal = frame_refusal n.width n.height n.maxval (length raster) limit in
        let values = framed_frame refusal n.width n.height (length bytes - length raster) w h offset q in
        let parts = header_passed bytes n raster d in
        let fine = frame_accepted n.width n.height n.maxval (length raster) limit values.0 in
        let shorter = header_shorter bytes n raster d in
        let place : length bytes - length raster ≡ offset = values.3 in
        record {
          raster = raster;
          header = subst₃ (λ (a b c : ℕ). IsHeader bytes a b c raster) values.1 values.2 fine.maxval_is
              (header_parts parts);
          sized = subst₂ (λ (a b : ℕ). Sized a b limit) values.1 values.2 fine.size;
          filled = subst₂ (λ (a b : ℕ). length raster ≡ 3 * (a * b)) values.1 values.2 fine.filled;
          placed = omega arith;
        }

frame_is_accepted : (bytes : List ℕ) (limit w h offset : ℕ) → IsFrame bytes limit w h offset
    → read_answer bytes limit ≡ Frame w h offset
unfolding read_answer
frame_is_accepted bytes limit w h offset f =
    let fine : Accepted w h 255 (length f.raster) limit =
    record { size = f.sized; maxval_is = refl; filled = f.filled } in
    let placed = f.placed in
    let place : length bytes - length f.raster ≡ offset = omega arith in
    rw (header_accepts f.header, accepted_frame fine, place)

-- reading accepts exactly the frames
pub accepted_iff : (bytes : List ℕ) (limit w h offset : ℕ)
    → (read_answer bytes limit ≡ Frame w h offset) ↔ IsFrame bytes limit w h offset
accepted_iff bytes limit w h offset =
    (accepted_is bytes limit w h offset, frame_is_accepted bytes limit w h offset)

framed_ten : (k w h offset : ℕ) → framed k w h offset ≡ Refused 10 → k ≡ 10
framed_ten zero w h offset e = let clash : ◌≡◌ {A = ℕ} 0 1 = cc in absurd (omega arith)
framed_ten (suc k) w h offset e = cc

-- reading answers refusal 10 exactly where no header begins the bytes
pub malformed_iff : (bytes : List ℕ) (limit : ℕ) → (read_answer bytes limit ≡ Refused 10)
    ↔ ((w h maxval : ℕ) (raster : List ℕ) → IsHeader bytes w h maxval raster → ⊥)
unfolding read_answer
malformed_iff bytes limit = (one_way, other_way)
  where
    one_way : answered bytes limit (header bytes) ≡ Refused 10
        → (w h maxval : ℕ) (raster : List ℕ) → IsHeader bytes w h maxval raster → ⊥
    one_way e w h maxval raster p =
        let refusal = frame_refusal w h maxval (length raster) limit in
        let answer : framed refusal w h (length bytes - length raster) ≡ Refused 10 = rw (header_accepts p) at e in
        never_malformed w h maxval (length raster) limit (framed_ten refusal w h (length bytes - length raster) answer)

    other_way : ((w h maxval : ℕ) (raster : List ℕ) → IsHeader bytes w h maxval raster → ⊥)
        → answered bytes limit (header bytes) ≡ Refused 10
    other_way none = go (header bytes) refl
      where
        go : (p : Parsed Numbers) → header bytes ≡ p → answered bytes limit p ≡ Refused 10
        go failed d = refl
        go (parsed n raster) d =
            let parts = (header_iff bytes n raster).0 d in
            absurd (none n.width n.height n.maxval raster parts)
