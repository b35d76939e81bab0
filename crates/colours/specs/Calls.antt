-- The calls `intensity` and `recolour`: their refusals in order, their answers, and what they do to each lent slice.
-- n = w × h. Definitions only.
--
--   intensity_refusal  the number of the first refusal that applies, of 1, 2, 3; 0 where none does
--   recolour_refusal   the same, of 1, 2, 3, 14
--   status_reply       the reply of a call's result
--   IntensityOutcome   the contract of `intensity`
--   RecolourOutcome    the contract of `recolour`
use Rattle.std.specs.Prelude.{ℕ, ◌*◌, ◌≡◌, List, [], length, Result}
use Rattle.planes.specs.declared.refusal.Refusal.{Refusal}
use Rattle.planes.specs.Refusals.{◌▷◌, length_refusal, output_refusal, size_refusal, greatest_pixels, Sized}
use Rattle.planes.specs.Replies.{Reply, reply_of, replied, after, overwritten}
use Rattle.colours.specs.Frames.{intensity, recolour}

-- ## Refusals, by the lengths of what is lent

-- 1, 2, 3 (the plane, the frame)
unfoldable pub intensity_refusal : ℕ → ℕ → ℕ → ℕ → ℕ
intensity_refusal w h frame plane =
    size_refusal w h greatest_pixels ▷ length_refusal plane (w * h) ▷ length_refusal frame (3 * (w * h))

-- 1, 2, 3 (the plane, the frame), 14
unfoldable pub recolour_refusal : ℕ → ℕ → ℕ → ℕ → ℕ → ℕ
recolour_refusal w h frame plane output =
    size_refusal w h greatest_pixels ▷ length_refusal plane (w * h) ▷ length_refusal frame (3 * (w * h))
    ▷ output_refusal output (3 * (w * h))

-- a frame and a plane that are not refused
pub record Accepted (w h frame plane : ℕ) : Type 0 where
  pub size : Sized w h greatest_pixels
  pub pixels : plane ≡ w * h
  pub channels : frame ≡ 3 * (w * h)

-- ## Answers

-- the refusal's number; a call that is done gives no values
abbrev pub status_reply : Result (Unit {0}) Refusal → Reply
status_reply = reply_of (λ x. [])

-- ## Contracts

-- a call that is lent a frame and a plane answers, and leaves plane': the frame's intensities, unless it is refused
pub record IntensityOutcome (w h : ℕ) (frame plane : List ℕ) (reply : Reply) (plane' : List ℕ) : Type 0 where
  pub answer : reply ≡ replied (intensity_refusal w h (length frame) (length plane)) []
  pub plane_is : plane' ≡ after (intensity_refusal w h (length frame) (length plane)) plane (intensity frame)

-- a call that is lent a frame, the plane of its new intensities and an output answers, and leaves output': the first
-- 3 × n bytes are the recoloured frame and those beyond stay, unless it is refused
pub record RecolourOutcome (w h : ℕ) (frame plane output : List ℕ) (reply : Reply) (output' : List ℕ) : Type 0 where
  pub answer : reply ≡ replied (recolour_refusal w h (length frame) (length plane) (length output)) []
  pub output_is : output'
      ≡ after (recolour_refusal w h (length frame) (length plane) (length output)) output
      (overwritten output (recolour frame plane))
