-- Calls of `intensity` and `recolour`: what it means that none of their refusals applies, and what a call leaves that
-- was not refused. Assumes nothing.
use Prim.Native.Nat.{ℕ, ◌*◌, ◌≤◌}
use mathlib.Core.Path.{◌≡◌, sym, ap, ◌∙◌}
use mathlib.Core.List.{List, []}
use native.Mathlib.Omega.{arith}
use lib.ListN.{length}
use Rattle.planes.specs.Refusals.{◌▷◌, length_refusal, output_refusal, size_refusal, greatest_pixels}
use Rattle.planes.proofs.Refusals.{▷_none, ▷_both, ▷_assoc, length_fits, length_none, output_fits, output_none}
use Rattle.planes.proofs.Refusals.{sized, sized_none}
use Rattle.planes.specs.Replies.{Reply, gives, replied, after, overwritten}
use Rattle.planes.proofs.Replies.{replied_gives}
use Rattle.planes.proofs.Refusals.{refused_by, passed_first}
use Rattle.colours.specs.Frames.{intensity, recolour}
use Rattle.colours.specs.Calls.{intensity_refusal, recolour_refusal, Accepted}
use Rattle.colours.specs.Calls.{IntensityOutcome, RecolourOutcome}
use Rattle.colours.proofs.Frames.{length_intensity}

-- ## Refusals

module _ (w h frame plane : ℕ) where
  -- the refusals by the lengths of the plane and the frame
  abbrev lengths : ℕ
  lengths = length_refusal plane (w * h) ▷ length_refusal frame (3 * (w * h))

  pub intensity_accepted : intensity_refusal w h frame plane ≡ 0 → Accepted w h frame plane
  unfolding intensity_refusal
  intensity_accepted e =
      let tests = ▷_none (size_refusal w h greatest_pixels) lengths e in
      let fit = ▷_none (length_refusal plane (w * h)) (length_refusal frame (3 * (w * h))) tests.1 in
      record {
        size = sized w h greatest_pixels tests.0;
        pixels = length_fits plane (w * h) fit.0;
        channels = length_fits frame (3 * (w * h)) fit.1;
      }

  -- and back
  pub intensity_accepts : Accepted w h frame plane → intensity_refusal w h frame plane ≡ 0
  unfolding intensity_refusal
  intensity_accepts a =
      ▷_both (size_refusal w h greatest_pixels) lengths (sized_none w h greatest_pixels a.size)
      (▷_both (length_refusal plane (w * h)) _ (length_none plane (w * h) a.pixels)
      (length_none frame (3 * (w * h)) a.channels))

  module _ (output : ℕ) where
    -- the refusals of `recolour` are those of `intensity`, then 14
    pub recolour_order : recolour_refusal w h frame plane output
        ≡ intensity_refusal w h frame plane ▷ output_refusal output (3 * (w * h))
    unfolding intensity_refusal recolour_refusal
    recolour_order =
        let last = output_refusal output (3 * (w * h)) in
        ap (◌▷◌ (size_refusal w h greatest_pixels)) (sym (▷_assoc (length_refusal plane (w * h)) _ last))
        ∙ sym (▷_assoc (size_refusal w h greatest_pixels) lengths last)

    pub recolour_accepted : recolour_refusal w h frame plane output ≡ 0
        → Accepted w h frame plane × (3 * (w * h) ≤ output)
    recolour_accepted e =
        let tests = ▷_none (intensity_refusal w h frame plane) _ (sym recolour_order ∙ e) in
        (intensity_accepted tests.0, output_fits output (3 * (w * h)) tests.1)

    -- a frame and a plane that `intensity` accepts are accepted by `recolour`, with an output that is long enough
    pub recolour_accepts : intensity_refusal w h frame plane ≡ 0 → 3 * (w * h) ≤ output
        → recolour_refusal w h frame plane output ≡ 0
    recolour_accepts e room =
        recolour_order ∙ ▷_both (intensity_refusal w h frame plane) _ e (output_none output (3 * (w * h)) room)

-- ## Outcomes

module _ (w h : ℕ) (frame plane : List ℕ) where
  abbrev filling : ℕ
  filling = intensity_refusal w h (length frame) (length plane)

  -- a call that gives its values was not refused, and filled the plane
  pub intensity_given : {vs plane' : List ℕ} → IntensityOutcome w h frame plane (gives vs) plane'
      → (filling ≡ 0) × (plane' ≡ intensity frame)
  intensity_given o =
      let none = (replied_gives filling [] (sym o.answer)).0 in
      (none, o.plane_is ∙ ap (λ (j : ℕ). after j plane (intensity frame)) none)

  -- a plane that was filled has one byte for each pixel
  pub filled_length : {vs plane' : List ℕ} → IntensityOutcome w h frame plane (gives vs) plane' → length plane' ≡ w * h
  filled_length o =
      let filled = intensity_given o in
      let accepted = intensity_accepted w h (length frame) (length plane) filled.0 in
      rw filled.1 (omega (arith, length_intensity frame, accepted.channels))

module _ (w h : ℕ) (frame plane output : List ℕ) where
  abbrev colouring : ℕ
  colouring = recolour_refusal w h (length frame) (length plane) (length output)

  abbrev coloured : List ℕ
  coloured = overwritten output (recolour frame plane)

  -- what a call that was not refused leaves: the recoloured frame, and beyond it what was there
  pub recolour_given : {reply : Reply} {output' : List ℕ} → colouring ≡ 0
      → RecolourOutcome w h frame plane output reply output' → (reply ≡ gives []) × (output' ≡ coloured)
  recolour_given none o = (
    o.answer ∙ ap (λ (j : ℕ). replied j []) none,
    o.output_is ∙ ap (λ (j : ℕ). after j output coloured) none,
  )

-- ## What finds the contract of the tests of `recolour`

pub ruleset in_order = (refused_by, passed_first, recolour_order, intensity_accepted)
