-- The call `enhance`: its refusals in order, its answer, and what it does to each lent slice. Definitions only.
--
--   house, level_refusal, settings_refusal   of the settings
--   memory_refusal    1, 2, 3, 4, 14, by the shape and by what is lent
--   enhance_refusal   the number of the first refusal that applies, of 1, 2, 3, 4, 14, 9, 6, 7, 8, 18; 0 where none
--                     does
--   chain_of          the chain of passes that an enhancement stands for, from the frame's intensity
--   sufficient_of     the components of sufficient area that the passes of this chain find
--   Enhances         an accepted enhancement
--   EnhanceOutcome   the contract of `enhance`
use Rattle.std.specs.Prelude.{ℕ, ◌*◌, ◌≡◌, List, map, length}
use Rattle.planes.specs.Refusals.{◌▷◌, length_refusal, room_refusal, output_refusal}
use Rattle.planes.specs.Replies.{Reply, overwritten}
use Rattle.planes.specs.Shapes.{pixels, shape_refusal}
use Rattle.planes.specs.declared.Shape.{Shape}
use Rattle.colours.specs.Frames.{intensity, recolour}
use Rattle.model.specs.declared.Counts.{Counts}
use Rattle.model.specs.Outcomes.{Over, OutputOutcome}
use Rattle.model.specs.Calls.{State, chain_effect, chain_sufficient}
use Rattle.model.specs.Enhancement.{passes, call_of, enhanced}
pub use Rattle.levels.specs.declared.Settings.{Settings}
pub use Rattle.levels.specs.Levels.{house}
unfoldable pub use Rattle.levels.specs.Levels.{level_refusal, settings_refusal}

-- ## Refusals, by the lengths of what is lent

-- 1, 2, 3, 4, 14
unfoldable pub memory_refusal : Shape → ℕ → ℕ → ℕ → ℕ → ℕ → ℕ
memory_refusal z frame plane marks queue output =
    shape_refusal z ▷ length_refusal plane (pixels z) ▷ length_refusal frame (3 * pixels z)
    ▷ room_refusal (pixels z) marks queue ▷ output_refusal output (3 * pixels z)

-- 1, 2, 3, 4, 14, 9, 6, 7, 8, 18, 19
unfoldable pub enhance_refusal : Shape → ℕ → ℕ → ℕ → ℕ → ℕ → Settings → ℕ
enhance_refusal z frame plane marks queue output t =
    memory_refusal z frame plane marks queue output ▷ settings_refusal t

-- ## What an enhancement does

-- the list of passes level by level, lower section first, level 0 with area 1, run as a chain from the intensity
abbrev pub chain_of : Shape → Settings → List ℕ → State
chain_of z t frame = enhanced z (intensity frame) t.last t.area t.rule t.neighbours

-- the number of components of sufficient area, summed over these passes, in the plane as each finds it
abbrev pub sufficient_of : Shape → Settings → List ℕ → ℕ
sufficient_of z t frame =
    chain_sufficient z (intensity frame) (map (call_of (pixels z)) (passes t.last t.area t.rule t.neighbours))

-- the plane and the sums of both counts of the chain, and the output recoloured from its last plane; what lies beyond
-- stays
pub record Enhances (z : Shape) (t : Settings) (frame marks queue output : List ℕ) (r : Counts)
    (plane' marks' queue' output' : List ℕ) : Type 0 where
  pub over : Over (pixels z) (chain_effect (chain_of z t frame)) marks queue plane' marks' queue' r
  pub output_is : output' ≡ overwritten output (recolour frame (chain_of z t frame).plane)

-- the number of the first refusal that applies to a call, 0 where none does
abbrev pub enhance_call_refusal : Shape → Settings → List ℕ → List ℕ → List ℕ → List ℕ → List ℕ → ℕ
enhance_call_refusal z t frame plane marks queue output =
    enhance_refusal z (length frame) (length plane) (length marks) (length queue) (length output) t

-- the outcome of a call by its refusal, by the effect of the chain, and by the frame recoloured from its last plane
abbrev pub EnhanceOutcome : (z : Shape) (t : Settings) (frame plane marks queue output : List ℕ) (reply : Reply)
    (plane' marks' queue' output' : List ℕ) → Type 0
EnhanceOutcome z t frame plane marks queue output =
    OutputOutcome (pixels z) (enhance_call_refusal z t frame plane marks queue output)
    (chain_effect (chain_of z t frame))
    (recolour frame (chain_of z t frame).plane) plane marks queue output
