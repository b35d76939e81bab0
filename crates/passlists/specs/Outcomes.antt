-- What a list of passes does to its answer and to each lent slice. Definitions only.
--
--   slices_refusal      the refusal of the lent slices, by their lengths: 1 to 4
--   run_list_refusal    the refusal that a list of bytes meets with: 1 to 4, then those of the list
--   run_passes_refusal  the refusal that passes in memory meet with: 1 to 4, then those of the passes
--   ListOutcome         the contract of `run_list`
--   PassesOutcome       the contract of `run_passes`
use Rattle.std.specs.Prelude.{ℕ, List, length}
use Rattle.planes.specs.Refusals.{◌▷◌}
use Rattle.planes.specs.Shapes.{pixels, lent_refusal}
use Rattle.planes.specs.declared.Shape.{Shape}
use Rattle.planes.specs.Replies.{Reply}
use Rattle.model.specs.declared.Pass.{Pass}
use Rattle.model.specs.Neighbourhoods.{pass_neighbours}
use Rattle.model.specs.Effects.{run_effect}
use Rattle.model.specs.Outcomes.{Outcome}
use Rattle.listformat.specs.Format.{passes_of}
use Rattle.listchecks.specs.Refusals.{list_refusal, passes_refusal}

abbrev pub slices_refusal : Shape → List ℕ → List ℕ → List ℕ → ℕ
slices_refusal z plane marks queue = lent_refusal z (length plane) (length marks) (length queue)

abbrev pub run_list_refusal : Shape → List ℕ → List ℕ → List ℕ → List ℕ → ℕ
run_list_refusal z list plane marks queue = slices_refusal z plane marks queue ▷ list_refusal list

abbrev pub run_passes_refusal : Shape → List Pass → List ℕ → List ℕ → List ℕ → ℕ
run_passes_refusal z ss plane marks queue = slices_refusal z plane marks queue ▷ passes_refusal ss

-- the outcome by the refusal and by the effect of the list's passes on the lent plane, one after the other
abbrev pub ListOutcome : (z : Shape) (list plane marks queue : List ℕ) (reply : Reply)
    (plane' marks' queue' : List ℕ) → Type 0
ListOutcome z list plane marks queue =
    Outcome (pixels z) (run_list_refusal z list plane marks queue)
    (run_effect (pass_neighbours z) (passes_of list) plane)
    plane marks queue

abbrev pub PassesOutcome : (z : Shape) (ss : List Pass) (plane marks queue : List ℕ) (reply : Reply)
    (plane' marks' queue' : List ℕ) → Type 0
PassesOutcome z ss plane marks queue =
    Outcome (pixels z) (run_passes_refusal z ss plane marks queue) (run_effect (pass_neighbours z) ss plane)
    plane marks queue
