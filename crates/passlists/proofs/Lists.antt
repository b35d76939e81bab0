-- A list of bytes and its passes in memory have the same outcome. Assumes nothing.
--
--   same_outcomes     the contract of `run_list` for passes that are written, in either edition, is the contract of
--                     `run_passes` for them
--   file_and_memory   so the two calls give one answer and one plane
use Prim.Native.Nat.{ℕ, ◌<◌}
use mathlib.Core.Path.{◌≡◌, sym, ap, ap₂, ◌∙◌}
use mathlib.Core.List.{List}
use lib.ListN.{length}
use Rattle.planes.specs.Refusals.{◌▷◌}
use Rattle.planes.specs.Shapes.{pixels, lent_refusal}
use Rattle.planes.specs.declared.Shape.{Shape}
use Rattle.planes.specs.Replies.{Reply, replied, after}
use Rattle.model.specs.declared.Pass.{Pass}
use Rattle.model.specs.Neighbourhoods.{pass_neighbours}
use Rattle.model.specs.Effects.{Effect, counts, run_effect}
use Rattle.model.specs.Outcomes.{Outcome}
use Rattle.model.specs.Runs.{All}
use Rattle.listformat.specs.declared.Edition.{Edition}
use Rattle.listformat.specs.Format.{encode, Storable}
use Rattle.listchecks.specs.Refusals.{list_refusal}
use Rattle.listformat.proofs.Format.{passes_encode}
use Rattle.listchecks.proofs.Refusals.{encoded_refusal}
use Rattle.passlists.specs.Outcomes.{run_list_refusal, run_passes_refusal, ListOutcome, PassesOutcome}

-- any passes that a list's count can tell, also more than it may have, in either edition
module _ (e : Edition) (ss : List Pass) (told : length ss < 65536) (fit : All (Storable e) ss) (z : Shape)
    (plane marks queue : List ℕ) (reply : Reply) (plane' marks' queue' : List ℕ) where
  pub same_outcomes : ListOutcome z (encode e ss) plane marks queue reply plane' marks' queue'
      ≡ PassesOutcome z ss plane marks queue reply plane' marks' queue'
  same_outcomes =
      ap₂ (λ (k : ℕ) (ps : List Pass).
      Outcome (pixels z) (lent_refusal z (length plane) (length marks) (length queue) ▷ k)
      (run_effect (pass_neighbours z) ps plane) plane marks queue reply plane' marks' queue')
      (encoded_refusal e ss told fit) (passes_encode e ss told fit).0

  pub file_and_memory : (marks₂ queue₂ : List ℕ) (reply₂ : Reply) (plane₂' marks₂' queue₂' : List ℕ)
      → length marks₂ ≡ length marks → length queue₂ ≡ length queue
      → ListOutcome z (encode e ss) plane marks queue reply plane' marks' queue'
      → PassesOutcome z ss plane marks₂ queue₂ reply₂ plane₂' marks₂' queue₂'
      → (reply ≡ reply₂) × (plane' ≡ plane₂')
  file_and_memory marks₂ queue₂ reply₂ plane₂' marks₂' queue₂' m q file memory =
      let same : run_list_refusal z (encode e ss) plane marks queue ≡ run_passes_refusal z ss plane marks₂ queue₂ =
      ap₂ (λ (i j : ℕ). lent_refusal z (length plane) i j ▷ list_refusal (encode e ss)) (sym m) (sym q)
      ∙ ap (lent_refusal z (length plane) (length marks₂) (length queue₂) ▷◌) (encoded_refusal e ss told fit) in
      let read = ap (λ (ps : List Pass). run_effect (pass_neighbours z) ps plane) (passes_encode e ss told fit).0 in (
        file.answer ∙ ap₂ (λ (k : ℕ) (f : Effect). replied k (counts f)) same read ∙ sym memory.answer,
        file.plane_is ∙ ap₂ (λ (k : ℕ) (f : Effect). after k plane f.plane) same read ∙ sym memory.plane_is,
      )
