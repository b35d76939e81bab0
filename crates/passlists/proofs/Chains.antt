-- A list that is not refused is the model's chain of calls of its passes: each call has the lent marks and queue, and
-- the list's answer is the sum of the calls' answers. Assumes nothing.
--
--   passes_chain_lem          passes in memory
--   list_chain                a list of bytes
--   passes_taken, list_taken  none of the calls is refused
use Prim.Native.Nat.{ℕ}
use mathlib.Core.Path.{◌≡◌, refl, sym, ap₂, subst, ◌∙◌}
use mathlib.Core.List.{List, [], ◌∷◌, map}
use lib.ListN.{length}
use Rattle.planes.specs.Refusals.{◌▷◌}
use Rattle.planes.specs.Shapes.{pixels, lent_refusal}
use Rattle.planes.specs.declared.Shape.{Shape}
use Rattle.planes.specs.Replies.{Reply, gives, replied, after}
use Rattle.planes.proofs.Refusals.{▷_none}
use Rattle.planes.proofs.Shapes.{lent_fits}
use Rattle.model.specs.declared.Pass.{Pass}
use Rattle.model.specs.Neighbourhoods.{pass_neighbours}
use Rattle.model.specs.Effects.{Effect, counts, run_effect}
use Rattle.model.specs.Outcomes.{Outcome}
use Rattle.model.specs.Calls.{Call, numbers_refusal, pass_refusal, AllAccepted, none, State, start, chain, chain_effect}
use Rattle.model.specs.Runs.{All, none, more}
use Rattle.model.proofs.Recursion.{all_map, nothing_then}
use Rattle.model.proofs.Enhancement.{chain_calls, chain_taken}
use Rattle.passes.specs.Calls.{call_on}
use Rattle.listformat.specs.Format.{passes_of}
use Rattle.listchecks.specs.Refusals.{first_refusal, list_refusal, passes_refusal}
use Rattle.listchecks.proofs.Refusals.{accepted_list}
use Rattle.passlists.specs.Outcomes.{slices_refusal, run_list_refusal, run_passes_refusal, ListOutcome}
use Rattle.passlists.specs.Outcomes.{PassesOutcome}
use Rattle.passlists.proofs.Refusals.{fine_passes}

-- no pass of a list whose first refusal is none is refused
pub all_fine : (ss : List Pass) → first_refusal (map numbers_refusal ss) ≡ 0 → All (λ s. numbers_refusal s ≡ 0) ss
all_fine [] e = none
all_fine (s ∷ ss) e =
    let two = ▷_none (numbers_refusal s) (first_refusal (map numbers_refusal ss)) e in
    more two.0 (all_fine ss two.1)

module _ (z : Shape) (plane marks queue : List ℕ) where
  abbrev unlent : ℕ
  unlent = slices_refusal z plane marks queue

  abbrev made : Pass → Call
  made = call_on (length marks) (length queue)

  -- the model after the calls of some passes, each with the lent marks and queue
  abbrev pub chained : List Pass → State
  chained ss = chain z (start plane) (map made ss)

  whole : unlent ≡ 0 → length plane ≡ pixels z
  whole e = (lent_fits z (length plane) (length marks) (length queue) e).whole

  -- each of those calls is accepted
  taken : unlent ≡ 0 → (ss : List Pass) → passes_refusal ss ≡ 0
      → All (λ s. pass_refusal z (pixels z) (made s) ≡ 0) ss
  unfolding pass_refusal
  taken e ss f =
      let here = subst (λ (n : ℕ). lent_refusal z n (length marks) (length queue) ≡ 0) (whole e) e in
      all_map (λ s y. ap₂ ◌▷◌ here y) (all_fine ss (fine_passes ss f).1)

  -- so the replies are those of calls that were all accepted
  all-taken : unlent ≡ 0 → (ss : List Pass) → passes_refusal ss ≡ 0 → AllAccepted (chained ss).answers
  all-taken e ss f = chain_taken z made (λ s. refl) ss (taken e ss f) (start plane) (whole e) none

  pub passes_taken : (ss : List Pass) → run_passes_refusal z ss plane marks queue ≡ 0
      → AllAccepted (chained ss).answers
  passes_taken ss e =
      let tests = ▷_none unlent (passes_refusal ss) e in
      all-taken tests.0 ss tests.1

  pub list_taken : (list : List ℕ) → run_list_refusal z list plane marks queue ≡ 0
      → AllAccepted (chained (passes_of list)).answers
  list_taken list e =
      let tests = ▷_none unlent (list_refusal list) e in
      all-taken tests.0 (passes_of list) (accepted_list list tests.1).1

  -- the effect of the calls is that of the run
  chained-runs : unlent ≡ 0 → (ss : List Pass) → passes_refusal ss ≡ 0
      → run_effect (pass_neighbours z) ss plane ≡ chain_effect (chained ss)
  chained-runs e ss f =
      sym (chain_calls z made (λ s. refl) ss (taken e ss f) (start plane) (whole e)
      ∙ nothing_then plane (run_effect (pass_neighbours z) ss plane))

  module _ (reply : Reply) (plane' marks' queue' : List ℕ) where
    -- passes that are not refused, whatever the refusal's number is called
    accepted-chain : (number : ℕ) (ss : List Pass) → number ≡ 0 → unlent ≡ 0 → passes_refusal ss ≡ 0
        → Outcome (pixels z) number (run_effect (pass_neighbours z) ss plane) plane marks queue
        reply plane' marks' queue'
        → (plane' ≡ (chained ss).plane) × (reply ≡ gives (counts (chain_effect (chained ss))))
    accepted-chain number ss e l f out =
        let same = chained-runs l ss f in (
          out.plane_is ∙ ap₂ (λ (k : ℕ) (r : Effect). after k plane r.plane) e same,
          out.answer ∙ ap₂ (λ (k : ℕ) (r : Effect). replied k (counts r)) e same,
        )

    pub passes_chain_lem : (ss : List Pass) → run_passes_refusal z ss plane marks queue ≡ 0
        → PassesOutcome z ss plane marks queue reply plane' marks' queue'
        → (plane' ≡ (chained ss).plane) × (reply ≡ gives (counts (chain_effect (chained ss))))
    passes_chain_lem ss e out =
        let tests = ▷_none unlent (passes_refusal ss) e in
        accepted-chain (run_passes_refusal z ss plane marks queue) ss e tests.0 tests.1 out

    pub list_chain : (list : List ℕ) → run_list_refusal z list plane marks queue ≡ 0
        → ListOutcome z list plane marks queue reply plane' marks' queue'
        → (plane' ≡ (chained (passes_of list)).plane)
        × (reply ≡ gives (counts (chain_effect (chained (passes_of list)))))
    list_chain list e out =
        let tests = ▷_none unlent (list_refusal list) e in
        let fine = (accepted_list list tests.1).1 in
        accepted-chain (run_list_refusal z list plane marks queue) (passes_of list) e tests.0 fine out
