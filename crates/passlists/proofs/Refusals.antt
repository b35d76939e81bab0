-- The refusals of passes, and what passes have that are not refused. Assumes nothing.
use Prim.Native.Nat.{ℕ, ◌≤◌, ◌<◌}
use mathlib.Core.Path.{◌≡◌, sym, subst, ◌∙◌}
use mathlib.Core.List.{List, map}
use lib.ListN.{length, get_or, length-map}
use lib.Dec.{ltb}
use borrow.Author.Tests.{ltb-false}
use Rattle.planes.specs.Refusals.{when}
use Rattle.planes.proofs.Refusals.{when_none, ▷_none}
use Rattle.model.specs.declared.Pass.{Pass}
use Rattle.model.specs.Calls.{numbers_refusal}
use Rattle.listformat.specs.Format.{greatest_count, passes_of, head_refusal}
use Rattle.listformat.proofs.Format.{no_pass}
use Rattle.listchecks.specs.Refusals.{first_refusal, record_refusals, list_refusal, passes_refusal}
use Rattle.listchecks.proofs.First.{clear_each}
use Rattle.listchecks.proofs.Refusals.{passes_at, accepted_list}

-- what passes have that are not refused
pub fine_passes : (ss : List Pass) → passes_refusal ss ≡ 0
    → (length ss ≤ greatest_count) × (first_refusal (map numbers_refusal ss) ≡ 0)
unfolding passes_refusal
fine_passes ss e =
    let tests = ▷_none (when (ltb greatest_count (length ss)) 16) (first_refusal (map numbers_refusal ss)) e in
    (ltb-false greatest_count (length ss) (when_none (ltb greatest_count (length ss)) 15 tests.0), tests.1)

pub fine_pass : (ss : List Pass) → passes_refusal ss ≡ 0 → (i : ℕ) → i < length ss
    → numbers_refusal (get_or ss i no_pass) ≡ 0
fine_pass ss e i h =
    let inside : i < length (map numbers_refusal ss) = subst (i <◌) (sym (length-map ss numbers_refusal)) h in
    sym (passes_at ss i no_pass h) ∙ clear_each (map numbers_refusal ss) (fine_passes ss e).1 i inside

-- ## A list of bytes that is not refused

pub list_head : (list : List ℕ) → list_refusal list ≡ 0 → head_refusal list ≡ 0
unfolding list_refusal
list_head list fine = (▷_none (head_refusal list) (first_refusal (record_refusals list)) fine).0

pub list_runs : (list : List ℕ) → list_refusal list ≡ 0 → passes_refusal (passes_of list) ≡ 0
list_runs list fine = (accepted_list list fine).1
