-- What each C function answers and leaves in the memory that it is lent: the very outcome of the call that it stands
-- for, with the answer as a number. Four have a form of their own. n = w × h. Definitions only.
--
--   CountsOutcome   the outcome of a call that tells both counts: they go to two lent numbers, and fewer get 14
--   PassCounted, ListCounted, EnhanceCounted
--                   the outcomes of these calls by their results, before both counts go to the lent numbers
--   PassNumber      the contract of `mlhe_pass`: a pass by its numbers, with 17 for numbers that stand for no rule
--   ListNumber      the contract of `mlhe_run_list`
--   EnhanceNumber   the contract of `mlhe_enhance`, with 17 as for a pass
--   ReadNumber      the contract of `mlhe_read`: what is read goes to three lent numbers
use Rattle.std.specs.Prelude.{ℕ, ◌≡◌, List, ℤ, length}
use Rattle.planes.specs.Refusals.{◌▷◌, greatest_pixels}
use Rattle.planes.specs.Replies.{Reply, after, overwritten}
use Rattle.planes.specs.Shapes.{shape_of, pixels, lent_refusal}
use Rattle.planes.specs.declared.Shape.{Shape}
use Rattle.tones.specs.declared.RuleNumbers.{RuleNumbers}
use Rattle.tones.specs.Numbers.{form_refusal}
use Rattle.colours.specs.Frames.{recolour}
use Rattle.model.specs.declared.Pass.{Pass}
use Rattle.model.specs.Neighbourhoods.{pass_neighbours}
use Rattle.model.specs.Effects.{Effect, counts, pass_effect, run_effect}
use Rattle.model.specs.Outcomes.{Outcome, OutputOutcome}
use Rattle.model.specs.Calls.{numbers_refusal, chain_effect}
use Rattle.levels.specs.declared.Settings.{Settings}
use Rattle.enhance.specs.Calls.{settings_refusal, memory_refusal, chain_of}
use Rattle.netpbm.specs.Reading.{read_answer}
use Rattle.listformat.specs.Format.{passes_of}
use Rattle.passlists.specs.Outcomes.{run_list_refusal}
use Rattle.crules.specs.Rules.{numbers_for}
use Rattle.cnumbers.specs.Numbers.{counts_refusal, counts_reply, pass_of, settings_of, read_number, numbers_after}

-- ## Calls that tell both counts

-- the outcome of a call, with both counts in two lent numbers; those beyond stay, and all of them where it is refused
pub record CountsOutcome (n number : ℕ) (e : Effect) (plane marks queue numbers : List ℕ) (r : ℤ)
    (plane' marks' queue' numbers' : List ℕ) : Type 0 where
  pub outcome : Outcome n number e plane marks queue (counts_reply r numbers') plane' marks' queue'
  pub numbers_are : numbers' ≡ after number numbers (overwritten numbers (counts e))

-- the same of a call that is lent an output too
pub record CountsOutputOutcome (n number : ℕ) (e : Effect) (bytes plane marks queue output numbers : List ℕ) (r : ℤ)
    (plane' marks' queue' output' numbers' : List ℕ) : Type 0 where
  pub outcome : OutputOutcome n number e bytes plane marks queue output (counts_reply r numbers')
      plane' marks' queue' output'
  pub numbers_are : numbers' ≡ after number numbers (overwritten numbers (counts e))

-- ## A pass

-- 1 to 4, 17, 5 to 8, 18, 19, 14
unfoldable pub pass_refusal_of : Shape → RuleNumbers → Pass → List ℕ → List ℕ → List ℕ → List ℕ → ℕ
pass_refusal_of z n s plane marks queue numbers =
    lent_refusal z (length plane) (length marks) (length queue)
    ▷ form_refusal n ▷ numbers_refusal s ▷ counts_refusal (length numbers)

abbrev pub PassCounted : (z : Shape) (n : RuleNumbers) (s : Pass) (numbers plane marks queue : List ℕ) (reply : Reply)
    (plane' marks' queue' : List ℕ) → Type 0
PassCounted z n s numbers plane marks queue =
    Outcome (pixels z) (pass_refusal_of z n s plane marks queue numbers) (pass_effect (pass_neighbours z) s plane)
    plane marks queue

abbrev pub PassNumber : (w h a b area : ℕ) (rule plane marks queue numbers : List ℕ) (r : ℤ)
    (plane' marks' queue' numbers' : List ℕ) → Type 0
PassNumber w h a b area rule plane marks queue numbers =
    let z = shape_of w h in
    let s = pass_of a b area rule in
    CountsOutcome (pixels z) (pass_refusal_of z (numbers_for rule) s plane marks queue numbers)
    (pass_effect (pass_neighbours z) s plane) plane marks queue numbers

-- ## A list of passes: the sums of both counts

-- 1 to 4, then those of the list, 14
abbrev pub list_refusal_of : Shape → List ℕ → List ℕ → List ℕ → List ℕ → List ℕ → ℕ
list_refusal_of z list plane marks queue numbers =
    run_list_refusal z list plane marks queue ▷ counts_refusal (length numbers)

abbrev pub ListCounted : (z : Shape) (list numbers plane marks queue : List ℕ) (reply : Reply)
    (plane' marks' queue' : List ℕ) → Type 0
ListCounted z list numbers plane marks queue =
    Outcome (pixels z) (list_refusal_of z list plane marks queue numbers)
    (run_effect (pass_neighbours z) (passes_of list) plane) plane marks queue

abbrev pub ListNumber : (w h : ℕ) (list plane marks queue numbers : List ℕ) (r : ℤ)
    (plane' marks' queue' numbers' : List ℕ) → Type 0
ListNumber w h list plane marks queue numbers =
    let z = shape_of w h in
    CountsOutcome (pixels z) (list_refusal_of z list plane marks queue numbers)
    (run_effect (pass_neighbours z) (passes_of list) plane) plane marks queue numbers

-- ## An enhancement: the sums of both counts over its passes

-- 1, 2, 3, 4, 14 for the output, 17, 9, 6, 7, 8, 18, 19, 14 for the counts
unfoldable pub enhance_refusal_of : Shape → RuleNumbers → Settings → List ℕ → List ℕ → List ℕ → List ℕ → List ℕ → List ℕ
    → ℕ
enhance_refusal_of z n t frame plane marks queue output numbers =
    memory_refusal z (length frame) (length plane) (length marks) (length queue) (length output)
    ▷ form_refusal n ▷ settings_refusal t ▷ counts_refusal (length numbers)

abbrev pub EnhanceCounted : (z : Shape) (n : RuleNumbers) (t : Settings)
    (frame numbers plane marks queue output : List ℕ) (reply : Reply) (plane' marks' queue' output' : List ℕ) → Type 0
EnhanceCounted z n t frame numbers plane marks queue output =
    OutputOutcome (pixels z) (enhance_refusal_of z n t frame plane marks queue output numbers)
    (chain_effect (chain_of z t frame)) (recolour frame (chain_of z t frame).plane) plane marks queue output

abbrev pub EnhanceNumber : (w h last area : ℕ) (rule frame plane marks queue output numbers : List ℕ)
    (r : ℤ) (plane' marks' queue' output' numbers' : List ℕ) → Type 0
EnhanceNumber w h last area rule frame plane marks queue output numbers =
    let z = shape_of w h in
    let t = settings_of last area rule in
    CountsOutputOutcome (pixels z)
    (enhance_refusal_of z (numbers_for rule) t frame plane marks queue output numbers)
    (chain_effect (chain_of z t frame)) (recolour frame (chain_of z t frame).plane)
    plane marks queue output numbers

-- ## Reading: width, height and the raster's offset go to three lent numbers

pub record ReadNumber (bytes numbers : List ℕ) (r : ℤ) (numbers' : List ℕ) : Type 0 where
  pub answer : r ≡ read_number (read_answer bytes greatest_pixels) (length numbers)
  pub numbers_are : numbers' ≡ numbers_after (read_answer bytes greatest_pixels) numbers
