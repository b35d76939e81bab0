-- The C functions answer what the calls answer: for each there is an answer of the call whose number it answers, and
-- with which the memory that it leaves meets the call's own contract. Definitions only.
--
--   Stands          an answer of some kind that the number stands for, with what holds of it
--   StandsCounted   the same of a call that tells both counts, which stand in two lent numbers
--   CFunctions      one claim for each function; a rule is four numbers, a fifth is the number of neighbours, and a
--                   pass and an enhancement by numbers that stand for no rule get 17; a call that tells both counts
--                   gets 14, last of all, where fewer than two numbers are lent
use Rattle.std.specs.Prelude.{ℕ, ◌≤◌, ◌<◌, ◌≡◌, List, [], ◌∷◌, ℤ, pos, length, drop}
use Rattle.planes.specs.Refusals.{◌▷◌, greatest_pixels}
use Rattle.planes.specs.Replies.{refuses, gives}
use Rattle.planes.specs.Shapes.{shape_of, lent_refusal}
use Rattle.tones.specs.declared.Rule.{Rule}
use Rattle.tones.specs.Numbers.{rule_of, form_refusal, RuleFits}
use Rattle.colours.specs.Calls.{status_reply, IntensityOutcome, RecolourOutcome}
use Rattle.std.specs.Prelude.{Result}
use Rattle.planes.specs.declared.refusal.Refusal.{Refusal}
use Rattle.model.specs.declared.Counts.{Counts}
use Rattle.model.specs.Calls.{neighbour_refusal}
use Rattle.model.specs.Outcomes.{answer_reply}
use Rattle.passes.specs.Calls.{pass_call_refusal, PassOutcome}
use Rattle.enhance.specs.Calls.{memory_refusal, enhance_call_refusal, EnhanceOutcome}
use Rattle.conversion.specs.Conversion.{ConvertOutcome}
use Rattle.passlists.specs.Outcomes.{run_list_refusal, ListOutcome}
use Rattle.netpbm.specs.Reading.{read_reply}
use Rattle.netpbm.specs.Writing.{WriteOutcome}
use Rattle.texts.specs.Writing.{written_reply}
use Rattle.cnumbers.specs.Numbers.{number_reply, done_reply, status_number, answer_number, counts_after, written_number}
use Rattle.crules.specs.Rules.{numbers_for, neighbours_for, rule_lent, pass_lent}
use Rattle.cnumbers.specs.Numbers.{pass_of, settings_of}
use Rattle.capi.specs.Calls.{PassNumber, ListNumber, EnhanceNumber, ReadNumber}

-- r is the number of an answer a of which P holds
pub record Stands {A : Type 0} (number : A → ℤ) (P : A → Type 0) (r : ℤ) : Type 0 where
  pub answer : A
  pub number_is : r ≡ number answer
  pub holds : P answer

-- r is the number of an answer of which P holds, and the lent numbers hold its counts; those beyond two stay
pub record StandsCounted (P : Result Counts Refusal → Type 0) (numbers : List ℕ) (r : ℤ) (numbers' : List ℕ)
    : Type 0 where
  pub answer : Result Counts Refusal
  pub number_is : r ≡ answer_number answer
  pub numbers_are : numbers' ≡ counts_after answer numbers
  pub holds : P answer

pub record CFunctions : Type 0 where
  pub of_intensity : (w h : ℕ) {frame plane plane' : List ℕ} (r : ℤ)
      → IntensityOutcome w h frame plane (done_reply r) plane'
      → Stands status_number (λ s. IntensityOutcome w h frame plane (status_reply s) plane') r
  pub of_recolour : (w h : ℕ) {frame plane output output' : List ℕ} (r : ℤ)
      → RecolourOutcome w h frame plane output (done_reply r) output'
      → Stands status_number (λ s. RecolourOutcome w h frame plane output (status_reply s) output') r
  -- every rule has four numbers that stand for it, by four neighbours; a fifth is the number of neighbours: 4 and 8
  -- stand for themselves, and every other gets 19; no other number of them stands for a rule
  pub of_rule : (r : Rule) → RuleFits r → (rule_of (numbers_for (rule_lent r)) ≡ r)
      × ((form_refusal (numbers_for (rule_lent r)) ≡ 0) × (neighbours_for (rule_lent r) ≡ 4))
  pub of_five : (r : Rule) → RuleFits r → (number : ℕ) → (rule_of (numbers_for (pass_lent r number)) ≡ r)
      × ((form_refusal (numbers_for (pass_lent r number)) ≡ 0)
      × (neighbour_refusal (neighbours_for (pass_lent r number)) ≡ neighbour_refusal number))
  pub of_neighbours : (r : Rule) → (neighbours_for (pass_lent r 4) ≡ 4) × (neighbours_for (pass_lent r 8) ≡ 8)
  pub of_no_rule : (rule : List ℕ) → (length rule ≡ 4 → ⊥) → (length rule ≡ 5 → ⊥)
      → form_refusal (numbers_for rule) ≡ 17
  pub of_pass : (w h a b area : ℕ) (rule : List ℕ) {plane marks queue plane' marks' queue' : List ℕ}
      (numbers : List ℕ) {numbers' : List ℕ} (r : ℤ)
      → form_refusal (numbers_for rule) ≡ 0 → 2 ≤ length numbers
      → PassNumber w h a b area rule plane marks queue numbers r plane' marks' queue' numbers'
      → StandsCounted (λ s. PassOutcome (shape_of w h) (pass_of a b area rule)
      plane marks queue (answer_reply s) plane' marks' queue') numbers r numbers'
  -- 17 after 1 to 4, and nothing changes
  pub of_no_pass : (w h a b area : ℕ) (rule : List ℕ) {plane marks queue plane' marks' queue' : List ℕ}
      (numbers : List ℕ) {numbers' : List ℕ} (r : ℤ)
      → form_refusal (numbers_for rule) ≡ 17
      → PassNumber w h a b area rule plane marks queue numbers r plane' marks' queue' numbers'
      → (number_reply r ≡ refuses (lent_refusal (shape_of w h) (length plane) (length marks) (length queue) ▷ 17))
      × (((plane' ≡ plane) × ((marks' ≡ marks) × (queue' ≡ queue))) × (numbers' ≡ numbers))
  -- 14 after all others, and nothing changes
  pub of_pass_short : (w h a b area : ℕ) (rule : List ℕ) {plane marks queue plane' marks' queue' : List ℕ}
      (numbers : List ℕ) {numbers' : List ℕ} (r : ℤ)
      → form_refusal (numbers_for rule) ≡ 0 → length numbers < 2
      → PassNumber w h a b area rule plane marks queue numbers r plane' marks' queue' numbers'
      → (number_reply r
      ≡ refuses (pass_call_refusal (shape_of w h) (pass_of a b area rule) plane marks queue ▷ 14))
      × (((plane' ≡ plane) × ((marks' ≡ marks) × (queue' ≡ queue))) × (numbers' ≡ numbers))
  pub of_list : (w h : ℕ) (list : List ℕ) {plane marks queue plane' marks' queue' : List ℕ}
      (numbers : List ℕ) {numbers' : List ℕ} (r : ℤ) → 2 ≤ length numbers
      → ListNumber w h list plane marks queue numbers r plane' marks' queue' numbers'
      → StandsCounted (λ s. ListOutcome (shape_of w h) list
      plane marks queue (answer_reply s) plane' marks' queue') numbers r numbers'
  pub of_list_short : (w h : ℕ) (list : List ℕ) {plane marks queue plane' marks' queue' : List ℕ}
      (numbers : List ℕ) {numbers' : List ℕ} (r : ℤ) → length numbers < 2
      → ListNumber w h list plane marks queue numbers r plane' marks' queue' numbers'
      → (number_reply r ≡ refuses (run_list_refusal (shape_of w h) list plane marks queue ▷ 14))
      × (((plane' ≡ plane) × ((marks' ≡ marks) × (queue' ≡ queue))) × (numbers' ≡ numbers))
  pub of_enhance : (w h last area : ℕ) (rule frame : List ℕ)
      {plane marks queue output plane' marks' queue' output' : List ℕ} (numbers : List ℕ) {numbers' : List ℕ} (r : ℤ)
      → form_refusal (numbers_for rule) ≡ 0 → 2 ≤ length numbers
      → EnhanceNumber w h last area rule frame plane marks queue output numbers r
      plane' marks' queue' output' numbers'
      → StandsCounted (λ s. EnhanceOutcome (shape_of w h) (settings_of last area rule) frame
      plane marks queue output (answer_reply s) plane' marks' queue' output') numbers r numbers'
  -- 17 after 1, 2, 3, 4 and 14 for the output, and nothing changes
  pub of_no_enhance : (w h last area : ℕ) (rule frame : List ℕ)
      {plane marks queue output plane' marks' queue' output' : List ℕ} (numbers : List ℕ) {numbers' : List ℕ} (r : ℤ)
      → form_refusal (numbers_for rule) ≡ 17
      → EnhanceNumber w h last area rule frame plane marks queue output numbers r
      plane' marks' queue' output' numbers'
      → (number_reply r
      ≡ refuses (memory_refusal (shape_of w h) (length frame) (length plane) (length marks) (length queue)
      (length output)
      ▷ 17))
      × (((plane' ≡ plane) × ((marks' ≡ marks) × ((queue' ≡ queue) × (output' ≡ output)))) × (numbers' ≡ numbers))
  -- 14 after all others, and nothing changes
  pub of_enhance_short : (w h last area : ℕ) (rule frame : List ℕ)
      {plane marks queue output plane' marks' queue' output' : List ℕ} (numbers : List ℕ) {numbers' : List ℕ} (r : ℤ)
      → form_refusal (numbers_for rule) ≡ 0 → length numbers < 2
      → EnhanceNumber w h last area rule frame plane marks queue output numbers r
      plane' marks' queue' output' numbers'
      → (number_reply r
      ≡ refuses (enhance_call_refusal (shape_of w h) (settings_of last area rule) frame plane marks queue
      output ▷ 14))
      × (((plane' ≡ plane) × ((marks' ≡ marks) × ((queue' ≡ queue) × (output' ≡ output)))) × (numbers' ≡ numbers))
  pub of_convert : (list : List ℕ) {output output' : List ℕ} (r : ℤ)
      → ConvertOutcome list output (number_reply r) output'
      → Stands written_number (λ s. ConvertOutcome list output (written_reply s) output') r
  pub of_write : (raster : List ℕ) (w h : ℕ) {output output' : List ℕ} (r : ℤ)
      → WriteOutcome raster w h output (number_reply r) output'
      → Stands written_number (λ s. WriteOutcome raster w h output (written_reply s) output') r
  -- a refusal of reading is answered, and the lent numbers stay
  pub of_read_refused : (bytes numbers : List ℕ) {numbers' : List ℕ} (r : ℤ) (k : ℕ)
      → read_reply bytes greatest_pixels ≡ refuses k → ReadNumber bytes numbers r numbers'
      → (number_reply r ≡ refuses k) × (numbers' ≡ numbers)
  -- width, height and offset stand in three lent numbers; fewer get 14, and stay
  pub of_read : (bytes numbers : List ℕ) {numbers' : List ℕ} (r : ℤ) (w h offset : ℕ)
      → read_reply bytes greatest_pixels ≡ gives (w ∷ h ∷ offset ∷ []) → ReadNumber bytes numbers r numbers'
      → 3 ≤ length numbers
      → (r ≡ pos 0) × (numbers' ≡ w ∷ h ∷ offset ∷ drop 3 numbers)
  pub of_read_short : (bytes numbers : List ℕ) {numbers' : List ℕ} (r : ℤ) (w h offset : ℕ)
      → read_reply bytes greatest_pixels ≡ gives (w ∷ h ∷ offset ∷ []) → ReadNumber bytes numbers r numbers'
      → length numbers < 3
      → (number_reply r ≡ refuses 14) × (numbers' ≡ numbers)
