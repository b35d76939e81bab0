-- What each C function does, by what the call under it does: the result is encoded, and the memory is as the call
-- leaves it. Assumes nothing.
use Prim.Native.Nat.{ℕ, zero, suc, ◌≤◌}
use mathlib.Core.Path.{◌≡◌, refl, sym, ap, ap₂, subst, ◌∙◌}
use mathlib.Core.Bool.{Bool}
use mathlib.Core.List.{List, [], ◌∷◌}
use native.Mathlib.Omega.{arith}
use lib.IntN.{ℤ}
use lib.ListN.{length, length-append}
use lib.Dec.{ltb}
use borrow.Author.Tests.{le-ltb, ltb-false}
use Rattle.std.specs.Prelude.{Result, Ok, Err, IfOk}
use Rattle.planes.specs.declared.refusal.Refusal.{Refusal}
use Rattle.planes.specs.Refusals.{when, ◌▷◌}
use Rattle.planes.specs.Replies.{gives, replied, after, overwritten}
use Rattle.planes.specs.Shapes.{lent_refusal}
use Rattle.planes.specs.declared.Shape.{Shape}
use Rattle.planes.proofs.Refusals.{▷_none, ▷_both, when_none}
use Rattle.planes.proofs.Replies.{replied_gives, replied_refuses}
use Rattle.tones.specs.declared.Rule.{Rule}
use Rattle.tones.specs.declared.RuleNumbers.{RuleNumbers}
use Rattle.tones.specs.Numbers.{rule_of, form_refusal}
use Rattle.crules.specs.Rules.{numbers_for, neighbours_for}
use Rattle.colours.specs.Calls.{intensity_refusal, recolour_refusal, status_reply, IntensityOutcome, RecolourOutcome}
use Rattle.model.specs.declared.Pass.{Pass}
use Rattle.model.specs.declared.Counts.{Counts}
use Rattle.model.specs.Effects.{Effect, counts}
use Rattle.model.specs.Outcomes.{answer_reply, Outcome, OutputOutcome}
use Rattle.model.specs.Calls.{numbers_refusal}
use Rattle.levels.specs.declared.Settings.{Settings}
use Rattle.enhance.specs.Calls as enhance
use Rattle.texts.specs.Heading.{heading}
use Rattle.texts.proofs.Heading.{heading_short}
use Rattle.texts.specs.Writing.{written_reply, WritingOutcome}
use Rattle.texts.proofs.Writing.{wrote_none, wrote_size}
use Rattle.listformat.specs.Format.{other, count_of, edition_of}
use Rattle.listformat.proofs.Format.{headed, records_low}
use Rattle.conversion.specs.Conversion.{ConvertOutcome}
use Rattle.conversion.proofs.Refusals.{length_converted, convertible, head_sound}
use Rattle.netpbm.specs.Writing.{WriteOutcome}
use Rattle.netpbm.proofs.Writing.{wrote_writable}
use Rattle.cnumbers.specs.Numbers.{number_reply, done_reply, status_number, answer_number, written_number}
use Rattle.cnumbers.specs.Numbers.{Short, counts_after, counts_refusal, counts_reply, pass_of, settings_of}
use Rattle.cnumbers.proofs.Numbers.{status_reads, answer_reads, written_reads}
use Rattle.capi.specs.Calls.{CountsOutcome, CountsOutputOutcome, pass_refusal_of}
use Rattle.capi.specs.Calls.{enhance_refusal_of}

-- ## Outcomes with the answer as a number

pub intensity_coded : {w h : ℕ} {frame plane plane' : List ℕ} {r : ℤ} (s : Result (Unit {0}) Refusal)
    → r ≡ status_number s
    → IntensityOutcome w h frame plane (status_reply s) plane' → IntensityOutcome w h frame plane (done_reply r) plane'
intensity_coded {w} {h} {frame} {plane} s e o = record {
  answer = ap done_reply e ∙ status_reads s (intensity_refusal w h (length frame) (length plane)) o.answer;
  plane_is = o.plane_is;
}

pub recolour_coded : {w h : ℕ} {frame plane output output' : List ℕ} {r : ℤ} (s : Result (Unit {0}) Refusal)
    → r ≡ status_number s
    → RecolourOutcome w h frame plane output (status_reply s) output'
    → RecolourOutcome w h frame plane output (done_reply r) output'
recolour_coded {w} {h} {frame} {plane} {output} s e o = record {
  answer = ap done_reply e
      ∙ status_reads s (recolour_refusal w h (length frame) (length plane) (length output)) o.answer;
  output_is = o.output_is;
}

pub write_coded : {number : ℕ} {bytes output output' : List ℕ} {r : ℤ} (s : Result ℕ Refusal) → r ≡ written_number s
    → WritingOutcome number bytes output (written_reply s) output'
    → WritingOutcome number bytes output (number_reply r) output'
write_coded {number} {bytes} s e o = record {
  answer = ap number_reply e ∙ written_reads s number (length bytes ∷ []) o.answer;
  output_is = o.output_is;
}

-- ## Calls that tell both counts

-- the numbers that an answer leaves are those of the effect, unless there is a refusal
after_counts : (s : Result Counts Refusal) (numbers : List ℕ) (k : ℕ) (vs : List ℕ) → answer_reply s ≡ replied k vs
    → counts_after s numbers ≡ after k numbers (overwritten numbers vs)
after_counts (Ok r) numbers k vs e =
    let given = replied_gives k vs (sym e) in
    ap (overwritten numbers) given.1
    ∙ sym (ap (λ (j : ℕ). after j numbers (overwritten numbers vs)) given.0)
after_counts (Err r) numbers k vs e =
    let (j, (is, _)) = replied_refuses k vs (sym e) in
    sym (ap (λ (i : ℕ). after i numbers (overwritten numbers vs)) is)

module _ {n number : ℕ} {e : Effect} {plane marks queue plane' marks' queue' : List ℕ} where
  coded : (numbers : List ℕ) {numbers' : List ℕ} {r : ℤ} (s : Result Counts Refusal) → r ≡ answer_number s
      → numbers' ≡ counts_after s numbers
      → Outcome n number e plane marks queue (answer_reply s) plane' marks' queue'
      → Outcome n number e plane marks queue (counts_reply r numbers') plane' marks' queue'
  coded numbers s d f o = record {
    answer = ap₂ counts_reply d f ∙ answer_reads s numbers number (counts e) o.answer;
    plane_is = o.plane_is;
    refused = o.refused;
    marks_rest = o.marks_rest;
    queue_rest = o.queue_rest;
  }

  pub counts_coded : {numbers numbers' : List ℕ} {r : ℤ} (s : Result Counts Refusal) → r ≡ answer_number s
      → numbers' ≡ counts_after s numbers
      → Outcome n number e plane marks queue (answer_reply s) plane' marks' queue'
      → CountsOutcome n number e plane marks queue numbers r plane' marks' queue' numbers'
  counts_coded {numbers} s d f o = record {
    outcome = coded numbers s d f o;
    numbers_are = f ∙ after_counts s numbers number (counts e) o.answer;
  }

  pub output_coded : {bytes output output' numbers numbers' : List ℕ} {r : ℤ} (s : Result Counts Refusal)
      → r ≡ answer_number s
      → numbers' ≡ counts_after s numbers
      → OutputOutcome n number e bytes plane marks queue output (answer_reply s) plane' marks' queue' output'
      → CountsOutputOutcome n number e bytes plane marks queue output numbers r plane' marks' queue' output' numbers'
  output_coded {numbers = numbers} s d f o = record {
    outcome = record { retoned = coded numbers s d f o.retoned; output_is = o.output_is };
    numbers_are = f ∙ after_counts s numbers number (counts e) o.retoned.answer;
  }

-- where no refusal applies, 14 after all others does not, and there is room for both counts
pub last_room : (x : ℕ) (numbers : List ℕ) → x ▷ counts_refusal (length numbers) ≡ 0 → 2 ≤ length numbers
last_room x numbers e =
    let none = (▷_none x (counts_refusal (length numbers)) e).1 in
    ltb-false (length numbers) 2 (when_none (ltb (length numbers) 2) 13 none)

fourth_room : (x y z : ℕ) (numbers : List ℕ) → x ▷ y ▷ z ▷ counts_refusal (length numbers) ≡ 0 → 2 ≤ length numbers
fourth_room x y z numbers e =
    last_room z numbers (▷_none y (z ▷ counts_refusal (length numbers)) (▷_none x _ e).1).1

pub pass_room : (z : Shape) (n : RuleNumbers) (s : Pass) (plane marks queue numbers : List ℕ)
    → pass_refusal_of z n s plane marks queue numbers ≡ 0 → 2 ≤ length numbers
unfolding pass_refusal_of
pass_room z n s plane marks queue numbers =
    fourth_room (lent_refusal z (length plane) (length marks) (length queue)) (form_refusal n) (numbers_refusal s)
    numbers

pub enhance_room : (z : Shape) (n : RuleNumbers) (t : Settings) (frame plane marks queue output numbers : List ℕ)
    → enhance_refusal_of z n t frame plane marks queue output numbers ≡ 0 → 2 ≤ length numbers
unfolding enhance_refusal_of
enhance_room z n t frame plane marks queue output numbers =
    fourth_room (enhance.memory_refusal z (length frame) (length plane) (length marks) (length queue) (length output))
    (form_refusal n) (enhance.settings_refusal t) numbers

module _ {n k : ℕ} {e : Effect} {plane marks queue plane' marks' queue' : List ℕ} (numbers : List ℕ)
    (room : k ≡ 0 → 2 ≤ length numbers) where
  pub counts_room : (s : Result Counts Refusal) → Outcome n k e plane marks queue (answer_reply s) plane' marks' queue'
      → IfOk s (λ r. 2 ≤ length numbers)
  counts_room (Ok r) o = room (replied_gives k (counts e) (sym o.answer)).0
  counts_room (Err r) o = tt

none_after : (x : ℕ) → x ▷ 0 ≡ x
none_after zero = refl
none_after (suc x) = refl

-- where two numbers are lent, the refusals are those of the call
pub counts_enough : (x : ℕ) (numbers : List ℕ) → 2 ≤ length numbers → x ▷ counts_refusal (length numbers) ≡ x
counts_enough x numbers enough =
    ap (λ (t : Bool). x ▷ when t 14) (le-ltb (length numbers) 2 enough) ∙ none_after x

-- ## Passes and settings by their numbers

module _ (rule : List ℕ) {n : RuleNumbers} {r : Rule} {k : ℕ} (lent : n ≡ numbers_for rule) (read : r ≡ rule_of n)
    (neighbours : k ≡ neighbours_for rule) where
  pub pass_made : (a b area : ℕ)
      → record { a = a; b = b; area = area; rule = r; neighbours = k } ≡ pass_of a b area rule
  pass_made a b area =
      ap₂ (λ (x : Rule) (y : ℕ). record { a = a; b = b; area = area; rule = x; neighbours = y })
      (read ∙ ap rule_of lent) neighbours

  pub settings_made : (last area : ℕ)
      → record { last = last; area = area; rule = r; neighbours = k } ≡ settings_of last area rule
  settings_made last area =
      ap₂ (λ (x : Rule) (y : ℕ). record { last = last; area = area; rule = x; neighbours = y })
      (read ∙ ap rule_of lent) neighbours

-- a call with its own form of refusals, where none of them applies
module _ {form own counts : ℕ} (formed : 0 ≡ form) (sound : 0 ≡ own) (room : 0 ≡ counts) where
  -- those of the call behind it do not either
  pub clear_call : (x : ℕ) → 0 ≡ x → x ▷ own ≡ x ▷ form ▷ own ▷ counts
  clear_call x lent =
      ▷_both x own (sym lent) (sym sound)
      ∙ sym (▷_both x _ (sym lent) (▷_both form _ (sym formed) (▷_both own counts (sym sound) (sym room))))

-- ## Writing

-- what is written is short
pub write_short : (raster : List ℕ) (w h : ℕ) {output output' : List ℕ} (s : Result ℕ Refusal)
    → WriteOutcome raster w h output (written_reply s) output' → Short s
write_short raster w h {output} {output'} s o = record {
  short = λ size e.
      let wrote : WriteOutcome raster w h output (gives (size ∷ [])) output' =
      subst (λ (x : Result ℕ Refusal). WriteOutcome raster w h output (written_reply x) output') e o in
      let fits = wrote_writable raster w h wrote in
      let sides = fits.size in
      let short = heading_short w h (omega (arith, sides.narrow)) (omega (arith, sides.low)) in
      omega (arith, wrote_size wrote, length-append (heading w h) raster, sides.few, fits.filled);
}

-- a list has few records, so what is written of it is short
pub convert_short : (list : List ℕ) {output output' : List ℕ} (s : Result ℕ Refusal)
    → ConvertOutcome list output (written_reply s) output' → Short s
convert_short list {output} {output'} s o = record {
  short = λ size e.
      let wrote : ConvertOutcome list output (gives (size ∷ [])) output' =
      subst (λ (x : Result ℕ Refusal). ConvertOutcome list output (written_reply x) output') e o in
      let head = headed list (head_sound list (convertible list (length output) (wrote_none wrote))) in
      let low = records_low (other (edition_of list)) (count_of list) head.few in
      omega (arith, wrote_size wrote, length_converted list);
}
