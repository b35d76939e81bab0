-- The C functions answer what the calls answer: `c_functions`. Assumes nothing.
use Prim.Native.Nat.{ℕ, zero, suc, ◌≤◌, ◌<◌}
use mathlib.Core.Path.{◌≡◌, refl, sym, ap, subst, ◌∙◌}
use mathlib.Core.Bool.{Bool, cond}
use mathlib.Core.List.{List, [], ◌∷◌}
use native.Mathlib.Omega.{arith}
use lib.IntN.{ℤ, pos, negsuc}
use lib.ListN.{length, drop}
use lib.Dec.{ltb}
use borrow.Author.Tests.{lt-ltb, le-ltb}
use Rattle.std.specs.Prelude.{Result, Ok, Err}
use Rattle.planes.specs.declared.refusal.Refusal.{Refusal}
use Rattle.planes.specs.Refusals.{when, ◌▷◌, greatest_pixels}
use Rattle.planes.specs.Replies.{Reply, refuses, gives, replied, after, overwritten}
use Rattle.planes.specs.Shapes.{shape_of, lent_refusal}
use Rattle.planes.specs.declared.Shape.{Shape}
use Rattle.planes.proofs.Refusals.{▷_none, ▷_assoc}
use Rattle.tones.specs.declared.RuleNumbers.{RuleNumbers}
use Rattle.tones.specs.Numbers.{rule_of, form_refusal}
use Rattle.tones.proofs.Numbers.{read_rule, formed_rule}
use Rattle.planes.proofs.Replies.{refuses_not_gives, gives_same, replied_gives, replied_refuses, replied_refused}
use Rattle.planes.proofs.Replies.{after_refused}
use Rattle.colours.specs.Calls.{intensity_refusal, recolour_refusal, status_reply, IntensityOutcome, RecolourOutcome}
use Rattle.model.specs.declared.Pass.{Pass}
use Rattle.model.specs.Effects.{Effect, counts}
use Rattle.model.specs.Outcomes.{answer_reply, Outcome, OutputOutcome}
use Rattle.model.specs.Calls.{numbers_refusal, pass_refusal}
use Rattle.model.proofs.Outcomes.{outcome_number, output_number, outcome_stays, output_stays}
use Rattle.levels.specs.declared.Settings.{Settings}
use Rattle.passes.specs.Calls.{pass_call_refusal, PassOutcome}
use Rattle.enhance.specs.Calls.{settings_refusal, memory_refusal, enhance_refusal, enhance_call_refusal, EnhanceOutcome}
use Rattle.passlists.specs.Outcomes.{run_list_refusal, ListOutcome}
use Rattle.netpbm.specs.Reading.{Answer, Refused, Frame, read_answer}
use Rattle.netpbm.specs.Writing.{write_refusal, encoding, WriteOutcome}
use Rattle.texts.specs.Writing.{written_reply}
use Rattle.conversion.specs.Conversion.{converted, convert_refusal, ConvertOutcome}
use Rattle.netpbm.proofs.Replies.{refused_answer, framed_answer, refused_some}
use Rattle.cnumbers.specs.Numbers.{encoded, number_reply, done_reply, status_number, written_number}
use Rattle.cnumbers.specs.Numbers.{counts_refusal, counts_reply}
use Rattle.crules.specs.Rules.{numbers_for}
use Rattle.crules.proofs.Rules.{rule_lent_lem, pass_lent_lem, no_rule_lent, number_lent}
use Rattle.cnumbers.specs.Numbers.{pass_of, settings_of}
use Rattle.cnumbers.specs.Numbers.{read_number, numbers_after}
use Rattle.capi.specs.Calls.{CountsOutcome, CountsOutputOutcome, pass_refusal_of, enhance_refusal_of, ReadNumber}
use Rattle.claims.specs.CFunctions.{Stands, StandsCounted, CFunctions}
use Rattle.claims.proofs.Named.{Few, named, intensity_few, recolour_few, write_few, pass_few, run_list_few}
use Rattle.claims.proofs.Named.{convert_few, enhance_few}

-- ## From a number to the answer that it stands for

written_for : (k : ℕ) → Few k → (vs : List ℕ) (r : ℤ) → number_reply r ≡ replied k vs
    → (s : Result ℕ Refusal) × ((r ≡ written_number s) × (number_reply r ≡ written_reply s))
written_for k few vs (pos size) e = (Ok size, (refl, refl))
written_for k few vs (negsuc j) e =
    let (i, (is, same)) = replied_refuses k vs (sym e) in
    let (d, told) = named j (omega (arith, few, is, same)) in
    (Err d, (sym (ap (λ (i : ℕ). encoded i 0) told), sym (ap refuses told)))

-- a number other than 0 is the number of no status that gives no values
no_value : (number v : ℕ) → gives (suc v ∷ []) ≡ replied number [] → ⊥
no_value zero v e = let size : ◌≡◌ {A = ℕ} 1 0 = ap length (gives_same e) in omega (arith, size)
no_value (suc k) v e = refuses_not_gives (sym e)

status_for : (k : ℕ) → Few k → (r : ℤ) → done_reply r ≡ replied k []
    → (s : Result (Unit {0}) Refusal) × ((r ≡ status_number s) × (done_reply r ≡ status_reply s))
status_for k few (pos zero) e = (Ok tt, (refl, refl))
status_for k few (pos (suc v)) e = absurd (no_value k v e)
status_for k few (negsuc j) e =
    let (i, (is, same)) = replied_refuses k [] (sym e) in
    let (d, told) = named j (omega (arith, few, is, same)) in
    (Err d, (sym (ap (λ (i : ℕ). encoded i 0) told), sym (ap refuses told)))

-- one value is not both counts
not_both : (number v : ℕ) (e : Effect) → gives (suc v ∷ []) ≡ replied number (counts e) → ⊥
not_both zero v e d = let size : ◌≡◌ {A = ℕ} 1 2 = ap length (gives_same d) in omega (arith, size)
not_both (suc k) v e d = refuses_not_gives (sym d)

stands_counted : (P : Reply → Type 0) (x : ℕ) → Few x → (e : Effect) (numbers numbers' : List ℕ) (r : ℤ)
    → counts_reply r numbers' ≡ replied x (counts e)
    → numbers' ≡ after x numbers (overwritten numbers (counts e)) → P (counts_reply r numbers')
    → StandsCounted (λ s. P (answer_reply s)) numbers r numbers'
stands_counted P x few e numbers numbers' (pos zero) told left p =
    let given = replied_gives x (counts e) (sym told) in
    record {
      answer = Ok (record { retoned = e.retoned; kept = e.kept });
      number_is = refl;
      numbers_are = left ∙ ap (λ (k : ℕ). after k numbers (overwritten numbers (counts e))) given.0;
      holds = subst (λ (vs : List ℕ). P (gives vs)) given.1 p;
    }
stands_counted P x few e numbers numbers' (pos (suc v)) told left p = absurd (not_both x v e told)
stands_counted P x few e numbers numbers' (negsuc k) told left p =
    let (j, (is, same)) = replied_refuses x (counts e) (sym told) in
    let (d, name) = named k (omega (arith, few, is, same)) in
    record {
      answer = Err d;
      number_is = sym (ap (λ (i : ℕ). encoded i 0) name);
      numbers_are = left ∙ ap (λ (k : ℕ). after k numbers (overwritten numbers (counts e))) is;
      holds = subst (λ (i : ℕ). P (refuses i)) (sym name) p;
    }

-- a refusal is told by the number alone
told_alone : (r : ℤ) (numbers : List ℕ) {k : ℕ} → counts_reply r numbers ≡ refuses k → number_reply r ≡ refuses k
told_alone (pos zero) numbers e = absurd (refuses_not_gives (sym e))
told_alone (pos (suc v)) numbers e = absurd (refuses_not_gives (sym e))
told_alone (negsuc k) numbers e = e

stands_written : (P : Reply → Type 0) (k : ℕ) → Few k → (vs : List ℕ) (r : ℤ) → number_reply r ≡ replied k vs
    → P (number_reply r) → Stands written_number (λ s. P (written_reply s)) r
stands_written P k few vs r e p =
    let (s, (number_is, same)) = written_for k few vs r e in
    record { answer = s; number_is = number_is; holds = subst P same p }

stands_status : (P : Reply → Type 0) (k : ℕ) → Few k → (r : ℤ) → done_reply r ≡ replied k [] → P (done_reply r)
    → Stands status_number (λ s. P (status_reply s)) r
stands_status P k few r e p =
    let (s, (number_is, same)) = status_for k few r e in
    record { answer = s; number_is = number_is; holds = subst P same p }

-- ## Calls that tell both counts

-- an outcome whose number is that of a refusal
module _ {n number : ℕ} {e : Effect} {plane marks queue plane' marks' queue' : List ℕ} where
  refused-outcome : {reply : Reply} → (number ≡ 0 → ⊥)
      → Outcome n number e plane marks queue reply plane' marks' queue'
      → (reply ≡ refuses number) × ((plane' ≡ plane) × ((marks' ≡ marks) × (queue' ≡ queue)))
  refused-outcome some O =
      let is = O.answer ∙ replied_refused number (counts e) some in
      (is, outcome_stays (subst (λ (y : Reply). Outcome n number e plane marks queue y plane' marks' queue') is O))

  refused_output : {bytes output output' : List ℕ} {reply : Reply} → (number ≡ 0 → ⊥)
      → OutputOutcome n number e bytes plane marks queue output reply plane' marks' queue' output'
      → (reply ≡ refuses number)
      × ((plane' ≡ plane) × ((marks' ≡ marks) × ((queue' ≡ queue) × (output' ≡ output))))
  refused_output {bytes} {output} {output'} some O =
      let memory = refused-outcome some O.retoned in
      let same = output_stays
      (subst (λ (y : Reply). OutputOutcome n number e bytes plane marks queue output y plane' marks' queue' output')
      memory.0 O) in
      (memory.0, (memory.1.0, (memory.1.1.0, (memory.1.1.1, same))))

  -- the same with the counts: another name of the number
  counts-refused : {numbers numbers' : List ℕ} {r : ℤ} (k : ℕ) → number ≡ k → (k ≡ 0 → ⊥)
      → CountsOutcome n number e plane marks queue numbers r plane' marks' queue' numbers'
      → (number_reply r ≡ refuses k)
      × (((plane' ≡ plane) × ((marks' ≡ marks) × (queue' ≡ queue))) × (numbers' ≡ numbers))
  counts-refused {numbers} {numbers'} {r} k is some O =
      let refused = refused-outcome (λ z. some (sym is ∙ z)) O.outcome in (
        told_alone r numbers' (refused.0 ∙ ap refuses is),
        (refused.1, O.numbers_are ∙ after_refused number numbers _ (λ z. some (sym is ∙ z))),
      )

  output-refused : {bytes output output' numbers numbers' : List ℕ} {r : ℤ} (k : ℕ) → number ≡ k → (k ≡ 0 → ⊥)
      → CountsOutputOutcome n number e bytes plane marks queue output numbers r plane' marks' queue' output' numbers'
      → (number_reply r ≡ refuses k)
      × (((plane' ≡ plane) × ((marks' ≡ marks) × ((queue' ≡ queue) × (output' ≡ output)))) × (numbers' ≡ numbers))
  output-refused {numbers = numbers} {numbers'} {r} k is some O =
      let refused = refused_output (λ z. some (sym is ∙ z)) O.outcome in (
        told_alone r numbers' (refused.0 ∙ ap refuses is),
        (refused.1, O.numbers_are ∙ after_refused number numbers _ (λ z. some (sym is ∙ z))),
      )

  -- an answer that a number and the lent numbers stand for
  counted-stands : (P : Reply → Type 0) {numbers numbers' : List ℕ} {r : ℤ} → Few number
      → CountsOutcome n number e plane marks queue numbers r plane' marks' queue' numbers'
      → P (counts_reply r numbers') → StandsCounted (λ s. P (answer_reply s)) numbers r numbers'
  counted-stands P {numbers} {numbers'} {r} few O =
      stands_counted P number few e numbers numbers' r O.outcome.answer O.numbers_are

  output-stands : (P : Reply → Type 0) {bytes output output' numbers numbers' : List ℕ} {r : ℤ} → Few number
      → CountsOutputOutcome n number e bytes plane marks queue output numbers r plane' marks' queue' output' numbers'
      → P (counts_reply r numbers') → StandsCounted (λ s. P (answer_reply s)) numbers r numbers'
  output-stands P {numbers = numbers} {numbers'} {r} few O =
      stands_counted P number few e numbers numbers' r O.outcome.retoned.answer O.numbers_are

-- 17 and 14 at the end of an order of refusals
some_17 : (x : ℕ) → x ▷ 17 ≡ 0 → ⊥
some_17 x e = omega (arith, (▷_none x 17 e).1)

some_14 : (x : ℕ) → x ▷ 14 ≡ 0 → ⊥
some_14 x e = omega (arith, (▷_none x 14 e).1)

none_after : (x : ℕ) → x ▷ 0 ≡ x
none_after zero = refl
none_after (suc x) = refl

-- the refusals of the counts, by how many numbers are lent
enough : (x : ℕ) (numbers : List ℕ) → 2 ≤ length numbers → x ▷ counts_refusal (length numbers) ≡ x
enough x numbers h = ap (λ (t : Bool). x ▷ when t 14) (le-ltb (length numbers) 2 h) ∙ none_after x

too_few : (x : ℕ) (numbers : List ℕ) → length numbers < 2 → x ▷ counts_refusal (length numbers) ≡ x ▷ 14
too_few x numbers h = ap (λ (t : Bool). x ▷ when t 14) (lt-ltb (length numbers) 2 h)

module _ (z : Shape) (n : RuleNumbers) (s : Pass) (plane marks queue numbers : List ℕ) where
  abbrev lent : ℕ
  lent = lent_refusal z (length plane) (length marks) (length queue)

  -- where the numbers stand for a rule, 14 comes after the refusals of the call; where they do not, 17 comes before all
  -- but those of the memory
  pass-ruled : form_refusal n ≡ 0
      → pass_refusal_of z n s plane marks queue numbers
      ≡ pass_call_refusal z s plane marks queue ▷ counts_refusal (length numbers)
  unfolding pass_refusal_of pass_refusal
  pass-ruled e =
      ap (λ (x : ℕ). lent ▷ x ▷ numbers_refusal s ▷ counts_refusal (length numbers)) e
      ∙ sym (▷_assoc lent (numbers_refusal s) (counts_refusal (length numbers)))

  pass-unruled : form_refusal n ≡ 17 → pass_refusal_of z n s plane marks queue numbers ≡ lent ▷ 17
  unfolding pass_refusal_of
  pass-unruled e = ap (λ (x : ℕ). lent ▷ x ▷ numbers_refusal s ▷ counts_refusal (length numbers)) e

module _ (z : Shape) (n : RuleNumbers) (t : Settings) (frame plane marks queue output numbers : List ℕ) where
  abbrev memory : ℕ
  memory = memory_refusal z (length frame) (length plane) (length marks) (length queue) (length output)

  enhance-ruled : form_refusal n ≡ 0
      → enhance_refusal_of z n t frame plane marks queue output numbers
      ≡ enhance_call_refusal z t frame plane marks queue output ▷ counts_refusal (length numbers)
  unfolding enhance_refusal_of enhance_refusal
  enhance-ruled e =
      ap (λ (x : ℕ). memory ▷ x ▷ settings_refusal t ▷ counts_refusal (length numbers)) e
      ∙ sym (▷_assoc memory (settings_refusal t) (counts_refusal (length numbers)))

  enhance-unruled : form_refusal n ≡ 17 → enhance_refusal_of z n t frame plane marks queue output numbers ≡ memory ▷ 17
  unfolding enhance_refusal_of
  enhance-unruled e = ap (λ (x : ℕ). memory ▷ x ▷ settings_refusal t ▷ counts_refusal (length numbers)) e

-- ## Reading

module _ (bytes numbers : List ℕ) {numbers' : List ℕ} (r : ℤ) (R : ReadNumber bytes numbers r numbers') where
  read-refuses : (k : ℕ) → read_answer bytes greatest_pixels ≡ Refused k
      → (number_reply r ≡ refuses k) × (numbers' ≡ numbers)
  read-refuses k e =
      let (j, is) = refused_some bytes greatest_pixels e in
      let answer = R.answer ∙ ap (λ (x : Answer). read_number x (length numbers)) e
      ∙ ap (λ (i : ℕ). encoded i 0) is in (
        ap number_reply answer ∙ ap refuses (sym is),
        R.numbers_are ∙ ap (λ (x : Answer). numbers_after x numbers) e,
      )

  module _ (w h offset : ℕ) (e : read_answer bytes greatest_pixels ≡ Frame w h offset) where
    told : r ≡ encoded (when (ltb (length numbers) 3) 14) 0
    told = R.answer ∙ ap (λ (x : Answer). read_number x (length numbers)) e

    left : numbers' ≡ cond (ltb (length numbers) 3) numbers (w ∷ h ∷ offset ∷ drop 3 numbers)
    left = R.numbers_are ∙ ap (λ (x : Answer). numbers_after x numbers) e

    reads : 3 ≤ length numbers → (r ≡ pos 0) × (numbers' ≡ w ∷ h ∷ offset ∷ drop 3 numbers)
    reads room =
        let test = le-ltb (length numbers) 3 room in (
          told ∙ ap (λ (t : Bool). encoded (when t 14) 0) test,
          left ∙ ap (λ (t : Bool). cond t numbers (w ∷ h ∷ offset ∷ drop 3 numbers)) test,
        )

    short : length numbers < 3 → (number_reply r ≡ refuses 14) × (numbers' ≡ numbers)
    short few =
        let test = lt-ltb (length numbers) 3 few in (
          ap number_reply (told ∙ ap (λ (t : Bool). encoded (when t 14) 0) test),
          left ∙ ap (λ (t : Bool). cond t numbers (w ∷ h ∷ offset ∷ drop 3 numbers)) test,
        )

pub c_functions : CFunctions
c_functions = record {
  of_intensity = λ w h {frame} {plane} {plane'} r O.
      stands_status (λ y. IntensityOutcome w h frame plane y plane')
      (intensity_refusal w h (length frame) (length plane))
      (intensity_few w h (length frame) (length plane)) r O.answer O;
  of_recolour = λ w h {frame} {plane} {output} {output'} r O.
      stands_status (λ y. RecolourOutcome w h frame plane output y output')
      (recolour_refusal w h (length frame) (length plane) (length output))
      (recolour_few w h (length frame) (length plane) (length output)) r O.answer O;
  of_rule = λ r fits.
      let is = rule_lent_lem r fits in
      (ap rule_of is ∙ read_rule r, (ap form_refusal is ∙ ap (λ (t : Bool). when t 17) (formed_rule r), refl));
  of_five = λ r fits number.
      let is = pass_lent_lem r fits number in (
        ap rule_of is ∙ read_rule r,
        (ap form_refusal is ∙ ap (λ (t : Bool). when t 17) (formed_rule r), number_lent r number),
      );
  of_neighbours = λ r. (refl, refl);
  of_no_rule = no_rule_lent;
  of_pass = λ w h a b area rule {plane} {marks} {queue} {plane'} {marks'} {queue'} numbers {numbers'} r
      fine room O.
      let z = shape_of w h in
      let s = pass_of a b area rule in
      let is = pass-ruled z (numbers_for rule) s plane marks queue numbers fine ∙ enough _ numbers room in
      counted-stands (λ y. PassOutcome z s plane marks queue y plane' marks' queue')
      (pass_few z (numbers_for rule) s plane marks queue numbers) O (outcome_number is O.outcome);
  of_no_pass = λ w h a b area rule {plane} {marks} {queue} numbers r bad O.
      let z = shape_of w h in
      let n = numbers_for rule in
      let s = pass_of a b area rule in
      counts-refused (lent z n s plane marks queue numbers ▷ 17) (pass-unruled z n s plane marks queue numbers bad)
      (some_17 (lent z n s plane marks queue numbers)) O;
  of_pass_short = λ w h a b area rule {plane} {marks} {queue} numbers r fine few O.
      let z = shape_of w h in
      let s = pass_of a b area rule in
      let number = pass_call_refusal z s plane marks queue in
      counts-refused (number ▷ 14)
      (pass-ruled z (numbers_for rule) s plane marks queue numbers fine ∙ too_few number numbers few)
      (some_14 number) O;
  of_list = λ w h list {plane} {marks} {queue} {plane'} {marks'} {queue'} numbers {numbers'} r room O.
      let z = shape_of w h in
      counted-stands (λ y. ListOutcome z list plane marks queue y plane' marks' queue')
      (run_list_few z list plane marks queue numbers) O
      (outcome_number (enough (run_list_refusal z list plane marks queue) numbers room) O.outcome);
  of_list_short = λ w h list {plane} {marks} {queue} numbers r few O.
      let number = run_list_refusal (shape_of w h) list plane marks queue in
      counts-refused (number ▷ 14) (too_few number numbers few) (some_14 number) O;
  of_enhance = λ w h last area rule frame {plane} {marks} {queue} {output} {plane'} {marks'} {queue'}
      {output'} numbers {numbers'} r fine room O.
      let z = shape_of w h in
      let t = settings_of last area rule in
      let is = enhance-ruled z (numbers_for rule) t frame plane marks queue output numbers fine
      ∙ enough _ numbers room in
      output-stands (λ y. EnhanceOutcome z t frame plane marks queue output y plane' marks' queue' output')
      (enhance_few z (numbers_for rule) t frame plane marks queue output numbers) O
      (output_number is O.outcome);
  of_no_enhance = λ w h last area rule frame {plane} {marks} {queue} {output} numbers r bad O.
      let z = shape_of w h in
      let n = numbers_for rule in
      let t = settings_of last area rule in
      output-refused (memory z n t frame plane marks queue output numbers ▷ 17)
      (enhance-unruled z n t frame plane marks queue output numbers bad)
      (some_17 (memory z n t frame plane marks queue output numbers)) O;
  of_enhance_short = λ w h last area rule frame {plane} {marks} {queue} {output} numbers r fine few O.
      let z = shape_of w h in
      let t = settings_of last area rule in
      let number = enhance_call_refusal z t frame plane marks queue output in
      output-refused (number ▷ 14)
      (enhance-ruled z (numbers_for rule) t frame plane marks queue output numbers fine
      ∙ too_few number numbers few)
      (some_14 number) O;
  of_convert = λ list {output} {output'} r O.
      stands_written (λ y. ConvertOutcome list output y output') (convert_refusal list (length output))
      (convert_few list (length output)) (length (converted list) ∷ []) r O.answer O;
  of_write = λ raster w h {output} {output'} r O.
      stands_written (λ y. WriteOutcome raster w h output y output')
      (write_refusal w h (length raster) (length output)) (write_few w h (length raster) (length output))
      (length (encoding raster w h) ∷ []) r O.answer O;
  of_read_refused = λ bytes numbers r k e R. read-refuses bytes numbers r R k (refused_answer bytes greatest_pixels e);
  of_read = λ bytes numbers r w h offset e R. reads bytes numbers r R w h offset
      (framed_answer bytes greatest_pixels e);
  of_read_short = λ bytes numbers r w h offset e R. short bytes numbers r R w h offset
      (framed_answer bytes greatest_pixels e);
}
