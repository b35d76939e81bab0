-- Outcomes by the number of the refusal. Assumes nothing.
--
--   refused_by      by the number of a refusal the call answers it, and nothing changes
--   refused_on      the same where it hands on the refusal that another function answered
--   done_by         by 0 the call has its effect
--   outcome_number  the outcome by another name of the number
--   outcome_given   a call that gives values was not refused, and had its effect
--   outcome_stays   a call that was refused left all memory as it was
--   output_number, output_refused_by, output_refused_on, output_done_by, output_given, output_stays
--                   the same with an output
use Prim.Native.Nat.{ℕ}
use mathlib.Core.Path.{◌≡◌, refl, sym, ap, subst, ◌∙◌}
use mathlib.Core.List.{List}
use native.Mathlib.Omega.{arith}
use Rattle.std.specs.Prelude.{Result, Ok, Err}
use Rattle.std.specs.Result.{IsErrAnd}
use Rattle.std.proofs.lemmas.Result.{err_from_is_err_and}
use Rattle.planes.specs.declared.refusal.Refusal.{Refusal}
use Rattle.planes.specs.Refusals.{number}
use Rattle.planes.specs.Replies.{Reply, refuses, gives, after, overwritten}
use Rattle.planes.proofs.Lists.{beyond_refl}
use Rattle.planes.proofs.Replies.{replied_refuses, replied_gives, replied_err, after_err}
use Rattle.model.specs.declared.Counts.{Counts}
use Rattle.model.specs.Effects.{Effect, counts}
use Rattle.model.specs.Outcomes.{answer_reply, Over, Outcome, OutputOutcome}

pub outcome_number : {n x y : ℕ} {e : Effect} {plane marks queue plane' marks' queue' : List ℕ} {reply : Reply} → x ≡ y
    → Outcome n x e plane marks queue reply plane' marks' queue'
    → Outcome n y e plane marks queue reply plane' marks' queue'
outcome_number {n} {e = e} {plane} {marks} {queue} {plane'} {marks'} {queue'} {reply} same =
    subst (λ (k : ℕ). Outcome n k e plane marks queue reply plane' marks' queue') same

pub refused_by : {n k : ℕ} {e : Effect} {plane marks queue : List ℕ} (r : Refusal) → number r ≡ k
    → Outcome n k e plane marks queue (answer_reply (Err r)) plane marks queue
refused_by {n} {k} {e} {plane} {marks} {queue} r same = record {
  answer = replied_err r k (counts e) same;
  plane_is = after_err r k plane e.plane same;
  refused = λ j q. (refl, refl);
  marks_rest = beyond_refl n marks;
  queue_rest = beyond_refl n queue;
}

-- the same of a result that hands the refusal on
pub refused_on : {n k : ℕ} {e : Effect} {plane marks queue : List ℕ} (x : Result Counts Refusal) (r : Refusal)
    → IsErrAnd x (λ d. d ≡ r) → number r ≡ k → Outcome n k e plane marks queue (answer_reply x) plane marks queue
refused_on {n} {k} {e} {plane} {marks} {queue} x r h same =
    let (d, is, on) = err_from_is_err_and x h in
    rw is (refused_by d (ap number on ∙ same))

pub done_by : {n k : ℕ} {r : Counts} {e : Effect} {plane marks queue plane' marks' queue' : List ℕ} → k ≡ 0
    → Over n e marks queue plane' marks' queue' r
    → Outcome n k e plane marks queue (answer_reply (Ok r)) plane' marks' queue'
done_by none O = outcome_number (sym none) record {
  answer = ap (λ (e : Effect). gives (counts e)) O.effect_is;
  plane_is = ap (λ (e : Effect). e.plane) O.effect_is;
  refused = λ k q. absurd (omega arith);
  marks_rest = O.marks_rest;
  queue_rest = O.queue_rest;
}

module _ {n k : ℕ} {e : Effect} {plane marks queue plane' marks' queue' : List ℕ} where
  pub outcome_given : {vs : List ℕ} → Outcome n k e plane marks queue (gives vs) plane' marks' queue'
      → (k ≡ 0) × ((vs ≡ counts e) × (plane' ≡ e.plane))
  outcome_given O =
      let given = replied_gives k (counts e) (sym O.answer) in
      (given.0, (given.1, O.plane_is ∙ ap (λ (j : ℕ). after j plane e.plane) given.0))

  pub outcome_stays : {j : ℕ} → Outcome n k e plane marks queue (refuses j) plane' marks' queue'
      → (plane' ≡ plane) × ((marks' ≡ marks) × (queue' ≡ queue))
  outcome_stays O =
      let (j, (is, _)) = replied_refuses k (counts e) (sym O.answer) in
      (O.plane_is ∙ ap (λ (j : ℕ). after j plane e.plane) is, O.refused j is)

-- ## With an output

pub output_number : {n x y : ℕ} {e : Effect} {bytes plane marks queue output plane' marks' queue' output' : List ℕ}
    {reply : Reply} → x ≡ y → OutputOutcome n x e bytes plane marks queue output reply plane' marks' queue' output'
    → OutputOutcome n y e bytes plane marks queue output reply plane' marks' queue' output'
output_number {n} {e = e} {bytes} {plane} {marks} {queue} {output} {plane'} {marks'} {queue'} {output'} {reply} same =
    subst (λ (k : ℕ). OutputOutcome n k e bytes plane marks queue output reply plane' marks' queue' output') same

pub output_refused_by : {n k : ℕ} {e : Effect} {bytes plane marks queue output : List ℕ} (r : Refusal) → number r ≡ k
    → OutputOutcome n k e bytes plane marks queue output (answer_reply (Err r)) plane marks queue output
output_refused_by {k = k} {bytes = bytes} {output = output} r same = record {
  retoned = refused_by r same;
  output_is = after_err r k output (overwritten output bytes) same;
}

-- the same of a result that hands the refusal on
pub output_refused_on : {n k : ℕ} {e : Effect} {bytes plane marks queue output : List ℕ} (x : Result Counts Refusal)
    (r : Refusal) → IsErrAnd x (λ d. d ≡ r) → number r ≡ k
    → OutputOutcome n k e bytes plane marks queue output (answer_reply x) plane marks queue output
output_refused_on {n} {k} {e} {bytes} {plane} {marks} {queue} {output} x r h same =
    let (d, is, on) = err_from_is_err_and x h in
    rw is (output_refused_by d (ap number on ∙ same))

pub output_done_by : {n k : ℕ} {r : Counts} {e : Effect}
    {bytes plane marks queue output plane' marks' queue' output' : List ℕ} → k ≡ 0
    → Over n e marks queue plane' marks' queue' r → output' ≡ overwritten output bytes
    → OutputOutcome n k e bytes plane marks queue output (answer_reply (Ok r)) plane' marks' queue' output'
output_done_by {bytes = bytes} {output = output} none O written = record {
  retoned = done_by none O;
  output_is = written ∙ ap (λ (j : ℕ). after j output (overwritten output bytes)) (sym none);
}

module _ {n k : ℕ} {e : Effect} {bytes plane marks queue output plane' marks' queue' output' : List ℕ} where
  pub output_given : {vs : List ℕ}
      → OutputOutcome n k e bytes plane marks queue output (gives vs) plane' marks' queue' output'
      → output' ≡ overwritten output bytes
  output_given O =
      O.output_is ∙ ap (λ (j : ℕ). after j output (overwritten output bytes)) (outcome_given O.retoned).0

  pub output_stays : {j : ℕ}
      → OutputOutcome n k e bytes plane marks queue output (refuses j) plane' marks' queue' output'
      → output' ≡ output
  output_stays O =
      let (j, (is, _)) = replied_refuses k (counts e) (sym O.retoned.answer) in
      O.output_is ∙ ap (λ (j : ℕ). after j output (overwritten output bytes)) is
