-- Runs of passes: the sum of the counts fits 32 bits, and how far a run along a list of passes has come. What is left
-- of the list does from here what the whole list does from the start. Assumes nothing.
use Prim.Native.Nat.{ℕ, ◌+◌, ◌*◌, ◌≤◌, ◌<◌, zero-le}
use mathlib.Core.Path.{◌≡◌, refl, sym, ap, subst, ◌∙◌}
use mathlib.Core.List.{List, [], ◌∷◌}
use native.Mathlib.Nat.{mul-le-mul}
use native.Mathlib.Numerals.{add-one}
use native.Mathlib.Omega.{arith}
use lib.ListN.{length, get_or, drop, drop_of_length-le}
use lib.Seq.{drop-cons}
use Rattle.planes.specs.Lists.{Beyond}
use Rattle.planes.specs.Refusals.{greatest_pixels}
use Rattle.planes.specs.Shapes.{pixels, Lent}
use Rattle.planes.specs.declared.Shape.{Shape}
use Rattle.planes.proofs.Lists.{beyond_refl, beyond_trans}
use Rattle.model.specs.declared.Pass.{Pass}
use Rattle.model.specs.Neighbourhoods.{pass_neighbours}
use Rattle.model.specs.Effects.{Effect, nothing, then, pass_effect, run_effect}
use Rattle.model.specs.declared.Counts.{Counts}
use Rattle.model.specs.Outcomes.{came, Over}
use Rattle.model.proofs.Order.{length_passed}
use Rattle.model.proofs.Chains.{ordered}
use Rattle.model.proofs.Recursion.{then_assoc, nothing_then, then_nothing}
use Rattle.model.proofs.Sufficient.{run_few}
use Rattle.listformat.specs.Format.{greatest_count}
use Rattle.works.specs.declared.Work.{Work}
use Rattle.works.specs.Works.{Same}
use Rattle.passes.specs.Works.{Ran}
use Rattle.passturns.specs.Steps.{further, Countable, StepReady, StepOutcome, Runnable}
use Rattle.passturns.specs.Turns.{Room, Turned}
use Rattle.listchecks.specs.Refusals.{passes_refusal}
use Rattle.listformat.proofs.Format.{no_pass}
use Rattle.passlists.proofs.Refusals.{fine_passes, fine_pass}

-- ## Sums of counts

-- as many passes as a list may have, over as many pixels as a plane may have, at most
pub run_fits : (z : Shape) (ss : List Pass) (plane marks queue : List ℕ) → Runnable z ss plane marks queue
    → Countable (run_effect (pass_neighbours z) ss plane)
run_fits z ss plane marks queue r =
    let few = (fine_passes ss r.fine).0 in
    let pixels : length plane ≤ greatest_pixels = omega (arith, r.lent.whole, r.lent.size.few) in
    let most : length ss * length plane ≤ greatest_count * greatest_pixels =
    mul-le-mul {n₂ = greatest_count} {m₂ = greatest_pixels} few pixels in
    let all = run_few (pass_neighbours z) ss plane in
    (omega arith, omega arith)

-- ## Along a list of passes

-- what comes first counts no more than all
pub first_fits : (e f : Effect) → Countable (then e f) → Countable e
first_fits e f h = (omega (arith, h.0), omega (arith, h.1))

-- what some passes come to
abbrev pub effect_of : Shape → List Pass → List ℕ → Effect
effect_of z = run_effect (pass_neighbours z)

-- i passes have run, and have come to e
pub record Along (z : Shape) (ss : List Pass) (plane₀ marks₀ queue₀ : List ℕ) (i : ℕ) (e : Effect)
    (marks queue : List ℕ) : Type 0 where
  pub upto : i ≤ length ss
  pub effect_is : then e (effect_of z (drop i ss) e.plane) ≡ effect_of z ss plane₀
  pub size : length e.plane ≡ length plane₀
  pub marks_rest : Beyond (pixels z) marks₀ marks
  pub queue_rest : Beyond (pixels z) queue₀ queue

module _ {z : Shape} {ss : List Pass} {plane₀ marks₀ queue₀ : List ℕ} where
  pub along_none : Along z ss plane₀ marks₀ queue₀ 0 (nothing plane₀) marks₀ queue₀
  along_none = record {
    upto = zero-le;
    effect_is = nothing_then plane₀ (effect_of z ss plane₀);
    size = refl;
    marks_rest = beyond_refl (pixels z) marks₀;
    queue_rest = beyond_refl (pixels z) queue₀;
  }

  module _ {i : ℕ} {e : Effect} {marks queue : List ℕ} (along : Along z ss plane₀ marks₀ queue₀ i e marks queue) where
    abbrev here : Pass
    here = get_or ss i no_pass

    abbrev later : List Pass
    later = drop (i + 1) ss

    next : i < length ss → drop i ss ≡ here ∷ later
    next l = rw add-one (drop-cons ss i no_pass l)

    -- the memory is still lent
    pub along_lent : Lent z (length plane₀) (length marks₀) (length queue₀)
        → Lent z (length e.plane) (length marks) (length queue)
    along_lent l = record {
      size = l.size;
      whole = along.size ∙ l.whole;
      covered = subst (pixels z ≤◌) (sym along.marks_rest.size) l.covered;
      spare = subst (pixels z ≤◌) (sym along.queue_rest.size) l.spare;
    }

    -- the effect up to and with the next pass, and that of those after it
    effect-next : i < length ss
        → then (further z here e) (effect_of z later (further z here e).plane) ≡ effect_of z ss plane₀
    unfolding run_effect
    effect-next l =
        then_assoc e (pass_effect (pass_neighbours z) here e.plane) (effect_of z later (further z here e).plane)
        ∙ ap (λ (r : List Pass). then e (effect_of z r e.plane)) (sym (next l)) ∙ along.effect_is

    pub along_ready : Runnable z ss plane₀ marks₀ queue₀ → i < length ss → StepReady z here e marks queue
    along_ready r l =
        let rest = effect_of z later (further z here e).plane in
        let all = run_fits z ss plane₀ marks₀ queue₀ r in
        record {
          lent = along_lent r.lent;
          order = ordered here (fine_pass ss r.fine i l);
          room = first_fits (further z here e) rest (subst Countable (sym (effect-next l)) all);
        }

    pub along_more : i < length ss → {marks' queue' : List ℕ} → Beyond (pixels z) marks marks'
        → Beyond (pixels z) queue queue' → Along z ss plane₀ marks₀ queue₀ (i + 1) (further z here e) marks' queue'
    along_more l m q = record {
      upto = omega arith;
      effect_is = effect-next l;
      size = length_passed (pass_neighbours z here) here e.plane ∙ along.size;
      marks_rest = beyond_trans along.marks_rest m;
      queue_rest = beyond_trans along.queue_rest q;
    }

    -- of the pass that is due
    module _ {p : Pass} (is : p ≡ here) (l : i < length ss) where
      pub along_asks : Runnable z ss plane₀ marks₀ queue₀ → StepReady z p e marks queue
      along_asks r = subst (λ (q : Pass). StepReady z q e marks queue) (sym is) (along_ready r l)

      pub along_step : {r : Counts} {plane' marks' queue' : List ℕ}
          → StepOutcome z p e marks queue r plane' marks' queue'
          → Along z ss plane₀ marks₀ queue₀ (i + 1) (came plane' r) marks' queue'
      along_step {marks' = marks'} {queue' = queue'} o =
          subst (λ (f : Effect). Along z ss plane₀ marks₀ queue₀ (i + 1) f marks' queue')
          (sym (o.effect_is ∙ ap (λ (q : Pass). further z q e) is)) (along_more l o.marks_rest o.queue_rest)

    pub along_all : length ss ≤ i → Over (pixels z) (effect_of z ss plane₀) marks₀ queue₀ e.plane marks queue
        (record { retoned = e.retoned; kept = e.kept })
    unfolding run_effect
    along_all l =
        let none : drop i ss ≡ [] = drop_of_length-le ss l in
        let same : e ≡ effect_of z ss plane₀ =
        sym (then_nothing e)
        ∙ ap (λ (r : List Pass). then e (effect_of z r e.plane)) (sym none) ∙ along.effect_is in
        record {
          effect_is = same;
          marks_rest = along.marks_rest;
          queue_rest = along.queue_rest;
        }

-- ## In the memory that a run works on

-- i passes have run in the memory s, and have come to t and the counts
pub record Going (ss : List Pass) (s t : Work) (i : ℕ) (r : Counts) : Type 0 where
  pub same : Same s t
  pub along : Along s.shape ss s.plane.now s.marks.now s.queue.now i (came t.plane.now r) t.marks.now t.queue.now

module _ {ss : List Pass} {s : Work} where
  pub going_none : Going ss s s 0 (record { retoned = 0; kept = 0 })
  going_none = record {
    same = record { plane = refl; marks = refl; queue = refl; shape = refl };
    along = along_none;
  }

module _ {ss : List Pass} {s t : Work} {i : ℕ} {r : Counts} where
  -- of the pass that is due
  module _ (g : Going ss s t i r) {p : Pass} (is : p ≡ get_or ss i no_pass) (l : i < length ss) where
    pub going_asks : passes_refusal ss ≡ 0 → (p.a ≤ p.b) × Room p r t
    going_asks fine =
        let ready = along_asks g.along is l (record { lent = s.lent; fine = fine }) in
        (ready.order, subst (λ (z : Shape). Countable (further z p (came t.plane.now r))) (sym g.same.shape) ready.room)

    pub going_step : {u : Work} {r' : Counts} → Turned p r t u r' → Going ss s u (i + 1) r'
    going_step {u = u} {r' = r'} o = record {
      same = record {
        plane = o.same.plane ∙ g.same.plane;
        marks = o.same.marks ∙ g.same.marks;
        queue = o.same.queue ∙ g.same.queue;
        shape = o.same.shape ∙ g.same.shape;
      };
      along = along_step g.along is l (subst (λ (z : Shape). StepOutcome z p (came t.plane.now r)
          t.marks.now t.queue.now r' u.plane.now u.marks.now u.queue.now) g.same.shape o.step);
    }

  pub going_all : Going ss s t i r → length ss ≤ i → Ran (effect_of s.shape ss s.plane.now) s t r
  going_all g l = record { same = g.same; over = along_all g.along l }
