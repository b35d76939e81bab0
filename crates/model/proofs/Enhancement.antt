-- The model's enhancement is the run of its passes, and so the recursion by sections. Assumes nothing.
use Prim.Native.Nat.{ℕ, ◌+◌, ◌≤◌}
use mathlib.Core.Path.{◌≡◌, refl, sym, ap, subst, ◌∙◌}
use mathlib.Core.List.{List, [], ◌∷◌, ◌++◌, map}
use native.Mathlib.Nat.{zero-add, add_assoc, add-zero}
use lib.ListN.{length}
use Rattle.planes.specs.Replies.{Reply, gives}
use Rattle.planes.specs.Shapes.{pixels}
use Rattle.planes.specs.declared.Shape.{Shape}
use Rattle.tones.specs.declared.Rule.{Rule}
use Rattle.model.specs.declared.Pass.{Pass}
use Rattle.model.specs.Neighbourhoods.{pass_neighbours}
use Rattle.model.specs.Effects.{Effect, counts, then, pass_effect, run_effect}
use Rattle.model.specs.Calls.{Call, pass_refusal, retoned_in, kept_in, total, AllAccepted, none, more, State}
use Rattle.model.specs.Calls.{start, call, chain, chain_effect}
use Rattle.model.specs.Runs.{All, none, more}
use Rattle.model.specs.Enhancement.{passes, call_of, enhanced, recursive}
use Rattle.model.proofs.Order.{length_passed}
use Rattle.model.proofs.Recursion.{effect_same, then_assoc, nothing_then, then_nothing, recursion_listed}

pub total_append : (f : Reply → ℕ) (xs ys : List Reply) → total f (xs ++ ys) ≡ total f xs + total f ys
total_append f [] ys = sym (zero-add (total f ys))
total_append f (x ∷ xs) ys = ap (f x +◌) (total_append f xs ys) ∙ sym (add_assoc (f x) (total f xs) (total f ys))

-- one more reply adds its counts
one_total : (f : Reply → ℕ) (s : State) (e : Effect)
    → total f (s.answers ++ (gives (counts e) ∷ [])) ≡ total f s.answers + f (gives (counts e))
one_total f s e =
    total_append f s.answers (gives (counts e) ∷ [])
    ∙ ap (total f s.answers +◌) (add-zero (f (gives (counts e))))

accepted_more : {xs : List Reply} (values : List ℕ) → AllAccepted xs → AllAccepted (xs ++ (gives values ∷ []))
accepted_more values none = more none
accepted_more values (more a) = more (accepted_more values a)

-- ## Chains of accepted calls

-- `of` gives each pass a call of it, with the marks and the queue that it is lent
module _ (z : Shape) (of : Pass → Call) (same : (s : Pass) → (of s).pass ≡ s) where
  abbrev Taken : Pass → Type 0
  Taken s = pass_refusal z (pixels z) (of s) ≡ 0

  abbrev runs : State → List Pass → State
  runs s ss = chain z s (map of ss)

  abbrev effect : Pass → List ℕ → Effect
  effect = pass_effect (pass_neighbours z)

  -- the state after a pass that is not refused
  abbrev after : State → Pass → State
  after s t = record {
    plane = (effect t s.plane).plane;
    answers = s.answers ++ (gives (counts (effect t s.plane)) ∷ []);
  }

  one : (s : State) (t : Pass) → length s.plane ≡ pixels z → Taken t → call z s (of t) ≡ after s t
  unfolding call
  one s t l e = rw (l, e, same t, call) refl

  pub chain_calls : (ss : List Pass) → All Taken ss → (s : State) → length s.plane ≡ pixels z
      → chain_effect (runs s ss) ≡ then (chain_effect s) (run_effect (pass_neighbours z) ss s.plane)
  unfolding chain run_effect
  chain_calls [] none s l = sym (then_nothing (chain_effect s))
  chain_calls (t ∷ ss) (more e a) s l =
      let next = after s t in
      let now = effect t s.plane in
      let r = chain_calls ss a next (length_passed (pass_neighbours z t) t s.plane ∙ l) in
      let sum : chain_effect next ≡ then (chain_effect s) now =
      effect_same refl (one_total retoned_in s now) (one_total kept_in s now) in
      ap (λ (x : State). chain_effect (runs x ss)) (one s t l e) ∙ r
      ∙ ap (λ (x : Effect). then x (run_effect (pass_neighbours z) ss next.plane)) sum
      ∙ then_assoc (chain_effect s) now (run_effect (pass_neighbours z) ss next.plane)

  -- and all of them are accepted
  pub chain_taken : (ss : List Pass) → All Taken ss → (s : State) → length s.plane ≡ pixels z
      → AllAccepted s.answers → AllAccepted (runs s ss).answers
  unfolding chain
  chain_taken [] none s l a = a
  chain_taken (t ∷ ss) (more e rest) s l a =
      let next = after s t in
      subst (λ (x : State). AllAccepted (runs x ss).answers) (sym (one s t l e))
      (chain_taken ss rest next (length_passed (pass_neighbours z t) t s.plane ∙ l) (accepted_more _ a))

-- ## The enhancement

module _ (z : Shape) where
  -- the pass is accepted in a plane of the shape
  abbrev pub Accepted : Pass → Type 0
  Accepted s = pass_refusal z (pixels z) (call_of (pixels z) s) ≡ 0

  pub chain_runs : (ss : List Pass) → All Accepted ss → (s : State) → length s.plane ≡ pixels z
      → chain_effect (chain z s (map (call_of (pixels z)) ss))
      ≡ then (chain_effect s) (run_effect (pass_neighbours z) ss s.plane)
  unfolding call_of
  chain_runs = chain_calls z (call_of (pixels z)) (λ s. refl)

  -- from a first plane the effect is that of the run
  pub start_runs : (ss : List Pass) → All Accepted ss → (p : List ℕ) → length p ≡ pixels z
      → chain_effect (chain z (start p) (map (call_of (pixels z)) ss)) ≡ run_effect (pass_neighbours z) ss p
  start_runs ss a p size = chain_runs ss a (start p) size ∙ nothing_then p (run_effect (pass_neighbours z) ss p)

  -- in an enhancement whose passes are all accepted, all calls are
  pub enhanced_accepted : (last area : ℕ) (rule : Rule) (number : ℕ) (p : List ℕ) → length p ≡ pixels z
      → All Accepted (passes last area rule number) → AllAccepted (enhanced z p last area rule number).answers
  unfolding enhanced call_of
  enhanced_accepted last area rule number p size a =
      chain_taken z (call_of (pixels z)) (λ s. refl) (passes last area rule number) a (start p) size none

  -- its effect is the recursion's
  pub enhanced_recursion : (last area : ℕ) (rule : Rule) (number : ℕ) (p : List ℕ) → last ≤ 7 → length p ≡ pixels z
      → All Accepted (passes last area rule number)
      → chain_effect (enhanced z p last area rule number)
      ≡ run_effect (pass_neighbours z) (recursive last area rule number) p
  unfolding enhanced
  enhanced_recursion last area rule number p l size a =
      start_runs (passes last area rule number) a p size
      ∙ sym ((recursion_listed (pass_neighbours z) last area rule number l).effects p)
