-- What an accepted call does, and that each call is a step of the model; so any sequence of calls gives the model's
-- replies and state, and where its accepted calls all carry a number of neighbours, no accepted call of the model's
-- chain takes its components by fewer. Assumes nothing.
use Prim.Native.Nat.{ℕ, zero, suc}
use mathlib.Core.Path.{◌≡◌, refl, sym, ap, ap₂, subst, ◌∙◌}
use mathlib.Core.List.{List, [], ◌∷◌, ◌++◌, append_assoc, append-nil}
use native.Mathlib.Omega.{arith}
use lib.ListN.{length}
use Rattle.planes.specs.Neighbours.{Near}
use Rattle.planes.specs.declared.Shape.{Shape}
use Rattle.planes.specs.Shapes.{adjacency}
use Rattle.planes.specs.Replies.{Reply, after}
use Rattle.planes.proofs.Replies.{replied_refuses}
use Rattle.planes.proofs.Lists.{beyond_trans}
use Rattle.model.specs.declared.Pass.{Pass}
use Rattle.model.specs.Neighbourhoods.{pass_neighbours}
use Rattle.model.specs.Passes.{passed}
use Rattle.model.specs.Effects.{Effect, counts, pass_effect}
use Rattle.model.specs.Outcomes.{Over, Outcome}
use Rattle.model.specs.Calls.{Call, State, start, call, chain, AcceptedCarry}
use Rattle.model.specs.Calls.{empty as no-calls, refused, given}
use Rattle.painting.specs.Painting.{Marked}
use Rattle.sections.specs.Sections.{Treated}
use Rattle.retoning.specs.declared.Treatment.{Treatment}
use Rattle.sections.proofs.Marked.{marked_gone}
use Rattle.model.proofs.Order.{length_passed}
use Rattle.model.proofs.Chains.{Within, empty, next, carries_within}
use Rattle.model.proofs.Recursion.{effect_same}
use Rattle.passes.specs.Calls.{call_on, pass_call_refusal, PassOutcome, Sequence, none, more}
use Rattle.painting.specs.declared.Next.{Next}

-- ## An accepted call

-- a marked section that was treated had the pass
pub over : (by : Pass → Near) {n : ℕ} {r : Treatment} {s : Pass} {t : Next}
    {plane marks₀ marks queue plane' marks' queue' : List ℕ} → Marked s plane marks₀ marks n
    → Treated (by s) n 1 s t plane marks queue plane' marks' queue' r
    → Over n (pass_effect by s plane) marks₀ queue plane' marks' queue' (record { retoned = r.retoned; kept = r.kept })
over by {s = s} M T = record {
  effect_is = effect_same T.plane_is T.retoned_is (omega (arith, T.kept_is, marked_gone (by s) M));
  marks_rest = beyond_trans M.rest T.marks_rest;
  queue_rest = T.queue_rest;
}

-- ## A call is a step of the model

pub call_is : (z : Shape) (s : Pass) {plane marks queue plane' marks' queue' : List ℕ} {reply : Reply}
    → PassOutcome z s plane marks queue reply plane' marks' queue' → (old : List Reply)
    → call z (record { plane = plane; answers = old }) (call_on (length marks) (length queue) s)
    ≡ record { plane = plane'; answers = old ++ (reply ∷ []) }
unfolding call
call_is z s O old =
    ap₂ (λ (p : List ℕ) (a : Reply). record { plane = p; answers = old ++ (a ∷ []) })
    (sym O.plane_is) (sym O.answer)

-- any sequence of calls gives the model's replies and state
sequence_from : {z : Shape} {plane last : List ℕ} {cs : List Call} {rs : List Reply} → Sequence z plane cs rs last
    → (old : List Reply)
    → chain z (record { plane = plane; answers = old }) cs ≡ record { plane = last; answers = old ++ rs }
unfolding chain
sequence_from none old = ap (λ (a : List Reply). record { plane = _; answers = a }) (sym (append-nil old))
sequence_from {z} {last = last} (more {s = s} {reply = reply} {cs = cs} {rs = rs} O S) old =
    ap (λ (x : State). chain z x cs) (call_is z s O old)
    ∙ sequence_from S (old ++ (reply ∷ []))
    ∙ ap (λ (a : List Reply). record { plane = last; answers = a }) (append_assoc old (reply ∷ []) rs)

pub sequence_is : {z : Shape} {plane last : List ℕ} {cs : List Call} {rs : List Reply} → Sequence z plane cs rs last
    → chain z (start plane) cs ≡ record { plane = last; answers = rs }
sequence_is S = sequence_from S []

-- ## Accepted calls that all carry one number

-- a call leaves a plane of the same length
call_length : (z : Shape) (s : Pass) {plane marks queue plane' marks' queue' : List ℕ} {reply : Reply}
    → PassOutcome z s plane marks queue reply plane' marks' queue' → length plane' ≡ length plane
call_length z s {plane} {marks} {queue} O =
    ap length O.plane_is ∙ go (pass_call_refusal z s plane marks queue)
  where
    go : (k : ℕ) → length (after k plane (passed (pass_neighbours z s) s plane)) ≡ length plane
    go zero = length_passed (pass_neighbours z s) s plane
    go (suc k) = refl

pub sequence_within : {z : Shape} {plane last : List ℕ} {cs : List Call} {rs : List Reply} (number : ℕ)
    → Sequence z plane cs rs last → AcceptedCarry number cs rs → Within (adjacency z number) z (length plane) cs
sequence_within number none no-calls = empty
sequence_within {z} number (more {s = s} {plane = plane} {marks = marks} {queue = queue} {cs = cs} O S) (refused a) =
    let later = sequence_within number S a in
    let refusal = pass_call_refusal z s plane marks queue in
    let number_is = replied_refuses refusal (counts (pass_effect (pass_neighbours z) s plane)) (sym O.answer) in
    next {c = call_on (length marks) (length queue) s} (λ e. absurd (omega (arith, e, number_is.1.0)))
    (subst (λ (n : ℕ). Within (adjacency z number) z n cs) (call_length z s O) later)
sequence_within {z} number (more {s = s} {marks = marks} {queue = queue} {cs = cs} O S) (given e a) =
    let later = sequence_within number S a in
    next {c = call_on (length marks) (length queue) s} (λ _. carries_within z s e)
    (subst (λ (n : ℕ). Within (adjacency z number) z n cs) (call_length z s O) later)

-- ## After a call that was lent the memory

-- the slices that the call was lent end as the memory does
pub handed_back : {n number : ℕ} {e : Effect} {plane marks queue : List ℕ} {reply : Reply}
    {plane₁ marks₁ queue₁ plane₂ marks₂ queue₂ : List ℕ} → plane₂ ≡ plane₁ → marks₂ ≡ marks₁ → queue₂ ≡ queue₁
    → Outcome n number e plane marks queue reply plane₁ marks₁ queue₁
    → Outcome n number e plane marks queue reply plane₂ marks₂ queue₂
handed_back p m q o = rw p (rw m (rw q o))
