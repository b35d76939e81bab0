-- Components of sufficient area are retoned or kept back: the two counts of a pass add up to their number, and so do
-- the sums of a run of passes, of a chain of calls, refused ones included, and of an enhancement, in the plane as each
-- pass finds it. For any neighbour relation. Assumes nothing.
--
--   pass_sufficient_lem, run_sufficient_lem, chain_sufficient_lem, enhanced_sufficient   the sums
--   run_few                    both counts of a run are together at most the plane's pixels for each pass
use Prim.Native.Nat.{ℕ, zero, suc, ◌+◌, ◌*◌, ◌≤◌}
use mathlib.Core.Path.{◌≡◌, refl, sym, ap, ◌∙◌}
use mathlib.Core.Bool.{Bool, true, false, cond, not, ◌&&◌}
use mathlib.Core.List.{List, [], ◌∷◌, map}
use native.Mathlib.Nat.{zero-add, add-zero}
use native.Mathlib.Omega.{arith}
use lib.ListN.{length}
use lib.Dec.{eqb}
use borrow.Author.Tests.{ne_eqb}
use Rattle.planes.specs.Lists.{at}
use Rattle.planes.specs.Neighbours.{Near, first}
use Rattle.planes.specs.Replies.{Reply, replied}
use Rattle.planes.specs.Shapes.{pixels}
use Rattle.planes.specs.declared.Shape.{Shape}
use Rattle.planes.proofs.Counts.{count_sum}
use Rattle.tones.specs.declared.Rule.{Rule}
use Rattle.tones.specs.Tones.{kept}
use Rattle.model.specs.declared.Pass.{Pass}
use Rattle.model.specs.Neighbourhoods.{pass_neighbours}
use Rattle.model.specs.Passes.{within, inside, component_values, sufficient, changes, kept_back, counted}
use Rattle.model.specs.Passes.{component_count, pass_count, pass_kept, pass_sufficient}
use Rattle.model.specs.Effects.{Effect, counts, pass_effect, run_effect}
use Rattle.model.specs.Runs.{run_count, run_kept, run_sufficient}
use Rattle.model.specs.Calls.{Call, pass_refusal, retoned_in, kept_in, total, State, start, call, chain}
use Rattle.model.specs.Calls.{chain_sufficient}
use Rattle.model.specs.Enhancement.{passes, call_of, enhanced}
use Rattle.model.proofs.Order.{length_passed}
use Rattle.model.proofs.Recursion.{pass_few}
use Rattle.model.proofs.Enhancement.{total_append}

-- ## A pass

abbrev unit : Bool → ℕ
unit t = cond t 1 0

-- the first pixel of a component of sufficient area is that of a retoned one, or of one that is kept back
either : (w g k f : Bool) → unit (w && g && f) ≡ unit (w && (g && not k) && f) + unit (w && (g && k) && f)
either false g k f = refl
either true false k f = refl
either true true true f = sym (zero-add (unit f))
either true true false f = sym (add-zero (unit f))

pub pass_sufficient_lem : (near : Near) (s : Pass) (p : List ℕ)
    → pass_count near s p + pass_kept near s p ≡ pass_sufficient near s p
unfolding component_count changes kept_back
pass_sufficient_lem near s p = sym (count_sum
    (counted (sufficient s) near s p) (counted (changes s) near s p) (counted (kept_back s) near s p) 0 (length p)
    (λ x _ h. either (within s (at p x)) (sufficient s (component_values near s p x))
    (kept s.rule s.a s.b (component_values near s p x)) (first (length p) (inside near s p) x)))

-- ## A run of passes

module _ (by : Pass → Near) where
  pub run_sufficient_lem : (ss : List Pass) (p : List ℕ) → run_count by ss p + run_kept by ss p ≡ run_sufficient by ss p
  unfolding run_effect run_sufficient
  run_sufficient_lem [] p = refl
  run_sufficient_lem (s ∷ ss) p =
      omega (arith, pass_sufficient_lem (by s) s p, run_sufficient_lem ss (pass_effect by s p).plane)

  pub run_few : (ss : List Pass) (p : List ℕ) → run_count by ss p + run_kept by ss p ≤ length ss * length p
  unfolding run_effect
  run_few [] p = omega arith
  run_few (s ∷ ss) p =
      let after = (pass_effect by s p).plane in
      omega (
        arith,
        pass_sufficient_lem (by s) s p,
        pass_few (sufficient s) (by s) s p,
        run_few ss after,
        ap (length ss *◌) (length_passed (by s) s p),
      )

-- ## A chain of calls

-- both counts of a reply: those of an effect, or none where there is a refusal
both : (number : ℕ) (e : Effect)
    → retoned_in (replied number (counts e)) + kept_in (replied number (counts e))
    ≡ cond (eqb number 0) (e.retoned + e.kept) 0
both zero e = refl
both (suc k) e = sym (ap (λ (t : Bool). cond t (e.retoned + e.kept) 0) (ne_eqb (suc k) 0 (λ h. omega arith)))

module _ (z : Shape) where
  pub chain_sufficient_lem : (s : State) (cs : List Call)
      → total retoned_in (chain z s cs).answers + total kept_in (chain z s cs).answers
      ≡ total retoned_in s.answers + total kept_in s.answers + chain_sufficient z s.plane cs
  unfolding chain call chain_sufficient
  chain_sufficient_lem s [] = sym (add-zero _)
  chain_sufficient_lem s (c ∷ cs) =
      let number = pass_refusal z (length s.plane) c in
      let e : Effect = pass_effect (pass_neighbours z) c.pass s.plane in
      let answer : Reply = replied number (counts e) in
      let found = ap (λ (k : ℕ). cond (eqb number 0) k 0) (pass_sufficient_lem (pass_neighbours z c.pass) c.pass
      s.plane) in
      omega (
        arith,
        chain_sufficient_lem (call z s c) cs,
        total_append retoned_in s.answers (answer ∷ []),
        total_append kept_in s.answers (answer ∷ []),
        both number e ∙ found,
      )

  -- ## An enhancement

  pub enhanced_sufficient : (p : List ℕ) (last area : ℕ) (rule : Rule) (number : ℕ)
      → (let replies = (enhanced z p last area rule number).answers in total retoned_in replies + total kept_in replies)
      ≡ chain_sufficient z p (map (call_of (pixels z)) (passes last area rule number))
  unfolding enhanced
  enhanced_sufficient p last area rule number =
      chain_sufficient_lem (start p) (map (call_of (pixels z)) (passes last area rule number)) ∙ zero-add _
