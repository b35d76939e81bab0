-- A whole chain of calls keeps neighbours in order and the plane's length, whatever its calls are and whichever of them
-- are refused: for any relation inside those by which the accepted ones take their components. So for the plane's own
-- four neighbours, in every chain, and for the eight where every accepted call carries 8. Assumes nothing.
use Prim.Native.Nat.{ℕ, zero, suc, ◌≤◌}
use mathlib.Core.Path.{◌≡◌, refl, sym, ap, subst, ◌∙◌}
use mathlib.Core.List.{List, [], ◌∷◌, map}
use lib.ListN.{length}
use lib.Dec.{ltb}
use borrow.Author.Tests.{ltb-false}
use Rattle.planes.specs.Refusals.{when}
use Rattle.planes.specs.Replies.{after}
use Rattle.planes.specs.Neighbours.{Near}
use Rattle.planes.specs.Order.{Keeps}
use Rattle.planes.specs.Shapes.{neighbours, adjacency, Narrower, lent_refusal, Lent}
use Rattle.planes.specs.declared.Shape.{Shape}
use Rattle.planes.proofs.Refusals.{when_none, ▷_none}
use Rattle.planes.proofs.Shapes.{lent_fits}
use Rattle.planes.proofs.Order.{keeps_refl, keeps_trans}
use Rattle.model.specs.declared.Pass.{Pass}
use Rattle.model.specs.Passes.{passed}
use Rattle.model.specs.Neighbourhoods.{pass_neighbours}
use Rattle.model.specs.Runs.{Carries, All, none, more}
use Rattle.model.specs.Calls.{numbers_refusal, pass_refusal, Call, State, call, chain}
use Rattle.model.proofs.Order.{length_passed, passed_keeps}
use Rattle.model.proofs.Neighbourhoods.{pass_sym, pass_wider, pass_by}

-- ## What an accepted call has

-- the interval of a pass whose numbers are not refused
pub ordered : (s : Pass) → numbers_refusal s ≡ 0 → s.a ≤ s.b
unfolding numbers_refusal
ordered s e =
    let tests = ▷_none (when (ltb s.b s.a) 5) _ e in
    ltb-false s.b s.a (when_none (ltb s.b s.a) 4 tests.0)

pub accepted : (z : Shape) (plane : ℕ) (c : Call) → pass_refusal z plane c ≡ 0
    → Lent z plane c.marks c.queue × (numbers_refusal c.pass ≡ 0)
unfolding pass_refusal
accepted z plane c e =
    let tests = ▷_none (lent_refusal z plane c.marks c.queue) (numbers_refusal c.pass) e in
    (lent_fits z plane c.marks c.queue tests.0, tests.1)

-- ## Chains

-- a plane of the same length that keeps the order of neighbours
pub record Fine (near : Near) (p q : List ℕ) : Type 0 where
  pub size : length q ≡ length p
  pub keeps : Keeps near (length p) p q

module _ (near : Near) where
  pub fine_refl : (p : List ℕ) → Fine near p p
  fine_refl p = record { size = refl; keeps = keeps_refl near (length p) p }

  pub fine_trans : (p q r : List ℕ) → Fine near p q → Fine near q r → Fine near p r
  fine_trans p q r f g = record {
    size = g.size ∙ f.size;
    keeps = keeps_trans near (length p) p q r f.keeps
        (subst (λ (m : ℕ). Keeps near m q r) f.size g.keeps);
  }

  module _ (z : Shape) where
    -- every call of a plane of n pixels that is not refused takes its components by a relation that has this one in it
    pub data Within (n : ℕ) : List Call → Type 0 where
      empty : Within n []
      next : {c : Call} {cs : List Call} → (pass_refusal z n c ≡ 0 → Narrower near (pass_neighbours z c.pass))
          → Within n cs → Within n (c ∷ cs)

    call-fine : (s : State) (c : Call)
        → (pass_refusal z (length s.plane) c ≡ 0 → Narrower near (pass_neighbours z c.pass))
        → Fine near s.plane (call z s c).plane
    unfolding call
    call-fine s c wider = go (pass_refusal z (length s.plane) c) refl
      where
        go : (k : ℕ) → pass_refusal z (length s.plane) c ≡ k
            → Fine near s.plane (after k s.plane (passed (pass_neighbours z c.pass) c.pass s.plane))
        go zero e =
            let ab = ordered c.pass (accepted z (length s.plane) c e).1 in
            record {
              size = length_passed (pass_neighbours z c.pass) c.pass s.plane;
              keeps = passed_keeps near (pass_neighbours z c.pass) (wider e) (pass_sym z c.pass) c.pass
                  s.plane ab;
            }
        go (suc k) e = fine_refl s.plane

    pub chain_keeps : (s : State) (cs : List Call) → Within (length s.plane) cs
        → Fine near s.plane (chain z s cs).plane
    unfolding chain
    chain_keeps s [] empty = fine_refl s.plane
    chain_keeps s (c ∷ cs) (next wider rest) =
        let first = call-fine s c wider in
        let later = chain_keeps (call z s c) cs (subst (λ (n : ℕ). Within n cs) (sym first.size) rest) in
        fine_trans s.plane (call z s c).plane _ first later

-- the neighbours of the plane are inside those of every pass
all_within : (z : Shape) (n : ℕ) (cs : List Call) → Within (neighbours z) z n cs
all_within z n [] = empty
all_within z n (c ∷ cs) = next (λ _. pass_wider z c.pass) (all_within z n cs)

pub chain_fine : (z : Shape) (s : State) (cs : List Call) → Fine (neighbours z) s.plane (chain z s cs).plane
chain_fine z s cs = chain_keeps (neighbours z) z s cs (all_within z (length s.plane) cs)

-- the neighbours by a number are those of every pass that carries it
pub carries_within : (z : Shape) (s : Pass) {number : ℕ} → s.neighbours ≡ number
    → Narrower (adjacency z number) (pass_neighbours z s)
carries_within z s {number} e i j h = ap (λ (f : Near). f i j) (pass_by z s e) ∙ h

-- passes that all carry it
pub all_carry_within : (z : Shape) (n number : ℕ) (of : Pass → Call) → ((s : Pass) → (of s).pass ≡ s)
    → {ss : List Pass} → All (Carries number) ss → Within (adjacency z number) z n (map of ss)
all_carry_within z n number of same none = empty
all_carry_within z n number of same (more {s} e a) =
    next (λ _. carries_within z (of s).pass (ap (λ (t : Pass). t.neighbours) (same s) ∙ e))
    (all_carry_within z n number of same a)
