-- A section that was marked is ready for its treatment. Assumes nothing.
use Prim.Native.Nat.{ℕ, ◌≤◌, ◌<◌}
use mathlib.Core.Path.{◌≡◌, sym, ap, ◌∙◌, refl}
use mathlib.Core.Bool.{Bool, true, false, cond, not, ◌&&◌, true≢false, and-false}
use mathlib.Core.Logic.{◌⊎◌, inl, inr}
use mathlib.Core.List.{List}
use mathlib.Mathlib.Data.Bool.Basic.{and_elim_left, and_elim_right}
use native.Mathlib.Omega.{arith}
use lib.ListN.{length}
use lib.Dec.{eqb}
use borrow.Author.Tests.{eq-eqb}
use Rattle.planes.specs.Lists.{at, from}
use Rattle.planes.specs.Neighbours.{Near, first}
use Rattle.planes.proofs.Tests.{decide}
use Rattle.planes.proofs.Counts.{count_same, count_none}
use Rattle.planes.specs.Shapes.{pixels, Lent}
use Rattle.planes.specs.declared.Shape.{Shape}
use Rattle.model.specs.declared.Pass.{Pass}
use Rattle.model.specs.Passes.{within, inside, component_values, sufficient, counted}
use Rattle.model.proofs.Order.{in-to}
use Rattle.painting.specs.Painting.{Marked}
use Rattle.painting.specs.declared.Next.{Next}
use Rattle.sections.specs.Sections.{gone, Coded, Section}

-- the pixels of the section, and no others, have the code 1
pub marked_coded : {near : Near} {n : ℕ} {s : Pass} {plane marks marks' : List ℕ} → Marked s plane marks marks' n
    → Coded near n 1 s plane marks'
unfolding inside
marked_coded {near} {n} {s} {plane} {marks} {marks'} M = record {
  coded = was-in;
  whole = λ u v hu hv e _.
      let both = and_elim_left (within s (at plane u) && within s (at plane v)) (near u v) e in
      is_one v hv (and_elim_right (within s (at plane u)) (within s (at plane v)) both);
  others = λ p h e f. absurd (f (is_one p h e));
}
  where
    is_one : (p : ℕ) → p < n → within s (at plane p) ≡ true → at marks' p ≡ 1
    is_one p h e = M.drawn p h ∙ ap (λ (t : Bool). cond t 1 0) e

    was-in : (p : ℕ) → p < n → at marks' p ≡ 1 → within s (at plane p) ≡ true
    was-in p h e = go (within s (at plane p)) refl
      where
        go : (t : Bool) → within s (at plane p) ≡ t → within s (at plane p) ≡ true
        go true d = d
        go false d = absurd (omega (arith, sym e ∙ M.drawn p h ∙ ap (λ (t : Bool). cond t 1 0) d))

-- so that none of its components has left
pub marked_gone : (near : Near) {n : ℕ} {s : Pass} {plane marks marks' : List ℕ} → Marked s plane marks marks' n
    → gone near n 1 s plane marks' ≡ 0
unfolding gone
marked_gone near {n} {s} {plane} {marks} {marks'} M =
    count_same _ (λ p. false) n (λ p h. here p h (decide (within s (at plane p)))) ∙ count_none (from 0 n)
  where
    here : (p : ℕ) → p < n → (within s (at plane p) ≡ true) ⊎ (within s (at plane p) ≡ false)
        → (not (eqb (at marks' p) 1) && counted (sufficient s) near s plane p) ≡ false
    here p h (inl d) = ap (λ (t : Bool). not t && counted (sufficient s) near s plane p)
        (eq-eqb (at marks' p) 1 (M.drawn p h ∙ ap (λ (t : Bool). cond t 1 0) d))
    here p h (inr d) =
        let vs = component_values near s plane p in
        ap (λ (t : Bool). not (eqb (at marks' p) 1) && (t && sufficient s vs
        && first (length plane) (inside near s plane) p)) d ∙ and-false (not (eqb (at marks' p) 1))

-- in the section of all values, every pixel has it
pub marked_whole : {n : ℕ} {s : Pass} {plane marks marks' : List ℕ} → s.a ≡ 0 → s.b ≡ 255
    → Marked s plane marks marks' n → (p : ℕ) → p < n → at marks' p ≡ 1
marked_whole {s = s} {plane} low high M p h =
    M.drawn p h ∙ ap (λ (t : Bool). cond t 1 0)
    (in-to s (at plane p) (omega (arith, low)) (omega (arith, high, M.bytes p h)))

-- what the treatment requires of it, with next marks that differ from 1
pub marked_section : {z : Shape} {s : Pass} {t : Next} {plane marks marks' queue : List ℕ}
    → Lent z (length plane) (length marks) (length queue) → s.a ≤ s.b → Marked s plane marks marks' (pixels z)
    → (t.low ≡ 1 → ⊥) × (t.high ≡ 1 → ⊥) → Section plane marks' queue z 1 true s t
marked_section L ab M f = record {
  lent = record {
    size = L.size;
    whole = L.whole;
    covered = omega (arith, L.covered, M.rest.size);
    spare = L.spare;
  };
  order = ab;
  real = omega arith;
  low = f.0;
  high = f.1;
  coded = marked_coded M;
  found = λ e. absurd (true≢false e);
}
