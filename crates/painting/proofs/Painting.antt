-- A single step of painting: a pixel gets its new value and its next mark. Assumes nothing.
use Prim.Native.Nat.{ℕ, ◌+◌, ◌≤◌, ◌<◌}
use mathlib.Core.Path.{◌≡◌, sym, ap, subst, ◌∙◌}
use mathlib.Core.Logic.{inl, inr}
use mathlib.Core.Bool.{Bool, true, false, true≢false}
use mathlib.Core.List.{List}
use native.Mathlib.Nat.{eq-or-lt_of_le}
use native.Mathlib.Omega.{arith}
use lib.ListN.{length, set, length-set}
use lib.Dec.{leb, ltb}
use borrow.Author.Tests.{leb-false, ltb-false}
use Rattle.planes.specs.Lists.{at}
use Rattle.planes.proofs.Tests.{or_none}
use Rattle.planes.proofs.Stores.{at_set}
use Rattle.painting.specs.Painting.{number, joined, On, Clear, Painted}
use Rattle.painting.specs.declared.Next.{Next}
use Rattle.painting.specs.declared.Sides.{Sides}

-- the flags of one value
sides_of : (t : Next) (v : ℕ) (side : Bool) → Clear side (record { low = leb v t.mid; high = ltb t.mid v })
    → On t side v → ⊥
sides_of t v true e o = true≢false (sym o ∙ e)
sides_of t v false e o = let h = leb-false v t.mid o in let k = ltb-false t.mid v e in omega (arith, h, k)

-- a flag that is false was and is so
pub clear_both : (side : Bool) (r r' : Sides) → Clear side (joined r r') → Clear side r × Clear side r'
clear_both true r r' e = or_none r.low r'.low e
clear_both false r r' e = or_none r.high r'.high e

-- the pixel of entry i is painted too
pub painted_more : {f : ℕ → ℕ} {t : Next} {plane marks queue plane' marks' : List ℕ} {i v x : ℕ} {r : Sides}
    → Painted f t plane marks queue plane' marks' i r → at queue i < length plane → at queue i < length marks
    → ((j : ℕ) → j < i → at queue j ≡ at queue i → ⊥) → v ≡ f (at plane' (at queue i)) → x ≡ number t v
    → Painted f t plane marks queue (set plane' (at queue i) v) (set marks' (at queue i) x) (i + 1)
    (joined r (record { low = leb v t.mid; high = ltb t.mid v }))
painted_more {f} {t} {plane} {marks} {queue} {plane'} {marks'} {i} {v} {x} {r} P h k once e d = record {
  size = simp length-set P.size;
  marks_size = simp length-set P.marks_size;
  drawn = λ j l. at_set (λ (y : ℕ). y ≡ f (at plane (at queue j))) plane' (at queue i) (at queue j) v h'
      (λ q. new j q) (λ q. P.drawn j (before j l q));
  numbered = λ j l. at_set (λ (y : ℕ). y ≡ number t (f (at plane (at queue j)))) marks' (at queue i) (at queue j) x k'
      (λ q. d ∙ ap (number t) (new j q)) (λ q. P.numbered j (before j l q));
  stays = λ p g. let s = P.stays p (λ j l. g j (omega arith)) in (
    at_set (λ (y : ℕ). y ≡ at plane p) plane' (at queue i) p v h' (λ q. absurd (g i (omega arith) (sym q))) (λ q. s.0),
    at_set (λ (y : ℕ). y ≡ at marks p) marks' (at queue i) p x k' (λ q. absurd (g i (omega arith) (sym q))) (λ q. s.1),
  );
  none = λ side c j l o. let both = clear_both side r _ c in
      elim (eq-or-lt_of_le (le-of-lt-add j l)) [
        | inl q ↦ sides_of t v side both.1 (subst (On t side) (sym (new j (ap (at queue) q))) o)
        | inr q ↦ P.none side both.0 j q o
      ];
}
  where
    h' : at queue i < length plane'
    h' = omega (arith, h, P.size)

    k' : at queue i < length marks'
    k' = omega (arith, k, P.marks_size)

    -- the pixel has its first value until its turn comes
    new : (j : ℕ) → at queue j ≡ at queue i → v ≡ f (at plane (at queue j))
    new j q = e ∙ ap f (P.stays (at queue i) once).0 ∙ ap (λ (p : ℕ). f (at plane p)) (sym q)

    le-of-lt-add : (j : ℕ) → j < i + 1 → j ≤ i
    le-of-lt-add j l = omega arith

    before : (j : ℕ) → j < i + 1 → (at queue j ≡ at queue i → ⊥) → j < i
    before j l q = elim (eq-or-lt_of_le (le-of-lt-add j l)) [ inl d ↦ absurd (q (ap (at queue) d)) | inr d ↦ d ]
