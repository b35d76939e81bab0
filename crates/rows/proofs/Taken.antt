-- What taking pixels does to marks, queue and room. A pixel that is taken is one less that has the code, so the queue's
-- tail plus the number of pixels that have the code never grows, and the queue never overflows. Assumes nothing.
use Prim.Native.Nat.{ℕ, zero, suc, ◌+◌, ◌≤◌, ◌<◌}
use mathlib.Core.Path.{◌≡◌, refl, sym, ap, ◌∙◌}
use mathlib.Core.Logic.{◌⊎◌, inl, inr}
use mathlib.Core.Bool.{Bool, true, false, ◌&&◌, ◌||◌, or-false, and-true}
use mathlib.Core.List.{List}
use mathlib.Mathlib.Data.Bool.Basic.{or_inr}
use native.Mathlib.Nat.{eq-or-lt_of_le, le_refl}
use native.Mathlib.Omega.{arith}
use lib.Dec.{eqb}
use lib.ListN.{length, set, length-set}
use lib.Seq.{get_or-set_same, get_or-set_other}
use borrow.Author.Tests.{eq-eqb, ne_eqb}
use Rattle.planes.specs.Lists.{at, from, count}
use Rattle.planes.specs.Refusals.{greatest_pixels}
use Rattle.planes.proofs.Tests.{eq_or_not}
use Rattle.planes.proofs.Counts.{count_same, count_add, count_upto, count_le, length_from}
use Rattle.planes.proofs.Stores.{at_set}
use Rattle.rows.specs.Codes.{coded}
use Rattle.rows.specs.Runs.{Room, Taken, none, one}

-- ## Room

-- a pixel that is taken is one less that has the code
fewer : (marks : List ℕ) (n code q : ℕ) → q < n → n ≤ length marks → 1 ≤ code → at marks q ≡ code
    → count (coded marks code) (from 0 n) ≡ 1 + count (coded (set marks q 0) code) (from 0 n)
fewer marks n code q h covered real e =
    count_same (coded marks code) (λ z. (P z || eqb z q) && true) n (λ z _. same z (eq_or_not z q))
    ∙ count_add P (λ z. true) q 0 n (omega arith) (omega arith) off
    ∙ ap (1 +◌) (count_same (λ z. P z && true) P n (λ z _. and-true (P z)))
  where
    P : ℕ → Bool
    P = coded (set marks q 0) code

    off : P q ≡ false
    off =
        ap (λ (x : ℕ). eqb x code) (get_or-set_same marks q 0 0 (omega arith))
        ∙ ne_eqb 0 code (λ z. absurd (omega arith))

    same : (z : ℕ) → (z ≡ q) ⊎ (z ≡ q → ⊥) → coded marks code z ≡ ((P z || eqb z q) && true)
    same z (inl d) =
        ap (coded marks code) d ∙ eq-eqb (at marks q) code e
        ∙ sym (and-true _ ∙ or_inr (P z) (eqb z q) (eq-eqb z q d))
    same z (inr d) = sym (
        and-true (P z || eqb z q) ∙ ap (P z ||◌) (ne_eqb z q d) ∙ or-false (P z)
        ∙ ap (λ (x : ℕ). eqb x code) (get_or-set_other marks q z 0 0 d)
        )

-- no more numbers below a than below b pass a test
count_below : (f : ℕ → Bool) (a b : ℕ) → a ≤ b → count f (from 0 a) ≤ count f (from 0 b)
count_below f a zero h = let e : a ≡ zero = omega arith in rw e (le_refl 0)
count_below f a (suc b) h = elim (eq-or-lt_of_le h) [
  | inl e ↦ rw e (le_refl (count f (from 0 (suc b))))
  | inr l ↦ omega (arith, count_upto f b, count_below f a b (omega arith))
]

module _ {marks queue : List ℕ} {n code tail : ℕ} (R : Room marks queue n code tail) where
  pub room_for : (q : ℕ) → q < n → at marks q ≡ code → tail < length queue
  room_for q h e = omega (arith, R.spare, fewer marks n code q h R.covered R.real e)

  pub room_took : (q : ℕ) → q < n → at marks q ≡ code → Room (set marks q 0) (set queue tail q) n code (tail + 1)
  room_took q h e = record {
    few = R.few;
    real = R.real;
    covered = rw length-set R.covered;
    spare = rw length-set (omega (arith, R.spare, fewer marks n code q h R.covered R.real e));
  }

  -- room for the first pixels alone
  pub room_less : (m : ℕ) → m ≤ n → Room marks queue m code tail
  room_less m h = record {
    few = omega (arith, R.few);
    real = R.real;
    covered = omega (arith, R.covered);
    spare = omega (arith, R.spare, count_below (coded marks code) m n h);
  }

-- a queue with an entry for each pixel has room
pub room_whole : (marks queue : List ℕ) (n code : ℕ) → n ≤ greatest_pixels → 1 ≤ code → n ≤ length marks
    → n ≤ length queue → Room marks queue n code 0
room_whole marks queue n code few real covered spare = record {
  few = few;
  real = real;
  covered = covered;
  spare = omega (arith, count_le (coded marks code) (from 0 n), length_from 0 n);
}

-- ## Pixels taken

module _ {P : ℕ → Type 0} {n code tail : ℕ} {marks queue : List ℕ} where
  -- what was in the queue stays
  pub taken_kept : {tail' : ℕ} {marks' queue' : List ℕ} → Taken P n code marks queue tail marks' queue' tail'
      → (tail ≤ tail') × ((k : ℕ) → k < tail → at queue' k ≡ at queue k)
  taken_kept none = (omega arith, λ k l. refl)
  taken_kept (one {q} {tail' = tail'} {queue' = queue'} t p h e) =
      let r = taken_kept t in
      (omega (arith, r.0), λ k l. get_or-set_other queue' tail' k q 0 (λ z. absurd (omega (arith, r.0))) ∙ r.1 k l)

  pub taken_room : {tail' : ℕ} {marks' queue' : List ℕ} → Room marks queue n code tail
      → Taken P n code marks queue tail marks' queue' tail' → Room marks' queue' n code tail'
  taken_room R none = R
  taken_room R (one {q} t p h e) = room_took (taken_room R t) q h e

  -- a pixel that has the code had it before
  pub taken_was : {tail' : ℕ} {marks' queue' : List ℕ} → Room marks queue n code tail
      → Taken P n code marks queue tail marks' queue' tail' → (x : ℕ) → at marks' x ≡ code → at marks x ≡ code
  taken_was R none x e = e
  taken_was R (one {q} {marks' = marks'} t p h c) x e =
      let S = taken_room R t in
      at_set (λ (y : ℕ). y ≡ code → at marks x ≡ code) marks' q x 0 (omega (arith, S.covered))
      (λ _ z. absurd (omega (arith, S.real))) (λ _ z. taken_was R t x z) e

  -- more holds of the pixels taken
  pub taken_map : {Q : ℕ → Type 0} {m tail' : ℕ} {marks' queue' : List ℕ} → n ≤ m → ((x : ℕ) → P x → Q x)
      → Taken P n code marks queue tail marks' queue' tail' → Taken Q m code marks queue tail marks' queue' tail'
  taken_map h f none = none
  taken_map h f (one {q} t p l e) = one (taken_map h f t) (f q p) (omega arith) e

  pub taken_join : {tail' : ℕ} {marks' queue' : List ℕ} {tail'' : ℕ} {marks'' queue'' : List ℕ}
      → Taken P n code marks queue tail marks' queue' tail' → Taken P n code marks' queue' tail' marks'' queue'' tail''
      → Taken P n code marks queue tail marks'' queue'' tail''
  taken_join s none = s
  taken_join s (one t p h e) = one (taken_join s t) p h e
