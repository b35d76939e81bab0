-- Runs: pixels of one row that have the code and follow one another. A pixel is joined to each pixel of its run by a
-- chain in the row; when the run is taken, none of it has the code, nor has a pixel beside it. By induction over the
-- pixels of the run, from left to right. Assumes nothing.
use Prim.Native.Nat.{ℕ, zero, suc, ◌+◌, ◌-◌, ◌*◌, ◌/◌, ◌≤◌, ◌<◌}
use mathlib.Core.Path.{◌≡◌, refl, sym, ap, subst, ◌∙◌}
use mathlib.Core.Logic.{inl, inr}
use mathlib.Core.Bool.{true}
use mathlib.Core.List.{List}
use native.Mathlib.Nat.{eq-or-lt_of_le}
use native.Mathlib.Omega.{arith}
use lib.ListN.{length}
use lib.Seq.{get_or-set_other}
use Rattle.planes.specs.Lists.{at}
use Rattle.planes.specs.Neighbours.{Chain, here, step}
use Rattle.planes.proofs.Tests.{less_or_not}
use Rattle.planes.proofs.Stores.{at_set}
use Rattle.rows.specs.Rows.{in_row, row_end}
use Rattle.rows.specs.Codes.{alike, Joined, Shut}
use Rattle.rows.specs.Runs.{Room, Taken, none, one, RunStart, RunUpTo, start, more, RunTaken, Reached}
use Rattle.rows.proofs.Rows.{row_bounds, row_of, in_row_lem, in_row_sym, in_row_next}
use Rattle.rows.proofs.Codes.{alike_of}
use Rattle.rows.proofs.Taken.{room_for, taken_room, taken_was}

-- ## Chains in a row

-- pixels of row y, from l on and before r, that all have the code
module _ (w y code l r : ℕ) (marks : List ℕ) (low : y * w ≤ l) (high : r ≤ y * w + w)
    (all : (x : ℕ) → l ≤ x → x < r → at marks x ≡ code) where
  abbrev Link : ℕ → ℕ → Type 0
  Link = Chain (alike (in_row w) marks code) (y * w + w)

  one_link : (p q : ℕ) → l ≤ p → p < r → l ≤ q → q < r → in_row w p q ≡ true → alike (in_row w) marks code p q ≡ true
  one_link p q a b c d e = alike_of (in_row w) code marks (all p a b) (all q c d) e

  -- d pixels to the right
  right : (d p q : ℕ) → q ≡ p + d → l ≤ p → q < r → Link p q
  right zero p q e a b = let d : p ≡ q = omega arith in subst (Link p) d here
  right (suc d) p q e a b =
      let next = in_row_next w y (p + d) q (omega arith) (omega arith) (omega arith) in
      let link = one_link (p + d) q (omega arith) (omega arith) (omega arith) b next in
      step (right d p (p + d) refl a (omega arith)) link (omega arith)

  -- d pixels to the left
  left : (d p q : ℕ) → p ≡ q + d → l ≤ q → p < r → Link p q
  left zero p q e a b = let d : p ≡ q = omega arith in subst (Link p) d here
  left (suc d) p q e a b =
      let next = in_row_sym w (q + 1) q ∙ in_row_next w y q (q + 1) (omega arith) (omega arith) refl in
      let link = one_link (q + 1) q (omega arith) (omega arith) a (omega arith) next in
      step (left d p (q + 1) (omega arith) (omega arith) b) link (omega arith)

  joined : (p q : ℕ) → l ≤ p → p < r → l ≤ q → q < r → Link p q
  joined p q a b c d = elim (less_or_not p q) [
    | inl h ↦ right (q - p) p q (omega arith) a d
    | inr h ↦ left (p - q) p q (omega arith) c b
  ]

-- ## A run that is taken

module _ {code l tail : ℕ} {marks queue : List ℕ} where
  run_past : {r tail' : ℕ} {marks' queue' : List ℕ} → RunUpTo code l marks queue tail r marks' queue' tail' → l ≤ r
  run_past start = omega arith
  run_past (more run e) = omega (arith, run_past run)

  pub run_taken : (P : ℕ → Type 0) (n : ℕ) {r tail' : ℕ} {marks' queue' : List ℕ} → ((x : ℕ) → l ≤ x → x < r → P x)
      → r ≤ n → RunUpTo code l marks queue tail r marks' queue' tail'
      → Taken P n code marks queue tail marks' queue' tail'
  run_taken P n f h start = none
  run_taken P n f h (more {r} run e) =
      let before = run_taken P n (λ x a b. f x a (omega arith)) (omega arith) run in
      one before (f r (run_past run) (omega arith)) (omega arith) e

  -- the pixels from the run's end on keep their marks
  run-rest : {r tail' : ℕ} {marks' queue' : List ℕ} → RunUpTo code l marks queue tail r marks' queue' tail'
      → (x : ℕ) → r ≤ x → at marks' x ≡ at marks x
  run-rest start x h = refl
  run-rest (more {r} {marks' = marks'} run e) x h =
      get_or-set_other marks' r x 0 0 (λ z. absurd (omega arith)) ∙ run-rest run x (omega arith)

  module _ {n : ℕ} (R : Room marks queue n code tail) where
    pub run_room : {r tail' : ℕ} {marks' queue' : List ℕ} → r ≤ n
        → RunUpTo code l marks queue tail r marks' queue' tail' → Room marks' queue' n code tail'
    run_room h run = taken_room R (run_taken (l ≤◌) n (λ x a _. a) h run)

    -- and its next pixel has a place in the queue
    pub run_space : {r tail' : ℕ} {marks' queue' : List ℕ} → RunUpTo code l marks queue tail r marks' queue' tail'
        → r < n → at marks' r ≡ code → tail' < length queue'
    run_space {r} run h e = room_for (run_room (omega arith) run) r h e

    -- its pixels had the code
    run-had : {r tail' : ℕ} {marks' queue' : List ℕ} → r ≤ n → RunUpTo code l marks queue tail r marks' queue' tail'
        → (x : ℕ) → l ≤ x → x < r → at marks x ≡ code
    run-had h start x a b = absurd (omega arith)
    run-had h (more {r} run e) x a b = let b' : x ≤ r = omega arith in elim (eq-or-lt_of_le b') [
      | inl d ↦ ap (at marks) d ∙ sym (run-rest run r (omega arith)) ∙ e
      | inr d ↦ run-had (omega arith) run x a d
    ]

    -- and have it no longer
    run-off : {r tail' : ℕ} {marks' queue' : List ℕ} → r ≤ n → RunUpTo code l marks queue tail r marks' queue' tail'
        → (x : ℕ) → l ≤ x → x < r → at marks' x ≡ code → ⊥
    run-off h start x a b = absurd (omega arith)
    run-off h (more {r} {marks' = marks'} run e) x a b =
        let S = run_room (omega arith) run in
        at_set (λ (y : ℕ). y ≡ code → ⊥) marks' r x 0 (omega (arith, S.covered))
        (λ _ z. absurd (omega (arith, S.real))) (λ o. run-off (omega arith) run x a (omega arith))

    -- the new entries are its pixels
    run-entries : {r tail' : ℕ} {marks' queue' : List ℕ} → r ≤ n → RunUpTo code l marks queue tail r marks' queue' tail'
        → (k : ℕ) → tail ≤ k → k < tail' → (l ≤ at queue' k) × (at queue' k < r)
    run-entries h start k a b = absurd (omega arith)
    run-entries h (more {r} {tail'} {queue' = queue'} run e) k a b =
        let S = run_room (omega arith) run in
        at_set (λ (y : ℕ). (l ≤ y) × (y < r + 1)) queue' tail' k r (room_for S r (omega arith) e)
        (λ _. (run_past run, omega arith))
        (λ o. let p = run-entries (omega arith) run k a (omega arith) in (p.0, omega (arith, p.1)))

-- ## A pixel is reached

pub not_reached : {w code q tail : ℕ} {marks queue : List ℕ} → (at marks q ≡ code → ⊥)
    → Reached w code q marks queue tail marks queue tail
not_reached f = record { taken = none; off = f; rows = λ k a b. absurd (omega arith) }

-- q has the code, l is the first pixel of its run, and the run from l on was taken
module _ {w code q l row tail tail' : ℕ} {marks queue marks' queue' : List ℕ} (wide : 1 ≤ w)
    (R : Room marks queue (row_end w q) code tail) (row_is : row ≡ q / w * w) (has : at marks q ≡ code)
    (S : RunStart marks code row q l) (T : RunTaken code l (row + w) marks queue tail marks' queue' tail') where
  abbrev y : ℕ
  y = q / w

  inside : T.r ≤ row_end w q
  inside = omega (arith, T.within)

  -- the run does not end before q
  past-q : q < T.r
  past-q = elim (less_or_not q T.r) [
    | inl h ↦ h
    | inr h ↦ absurd (T.stop (omega (arith, (row_bounds w q wide).1)) (run-rest T.run T.r (omega arith) ∙ was h))
  ]
    where
      was : T.r ≤ q → at marks T.r ≡ code
      was h = elim (eq-or-lt_of_le h) [
        | inl e ↦ ap (at marks) e ∙ has
        | inr k ↦ S.all T.r (run_past T.run) k
      ]

  run-was : (x : ℕ) → at marks' x ≡ code → at marks x ≡ code
  run-was = taken_was R (run_taken (l ≤◌) (row_end w q) (λ x a _. a) inside T.run)

  -- a pixel beside one of the run is one of the run, or stops it
  shut : (p : ℕ) → l ≤ p → p < T.r → Shut (in_row w) code marks' p
  shut p a b x e d =
      let at_p = row_of w y p (omega (arith, S.past)) (omega (arith, inside)) in
      let at_x = ap (◌* w) ((in_row_lem w p x e).0 ∙ at_p) in
      let bounds = row_bounds w x wide in
      elim (in_row_lem w p x e).1 [
        | inl next ↦ elim (less_or_not x T.r) [
          | inl h ↦ run-off R inside T.run x (omega arith) h d
          | inr h ↦ let end : x ≡ T.r = omega arith in T.stop (omega arith) (sym (ap (at marks') end) ∙ d)
        ]
        | inr next ↦ elim (less_or_not x l) [
          | inl h ↦ S.stop x (omega arith) (omega arith) (run-was x d)
          | inr h ↦ run-off R inside T.run x h (omega arith) d
        ]
      ]

  pub reached : Reached w code q marks queue tail marks' queue' tail'
  reached = record {
    taken = run_taken (Joined (in_row w) (row_end w q) marks code q) (row_end w q)
        (λ x a b. record {
          has = has;
          chain = joined w y code l T.r marks (omega (arith, S.past)) inside (run-had R inside T.run) q x
              S.upto past-q a b;
        })
        inside T.run;
    off = run-off R inside T.run q S.upto past-q;
    rows = λ k a b. let p = run-entries R inside T.run k a b in shut (at queue' k) p.0 p.1;
  }
