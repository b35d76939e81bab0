-- An enumeration counts like its set: a test passes at as many entries as pixels of the set. Assumes nothing.
use Prim.Native.Nat.{ℕ, zero, suc, ◌+◌, ◌≤◌, ◌<◌}
use mathlib.Core.Path.{◌≡◌, refl, sym, ap, subst, ◌∙◌}
use mathlib.Core.Logic.{inl, inr}
use mathlib.Core.Bool.{Bool, true, false, cond, ◌&&◌, false≢true, and-true}
use mathlib.Core.List.{List, map}
use mathlib.Mathlib.Data.Bool.Basic.{or_inl, or_inr}
use native.Mathlib.Nat.{eq-or-lt_of_le}
use native.Mathlib.Omega.{arith}
use lib.ListN.{length, take}
use lib.Seq.{take-suc, length-take-le}
use lib.Dec.{eqb}
use borrow.Author.Tests.{eqb-true, eq-eqb}
use Rattle.planes.specs.Lists.{from, keep, count, at}
use Rattle.planes.specs.Enumerations.{among, Place, Enumerates}
use Rattle.planes.proofs.Tests.{or_cases, same_test}
use Rattle.planes.proofs.Counts.{count_same, count_none, count_all, count_snoc, count_map, count_keep}
use Rattle.planes.proofs.Counts.{count_add, count_upto}

-- ## Members of a queue

module _ (queue : List ℕ) where
  pub among_at : (m k : ℕ) → k < m → among queue m (at queue k) ≡ true
  unfolding among
  among_at zero k h = absurd (omega arith)
  among_at (suc m) k h = let l : k ≤ m = omega arith in elim (eq-or-lt_of_le l) [
    | inl q ↦ or_inr (among queue m (at queue k)) _ (eq-eqb _ _ (ap (at queue) q))
    | inr q ↦ or_inl (among queue m (at queue k)) _ (among_at m k q)
  ]

  pub among_place : (m p : ℕ) → among queue m p ≡ true → Place queue m p
  unfolding among
  among_place zero p e = absurd (false≢true e)
  among_place (suc m) p e = elim (or_cases (among queue m p) (eqb p (at queue m)) e) [
    | inl d ↦
        let r = among_place m p d in
        record { index = r.index; below = omega (arith, r.below); holds = r.holds }
    | inr d ↦ record { index = m; below = omega arith; holds = sym (eqb-true p (at queue m) d) }
  ]

  pub place_among : {m p : ℕ} → Place queue m p → among queue m p ≡ true
  place_among {m} {p} r = subst (λ (x : ℕ). among queue m x ≡ true) r.holds (among_at m r.index r.below)

  -- ## Counts

  -- the first m entries are below n, and none of them is among those before it
  module _ (n m : ℕ) (below : (k : ℕ) → k < m → at queue k < n)
      (fresh : (k : ℕ) → k < m → among queue k (at queue k) ≡ false) where
    pub count_among : m ≤ length queue → (f : ℕ → Bool)
        → count f (take m queue) ≡ count (λ z. among queue m z && f z) (from 0 n)
    unfolding among
    count_among h f = go m (omega arith)
      where
        go : (k : ℕ) → k ≤ m → count f (take k queue) ≡ count (λ z. among queue k z && f z) (from 0 n)
        go zero l = sym (count_none (from 0 n))
        go (suc k) l =
            let y : ℕ = at queue k in
            let added : count (λ z. among queue (suc k) z && f z) (from 0 n)
            ≡ cond (f y) 1 0 + count (λ z. among queue k z && f z) (from 0 n) =
            count_add (among queue k) f y 0 n (omega arith) (omega (arith, below k l)) (fresh k l) in
            ap (count f) (take-suc queue k 0 (omega arith))
            ∙ count_snoc f (take k queue) y
            ∙ ap (cond (f y) 1 0 +◌) (go k (omega arith))
            ∙ sym added

  -- the entries, one by one
  pub count_indexes : (f : ℕ → Bool) (m : ℕ) → m ≤ length queue
      → count f (take m queue) ≡ count (λ i. f (at queue i)) (from 0 m)
  count_indexes f zero h = refl
  count_indexes f (suc m) h =
      ap (count f) (take-suc queue m 0 h)
      ∙ count_snoc f (take m queue) (at queue m)
      ∙ ap (cond (f (at queue m)) 1 0 +◌) (count_indexes f m (omega arith))
      ∙ sym (count_upto (λ i. f (at queue i)) m)

-- ## An enumeration of a set

module _ {queue : List ℕ} {m n : ℕ} {S : ℕ → Bool} (E : Enumerates queue m n S) where
  among-set : (p : ℕ) → p < n → among queue m p ≡ S p
  among-set p h = same_test (among queue m p) (S p)
      (λ e.
      let r = among_place queue m p e in
      subst (λ (x : ℕ). S x ≡ true) r.holds (E.inside r.index r.below))
      (λ e. place_among queue (E.every p h e))

  fresh : (k : ℕ) → k < m → among queue k (at queue k) ≡ false
  fresh k h = go (among queue k (at queue k)) refl
    where
      go : (t : Bool) → among queue k (at queue k) ≡ t → t ≡ false
      go true e =
          let r = among_place queue k (at queue k) e in
          absurd (E.distinct r.index k r.below h r.holds)
      go false e = refl

  -- a test passes at as many entries as pixels of the set
  pub entries_count : (f : ℕ → Bool) → count f (take m queue) ≡ count (λ p. S p && f p) (from 0 n)
  entries_count f =
      count_among queue n m E.below fresh E.fits f
      ∙ count_same _ _ n (λ x h. ap (◌&& f x) (among-set x h))

  -- the values of a plane at the entries are the values of the set's pixels, each as often
  pub values_count : (plane : List ℕ) (f : ℕ → Bool)
      → count f (map (at plane) (take m queue)) ≡ count f (map (at plane) (keep S (from 0 n)))
  values_count plane f =
      count_map f (at plane) (take m queue)
      ∙ entries_count (λ p. f (at plane p))
      ∙ sym (count_keep (λ p. f (at plane p)) S (from 0 n))
      ∙ sym (count_map f (at plane) (keep S (from 0 n)))

  pub entries_size : m ≡ count S (from 0 n)
  entries_size =
      sym (length-take-le m queue E.fits)
      ∙ sym (count_all (take m queue))
      ∙ entries_count (λ p. true)
      ∙ count_same _ _ n (λ x h. and-true (S x))
