-- What a reply tells of the number of the refusal. Assumes nothing.
--
--   replied_refuses   a call that is refused with k has the number k, which is not 0
--   replied_gives     a call that gives values has the number 0, and the values are its own
--   replied_none      by 0 a call gives its values
--   replied_refused   by any other number it is refused with that
--   after_refused     and lent memory is as it was
--   replied_err, after_err, replied_ok, after_ok
--                     the same of a result: by a refusal of the number, and where no refusal applies
use Prim.Native.Nat.{ℕ, zero, suc}
use mathlib.Core.Path.{◌≡◌, refl, sym, ap}
use mathlib.Core.List.{List, []}
use native.Mathlib.Omega.{arith}
use Rattle.planes.specs.declared.refusal.Refusal.{Refusal}
use Rattle.planes.specs.Refusals.{number}
use Rattle.planes.proofs.Refusals.{number_some}
use Rattle.planes.specs.Replies.{Reply, refuses, gives, replied, after}

number_of : Reply → ℕ
number_of (refuses k) = k
number_of (gives vs) = 0

values_of : Reply → List ℕ
values_of (refuses k) = []
values_of (gives vs) = vs

given : Reply → ℕ
given (refuses k) = 0
given (gives vs) = 1

pub refuses_not_gives : {k : ℕ} {vs : List ℕ} → refuses k ≡ gives vs → ⊥
unfolding given
refuses_not_gives e = let z : ◌≡◌ {A = ℕ} 0 1 = ap given e in omega arith

pub refuses_same : {j k : ℕ} → refuses j ≡ refuses k → j ≡ k
unfolding number_of
refuses_same e = ap number_of e

pub gives_same : {vs ws : List ℕ} → gives vs ≡ gives ws → vs ≡ ws
unfolding values_of
gives_same e = ap values_of e

pub replied_refuses : (number : ℕ) (vs : List ℕ) {k : ℕ} → replied number vs ≡ refuses k
    → (j : ℕ) × ((number ≡ suc j) × (k ≡ suc j))
replied_refuses zero vs e = absurd (refuses_not_gives (sym e))
replied_refuses (suc j) vs e = (j, (refl, sym (refuses_same e)))

pub replied_gives : (number : ℕ) (vs : List ℕ) {ws : List ℕ} → replied number vs ≡ gives ws → (number ≡ 0) × (ws ≡ vs)
replied_gives zero vs e = (refl, sym (gives_same e))
replied_gives (suc j) vs e = absurd (refuses_not_gives e)

pub replied_none : (number : ℕ) (vs : List ℕ) → number ≡ 0 → replied number vs ≡ gives vs
replied_none number vs e = ap (λ (k : ℕ). replied k vs) e

pub replied_refused : (number : ℕ) (vs : List ℕ) → (number ≡ 0 → ⊥) → replied number vs ≡ refuses number
replied_refused zero vs h = absurd (h refl)
replied_refused (suc k) vs h = refl

pub after_refused : (number : ℕ) (old new : List ℕ) → (number ≡ 0 → ⊥) → after number old new ≡ old
after_refused zero old new h = absurd (h refl)
after_refused (suc k) old new h = refl

-- ## Of a result

pub replied_err : (r : Refusal) (n : ℕ) (vs : List ℕ) → number r ≡ n → refuses (number r) ≡ replied n vs
replied_err r zero vs e = absurd (number_some r e)
replied_err r (suc k) vs e = ap refuses e

pub after_err : (r : Refusal) (n : ℕ) (old new : List ℕ) → number r ≡ n → old ≡ after n old new
after_err r zero old new e = absurd (number_some r e)
after_err r (suc k) old new e = refl

pub replied_ok : (n : ℕ) (vs : List ℕ) → 0 ≡ n → gives vs ≡ replied n vs
replied_ok n vs e = sym (replied_none n vs (sym e))

pub after_ok : (n : ℕ) (old new : List ℕ) → 0 ≡ n → new ≡ after n old new
after_ok n old new e = ap (λ (k : ℕ). after k old new) e
