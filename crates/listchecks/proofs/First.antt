-- The first of some refusals that applies, looked for along the list of them. Assumes nothing.
--
--   Clear       none of the first ones applies
--   clear_err   a result that hands on the first one that applies
use Prim.Native.Nat.{ℕ, zero, suc, ◌+◌, ◌≤◌, ◌<◌}
use mathlib.Core.Path.{◌≡◌, sym, ap, ◌∙◌}
use mathlib.Core.List.{List, [], ◌∷◌}
use native.Mathlib.Numerals.{add-one}
use native.Mathlib.Omega.{arith}
use lib.ListN.{length, drop, drop_of_length-le}
use lib.Seq.{drop-cons}
use Rattle.planes.specs.Lists.{at}
use Rattle.std.specs.Prelude.{Result}
use Rattle.std.specs.Result.{IsErrAnd}
use Rattle.std.proofs.lemmas.Result.{err_from_is_err_and}
use Rattle.planes.specs.declared.refusal.Refusal.{Refusal}
use Rattle.planes.specs.Refusals.{number, number_in, ◌▷◌}
use Rattle.planes.proofs.Refusals.{number_some, ▷_none, ▷_left, ▷_right}
use Rattle.listchecks.specs.Refusals.{first_refusal}

-- none of the first i refusals applies
pub record Clear (ks : List ℕ) (i : ℕ) : Type 0 where
  pub upto : i ≤ length ks
  pub same : first_refusal (drop i ks) ≡ first_refusal ks

module _ {ks : List ℕ} {i : ℕ} (clear : Clear ks i) where
  next : i < length ks → at ks i ▷ first_refusal (drop (i + 1) ks) ≡ first_refusal ks
  next h =
      let e : drop i ks ≡ at ks i ∷ drop (i + 1) ks = rw add-one (drop-cons ks i 0 h) in
      sym (ap first_refusal e) ∙ clear.same

  pub clear_more : i < length ks → at ks i ≡ 0 → Clear ks (i + 1)
  clear_more h e = record { upto = omega arith; same = sym (▷_right (at ks i) _ e) ∙ next h }

  -- the refusal at index i applies, so it is the first
  pub clear_stop : i < length ks → (at ks i ≡ 0 → ⊥) → at ks i ≡ first_refusal ks
  clear_stop h f = sym (▷_left (at ks i) _ f) ∙ next h

  pub clear_all : length ks ≤ i → 0 ≡ first_refusal ks
  clear_all h = sym (ap first_refusal (drop_of_length-le ks h)) ∙ clear.same

-- where none applies, the one at index i does not
pub clear_each : (ks : List ℕ) → first_refusal ks ≡ 0 → (i : ℕ) → i < length ks → at ks i ≡ 0
clear_each [] e i h = absurd (omega arith)
clear_each (k ∷ ks) e zero h = (▷_none k (first_refusal ks) e).0
clear_each (k ∷ ks) e (suc i) h = clear_each ks (▷_none k (first_refusal ks) e).1 i (omega arith)

-- ## Of results

-- the refusal that the test at index i answers is the first
pub clear_err : {A : Type 0} (r : Result A Refusal) (d : Refusal) {ks : List ℕ} {i : ℕ} → IsErrAnd r (λ e. e ≡ d)
    → Clear ks i → i < length ks → number d ≡ at ks i → number_in r ≡ first_refusal ks
clear_err r d h clear l e =
    let (z, is, same) = err_from_is_err_and r h in
    rw is (ap number same ∙ e ∙ clear_stop clear l (λ n. number_some d (e ∙ n)))
