-- A lone component is kept back, whatever the section. Assumes nothing.
--
--   lone_kept      the rule keeps a lone component back
--   lone_alike     the order of the values does not matter
--   lone_part      a component whose values all occur in a lone one is lone, too
--   one_measured   all values are one exactly where the least is the greatest
use Prim.Native.Nat.{ℕ, ◌≤◌, zero-le}
use mathlib.Core.Path.{◌≡◌, refl, sym, subst, ◌∙◌}
use mathlib.Core.Bool.{true, false≢true}
use mathlib.Core.List.{List, [], ◌∷◌}
use mathlib.Mathlib.Data.Bool.Basic.{or_inl, and_elim_left, and_elim_right}
use native.Mathlib.Omega.{arith}
use lib.ListN.{length}
use lib.Dec.{eqb}
use borrow.Author.Tests.{eqb-true, eq-eqb}
use Rattle.planes.specs.Lists.{every, count, at}
use Rattle.planes.proofs.Tests.{same_test}
use Rattle.planes.proofs.Lists.{every_count, count_every}
use Rattle.histograms.specs.Values.{greatest, least, spread}
use Rattle.histograms.specs.Histograms.{Alike}
use Rattle.histograms.proofs.Values.{In, in-at, count_full, least_le, greatest_ge, greatest_in}
use Rattle.histograms.proofs.Measured.{alike_turned}
use Rattle.plain.specs.Plain.{plain_kept}
use Rattle.tones.specs.declared.Rule.{Rule}
use Rattle.tones.specs.declared.Rule.TheVariants.{Plain, Limited, Affine}
use Rattle.tones.specs.Tones.{kept}
use Rattle.tones.specs.Lone.{one_value, lone}

-- ## One value

greatest_one : (v : ℕ) (vs : List ℕ) → every (eqb v) vs ≡ true → greatest vs ≤ v
greatest_one v [] e = zero-le
greatest_one v (x ∷ xs) e =
    let head : v ≡ x = eqb-true v x (and_elim_left (eqb v x) (every (eqb v) xs) e) in
    let rest = greatest_one v xs (and_elim_right (eqb v x) (every (eqb v) xs) e) in
    omega arith

least_one : (v x : ℕ) (xs : List ℕ) → every (eqb v) (x ∷ xs) ≡ true → v ≤ least (x ∷ xs)
least_one v x [] e = let head : v ≡ x = eqb-true v x (and_elim_left (eqb v x) true e) in omega arith
least_one v x (y ∷ ys) e =
    let head : v ≡ x = eqb-true v x (and_elim_left (eqb v x) (every (eqb v) (y ∷ ys)) e) in
    let rest = least_one v y ys (and_elim_right (eqb v x) (every (eqb v) (y ∷ ys)) e) in
    omega arith

spread_one : (v : ℕ) (vs : List ℕ) → every (eqb v) vs ≡ true → spread vs ≡ 0
spread_one v [] e = refl
spread_one v (x ∷ xs) e = omega (arith, greatest_one v (x ∷ xs) e, least_one v x xs e)

-- a list whose members are all v has one value
one_value_lem : (v : ℕ) (vs : List ℕ) → every (eqb v) vs ≡ true → one_value vs ≡ true
unfolding one_value
one_value_lem v [] e = refl
one_value_lem v (x ∷ xs) e =
    subst (λ (u : ℕ). every (eqb u) (x ∷ xs) ≡ true) (eqb-true v x (and_elim_left (eqb v x) (every (eqb v) xs) e)) e

-- ## Lone components

pub lone_kept : (rule : Rule) (a b : ℕ) (vs : List ℕ) → lone rule vs ≡ true → kept rule a b vs ≡ true
unfolding kept plain_kept one_value
lone_kept (Plain low high) a b vs d =
    or_inl _ _ (or_inl _ _ (eq-eqb (spread vs) 0 (spread_one (at vs 0) vs d)))
lone_kept (Limited k) a b vs d = absurd (false≢true d)
lone_kept (Affine segments smin smax) a b vs d = absurd (false≢true d)

-- all values of a lone component are the first one
pub lone_one : (rule : Rule) (vs : List ℕ) → lone rule vs ≡ true → every (eqb (at vs 0)) vs ≡ true
unfolding one_value
lone_one (Plain low high) vs e = e
lone_one (Limited k) vs e = absurd (false≢true e)
lone_one (Affine segments smin smax) vs e = absurd (false≢true e)

same_one : (vs ws : List ℕ) → Alike vs ws → one_value vs ≡ true → one_value ws ≡ true
unfolding one_value
same_one vs ws A e =
    let v : ℕ = at vs 0 in
    let all : count (eqb v) vs ≡ length vs = count_every (eqb v) vs e in
    one_value_lem v ws (every_count (eqb v) ws (sym (A.same v) ∙ all ∙ A.size))

-- the same values in another order
pub lone_alike : (rule : Rule) {vs ws : List ℕ} → Alike vs ws → lone rule vs ≡ lone rule ws
lone_alike (Plain low high) {vs} {ws} A =
    same_test (one_value vs) (one_value ws) (same_one vs ws A) (same_one ws vs (alike_turned A))
lone_alike (Limited k) A = refl
lone_alike (Affine segments smin smax) A = refl

-- values of which none is new
pub lone_part : (rule : Rule) (vs ws : List ℕ) → ((v : ℕ) → every (eqb v) vs ≡ true → every (eqb v) ws ≡ true)
    → lone rule vs ≡ true → lone rule ws ≡ true
unfolding one_value
lone_part (Plain low high) vs ws f e = one_value_lem (at vs 0) ws (f (at vs 0) e)
lone_part (Limited k) vs ws f e = e
lone_part (Affine segments smin smax) vs ws f e = e

-- ## Measures

-- where the least value is the greatest, every value is the first
first_only : (vs : List ℕ) → 1 ≤ length vs → least vs ≡ greatest vs → (v : ℕ) → In v vs → at vs 0 ≡ v
first_only vs some e v i =
    let first = in-at vs 0 some in
    omega (
      arith,
      least_le v vs i,
      greatest_ge v vs i,
      least_le (at vs 0) vs first,
      greatest_ge (at vs 0) vs first,
    )

-- where every value is v, it is the least and the greatest
ends_one : (v : ℕ) (vs : List ℕ) → 1 ≤ length vs → every (eqb v) vs ≡ true → least vs ≡ greatest vs
ends_one v [] some e = absurd (omega arith)
ends_one v (x ∷ xs) some e =
    let order = least_le (greatest (x ∷ xs)) (x ∷ xs) (greatest_in (x ∷ xs) some) in
    omega (arith, greatest_one v (x ∷ xs) e, least_one v x xs e)

-- all values are one exactly where the least is the greatest
pub one_measured : (vs : List ℕ) → 1 ≤ length vs → eqb (least vs) (greatest vs) ≡ one_value vs
unfolding one_value
one_measured vs some =
    let v : ℕ = at vs 0 in
    same_test (eqb (least vs) (greatest vs)) (every (eqb v) vs)
    (λ e. every_count (eqb v) vs (count_full (eqb v) vs (λ u i.
    eq-eqb v u (first_only vs some (eqb-true (least vs) (greatest vs) e) u i))))
    (λ e. eq-eqb (least vs) (greatest vs) (ends_one v vs some e))
