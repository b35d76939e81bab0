-- The values of a list: which occur, the least and the greatest of them, and where those go under a function that never
-- falls. Assumes nothing.
use Prim.Native.Nat.{ℕ, zero, suc, ◌+◌, ◌-◌, ◌≤◌, ◌<◌, min, max}
use mathlib.Core.Path.{◌≡◌, refl, sym, ap, ap₂, ◌∙◌}
use mathlib.Core.Logic.{◌⊎◌, inl, inr, ⊎_elim}
use mathlib.Core.Bool.{Bool, true, false, cond}
use mathlib.Core.List.{List, [], ◌∷◌, map}
use native.Mathlib.Nat.{le_of_lt, not-suc-le-zero, le_of_suc-le-suc}
use native.Mathlib.Nat.{min-eq_left, min-eq_right, max-eq_left, max-eq_right, max-zero}
use native.Mathlib.Omega.{arith}
use lib.ListN.{length}
use lib.Dec.{eqb, ltb, leb}
use borrow.Author.Tests.{eqb-true, eq-eqb, le-leb, le-ltb}
use Rattle.planes.specs.Lists.{count, at}
use Rattle.planes.proofs.Counts.{count_cons}
use Rattle.planes.proofs.Tests.{less_or_not}
use Rattle.histograms.specs.Values.{sum_to, greatest, least, spread}
use Rattle.histograms.specs.Histograms.{Inside}
use Rattle.histograms.proofs.Sums.{sum_counts, count_split, count_to}

abbrev one : Bool → ℕ
one t = cond t 1 0

-- ## Values that occur

-- v occurs in vs
abbrev pub In : ℕ → List ℕ → Type 0
In v vs = count (eqb v) vs ≡ 0 → ⊥

in_head : (x : ℕ) (xs : List ℕ) → In x (x ∷ xs)
in_head x xs z = omega (arith, count_cons (eqb x) x xs, ap one (eq-eqb x x refl))

in_tail : (v x : ℕ) (xs : List ℕ) → In v xs → In v (x ∷ xs)
in_tail v x xs h z = h (omega (arith, count_cons (eqb v) x xs))

in-cases : (v x : ℕ) (xs : List ℕ) → In v (x ∷ xs) → (v ≡ x) ⊎ In v xs
in-cases v x xs h = go (eqb v x) refl
  where
    go : (t : Bool) → eqb v x ≡ t → (v ≡ x) ⊎ In v xs
    go true e = inl (eqb-true v x e)
    go false e = inr (λ z. h (omega (arith, count_cons (eqb v) x xs, ap one e)))

-- each entry occurs
pub in-at : (vs : List ℕ) (i : ℕ) → i < length vs → In (at vs i) vs
in-at [] i h = absurd (not-suc-le-zero h)
in-at (x ∷ xs) zero h = in_head x xs
in-at (x ∷ xs) (suc i) h = in_tail (at xs i) x xs (in-at xs i (le_of_suc-le-suc h))

-- a value that occurs in a list that lies in [a, b] lies there
pub in-inside : {a b v : ℕ} {vs : List ℕ} → Inside a b vs → In v vs → (a ≤ v) × (v ≤ b)
in-inside {a} {b} {v} s i = (
  ⊎_elim (λ (l : v < a). absurd (i (s.low v l))) (λ (l : a ≤ v). l) (less_or_not v a),
  ⊎_elim (λ (l : b < v). absurd (i (s.high v l))) (λ (l : v ≤ b). l) (less_or_not b v),
)

-- ## Lists that lie in [a, b]

count_zero : (vs : List ℕ) → count (λ x. ltb x 0) vs ≡ 0
count_zero [] = refl
count_zero (x ∷ xs) = omega (arith, count_cons (λ y. ltb y 0) x xs, ap one (le-ltb x 0 (omega arith)), count_zero xs)

none_below : (vs : List ℕ) (e : ℕ) → ((v : ℕ) → v < e → count (eqb v) vs ≡ 0) → count (λ x. ltb x e) vs ≡ 0
none_below vs zero h = count_zero vs
none_below vs (suc e) h = omega (arith, count_split e vs, none_below vs e (λ v l. h v (omega arith)), h e (omega arith))

-- all values of a list are counted by a test that those that occur pass
pub count_full : (f : ℕ → Bool) (vs : List ℕ) → ((v : ℕ) → In v vs → f v ≡ true) → count f vs ≡ length vs
count_full f [] h = refl
count_full f (x ∷ xs) h = omega (
  arith,
  count_cons f x xs,
  ap one (h x (in_head x xs)),
  count_full f xs (λ v i. h v (in_tail v x xs i)),
)

pub inside_all : {a b : ℕ} {vs : List ℕ} → Inside a b vs → count (λ x. leb x b) vs ≡ length vs
inside_all {a} {b} {vs} s = count_full (λ x. leb x b) vs (λ v i. le-leb v b (in-inside s i).1)

-- the counts of the values from a to v add up to the number of values that are no greater than v
pub inside_sum : {a b : ℕ} {vs : List ℕ} → Inside a b vs → (v : ℕ) → a ≤ v
    → sum_to (λ u. count (eqb u) vs) a v ≡ count (λ x. leb x v) vs
inside_sum {a} {b} {vs} s v av =
    let end : a + (v - a + 1) ≡ suc v = omega arith in
    omega (
      arith,
      none_below vs a s.low,
      sum_counts vs a (v - a + 1),
      ap (λ e. count (λ x. ltb x e) vs) end,
      count_to v vs,
    )

-- ## The least and the greatest

-- the one of the two that min and max take
by_min : (P : ℕ → Type 0) (x y : ℕ) → (x ≤ y → P x) → (y ≤ x → P y) → P (min x y)
by_min P x y f g = ⊎_elim
    (λ (h : y < x). rw (min-eq_right (le_of_lt h)) (g (le_of_lt h)))
    (λ (h : x ≤ y). rw (min-eq_left h) (f h))
    (less_or_not y x)

by_max : (P : ℕ → Type 0) (x y : ℕ) → (y ≤ x → P x) → (x ≤ y → P y) → P (max x y)
by_max P x y f g = ⊎_elim
    (λ (h : y < x). rw (max-eq_left (le_of_lt h)) (f (le_of_lt h)))
    (λ (h : x ≤ y). rw (max-eq_right h) (g h))
    (less_or_not y x)

pub least_le : (v : ℕ) (vs : List ℕ) → In v vs → least vs ≤ v
least_le v [] h = absurd (h refl)
least_le v (x ∷ []) h = ⊎_elim (λ (e : v ≡ x). omega arith) (λ i. absurd (i refl)) (in-cases v x [] h)
least_le v (x ∷ y ∷ xs) h = by_min (λ n. n ≤ v) x (least (y ∷ xs))
    (λ l. ⊎_elim (λ (e : v ≡ x). omega arith) (λ i. omega (arith, least_le v (y ∷ xs) i)) (in-cases v x (y ∷ xs) h))
    (λ l. ⊎_elim (λ (e : v ≡ x). omega arith) (λ i. least_le v (y ∷ xs) i) (in-cases v x (y ∷ xs) h))

least_cons : (x : ℕ) (xs : List ℕ) → In (least (x ∷ xs)) (x ∷ xs)
least_cons x [] = in_head x []
least_cons x (y ∷ xs) = by_min (λ n. In n (x ∷ y ∷ xs)) x (least (y ∷ xs))
    (λ l. in_head x (y ∷ xs))
    (λ l. in_tail _ x (y ∷ xs) (least_cons y xs))

pub least_in : (vs : List ℕ) → 1 ≤ length vs → In (least vs) vs
least_in [] h = absurd (omega arith)
least_in (x ∷ xs) h = least_cons x xs

pub greatest_ge : (v : ℕ) (vs : List ℕ) → In v vs → v ≤ greatest vs
greatest_ge v [] h = absurd (h refl)
greatest_ge v (x ∷ xs) h = by_max (λ n. v ≤ n) x (greatest xs)
    (λ l. ⊎_elim (λ (e : v ≡ x). omega arith) (λ i. omega (arith, greatest_ge v xs i)) (in-cases v x xs h))
    (λ l. ⊎_elim (λ (e : v ≡ x). omega arith) (λ i. greatest_ge v xs i) (in-cases v x xs h))

greatest_cons : (x : ℕ) (xs : List ℕ) → In (greatest (x ∷ xs)) (x ∷ xs)
greatest_cons x [] = rw (max-zero x) (in_head x [])
greatest_cons x (y ∷ xs) = by_max (λ n. In n (x ∷ y ∷ xs)) x (greatest (y ∷ xs))
    (λ l. in_head x (y ∷ xs))
    (λ l. in_tail _ x (y ∷ xs) (greatest_cons y xs))

pub greatest_in : (vs : List ℕ) → 1 ≤ length vs → In (greatest vs) vs
greatest_in [] h = absurd (omega arith)
greatest_in (x ∷ xs) h = greatest_cons x xs

-- no value is above the greatest
pub count_greatest : (vs : List ℕ) → count (λ x. leb x (greatest vs)) vs ≡ length vs
count_greatest vs = count_full (λ x. leb x (greatest vs)) vs (λ v i. le-leb v (greatest vs) (greatest_ge v vs i))

-- ## A function that never falls takes the ends to the ends

module _ (f : ℕ → ℕ) (rises : (v u : ℕ) → v ≤ u → f v ≤ f u) where
  least-map : (x : ℕ) (xs : List ℕ) → least (map f (x ∷ xs)) ≡ f (least (x ∷ xs))
  least-map x [] = refl
  least-map x (y ∷ xs) = ap (min (f x)) (least-map y xs)
      ∙ by_min (λ n. min (f x) (f (least (y ∷ xs))) ≡ f n) x (least (y ∷ xs))
      (λ l. min-eq_left (rises _ _ l))
      (λ l. min-eq_right (rises _ _ l))

  greatest-map : (x : ℕ) (xs : List ℕ) → greatest (map f (x ∷ xs)) ≡ f (greatest (x ∷ xs))
  greatest-map x [] = max-zero (f x) ∙ ap f (sym (max-zero x))
  greatest-map x (y ∷ xs) = ap (max (f x)) (greatest-map y xs)
      ∙ by_max (λ n. max (f x) (f (greatest (y ∷ xs))) ≡ f n) x (greatest (y ∷ xs))
      (λ l. max-eq_left (rises _ _ l))
      (λ l. max-eq_right (rises _ _ l))

  pub spread_map : (vs : List ℕ) → 1 ≤ length vs → spread (map f vs) ≡ f (greatest vs) - f (least vs)
  spread_map [] h = absurd (omega arith)
  spread_map (x ∷ xs) h = ap₂ ◌-◌ (greatest-map x xs) (least-map x xs)
