-- Sums of terms: they grow with their number and with each term, and sums of counts are counts. Assumes nothing.
use Prim.Native.Nat.{ℕ, zero, suc, ◌+◌, ◌-◌, ◌*◌, ◌≤◌, ◌<◌}
use mathlib.Core.Path.{◌≡◌, refl, ap, ap₂, ◌∙◌}
use mathlib.Core.Bool.{Bool, true, false, cond}
use mathlib.Core.List.{List, [], ◌∷◌}
use native.Mathlib.Nat.{le_refl, le_antisymm}
use native.Mathlib.Decide.{le_ind}
use native.Mathlib.Omega.{arith}
use lib.ListN.{length}
use lib.Dec.{leb, ltb, eqb}
use borrow.Author.Tests.{ltb-true, ltb-false, lt-ltb, eqb-true, eqb-false, leb-true, le-leb}
use Rattle.planes.specs.Lists.{count}
use Rattle.planes.proofs.Counts.{count_cons, count_le, count_mono}
use Rattle.histograms.specs.Values.{sum, sum_to}

pub sum_mono : (f : ℕ → ℕ) (i : ℕ) {n p : ℕ} → n ≤ p → sum f i n ≤ sum f i p
sum_mono f i {n} {p} h = le_ind (λ q. sum f i n ≤ sum f i q) (le_refl _) (λ q _ l. omega arith) p h

pub sum_le : (f g : ℕ → ℕ) (i n : ℕ) → ((v : ℕ) → i ≤ v → v < i + n → f v ≤ g v) → sum f i n ≤ sum g i n
sum_le f g i zero h = le_refl 0
sum_le f g i (suc n) h =
    omega (arith, sum_le f g i n (λ v l u. h v l (omega arith)), h (i + n) (omega arith) (omega arith))

pub sum_same : (f g : ℕ → ℕ) (i n : ℕ) → ((v : ℕ) → i ≤ v → v < i + n → f v ≡ g v) → sum f i n ≡ sum g i n
sum_same f g i zero h = refl
sum_same f g i (suc n) h = ap₂ ◌+◌
    (sum_same f g i n (λ v l u. h v l (omega arith)))
    (h (i + n) (omega arith) (omega arith))

pub sum_thousand : (f : ℕ → ℕ) (i n : ℕ) → sum (λ v. 1000 * f v) i n ≡ 1000 * sum f i n
sum_thousand f i zero = refl
sum_thousand f i (suc n) = omega (arith, sum_thousand f i n)

pub sum_none : (f : ℕ → ℕ) (i n : ℕ) → ((v : ℕ) → i ≤ v → v < i + n → f v ≡ 0) → sum f i n ≡ 0
sum_none f i zero h = refl
sum_none f i (suc n) h =
    omega (arith, sum_none f i n (λ v l u. h v l (omega arith)), h (i + n) (omega arith) (omega arith))

-- n terms and p more
sum_both : (f : ℕ → ℕ) (i n p : ℕ) → sum f i (n + p) ≡ sum f i n + sum f (i + n) p
sum_both f i n zero =
    let same : n + 0 ≡ n = omega arith in
    omega (arith, ap (sum f i) same)
sum_both f i n (suc p) =
    let more : n + suc p ≡ suc (n + p) = omega arith in
    let last : i + (n + p) ≡ i + n + p = omega arith in
    omega (arith, ap (sum f i) more, sum_both f i n p, ap f last)

-- ## Sums up to a term

pub sum_to_first : (f : ℕ → ℕ) (a : ℕ) → sum_to f a a ≡ f a
sum_to_first f a =
    let one : a - a + 1 ≡ suc 0 = omega arith in
    let same : a + 0 ≡ a = omega arith in
    ap (sum f a) one ∙ omega (arith, ap f same)

pub sum_to_next : (f : ℕ → ℕ) {a v : ℕ} → a ≤ v → sum_to f a (v + 1) ≡ sum_to f a v + f (v + 1)
sum_to_next f {a} {v} h =
    let more : v + 1 - a + 1 ≡ suc (v - a + 1) = omega arith in
    let last : a + (v - a + 1) ≡ v + 1 = omega arith in
    ap (sum f a) more ∙ ap (λ u. sum_to f a v + f u) last

pub sum_to_mono : (f : ℕ → ℕ) (a : ℕ) {v u : ℕ} → v ≤ u → sum_to f a v ≤ sum_to f a u
sum_to_mono f a {v} {u} h = sum_mono f a {n = v - a + 1} {p = u - a + 1} (omega arith)

-- a term is no more than the sum
pub term_le : (f : ℕ → ℕ) {a v b : ℕ} → a ≤ v → v ≤ b → f v ≤ sum_to f a b
term_le f {a} {v} {b} av vb =
    let last : a + (v - a) ≡ v = omega arith in
    omega (arith, ap f last, sum_mono f a {n = suc (v - a)} {p = b - a + 1} (omega arith))

-- terms that are 0 may go: those below x, and those above y
pub sum_to_low : (f : ℕ → ℕ) {a x v : ℕ} → a ≤ x → x ≤ v → ((u : ℕ) → u < x → f u ≡ 0) → sum_to f a v ≡ sum_to f x v
sum_to_low f {a} {x} {v} ax xv none =
    let number : v - a + 1 ≡ (x - a) + (v - x + 1) = omega arith in
    let start : a + (x - a) ≡ x = omega arith in
    omega (
      arith,
      ap (sum f a) number,
      sum_both f a (x - a) (v - x + 1),
      sum_none f a (x - a) (λ u au ux. none u (omega arith)),
      ap (λ e. sum f e (v - x + 1)) start,
    )

pub sum_to_high : (f : ℕ → ℕ) {a y b : ℕ} → a ≤ y → y ≤ b → ((u : ℕ) → y < u → f u ≡ 0) → sum_to f a b ≡ sum_to f a y
sum_to_high f {a} {y} {b} ay yb none =
    let number : b - a + 1 ≡ (y - a + 1) + (b - y) = omega arith in
    omega (
      arith,
      ap (sum f a) number,
      sum_both f a (y - a + 1) (b - y),
      sum_none f (a + (y - a + 1)) (b - y) (λ u yu ub. none u (omega arith)),
    )

-- ## Sums of counts

-- the values below e and those at e are the values below e + 1
split : (e x : ℕ) → cond (ltb x (suc e)) 1 0 ≡ cond (ltb x e) 1 0 + cond (eqb e x) 1 0
split e x = go (ltb x e) (eqb e x) (ltb x (suc e)) refl refl refl
  where
    go : (s t u : Bool) → ltb x e ≡ s → eqb e x ≡ t → ltb x (suc e) ≡ u → cond u 1 0 ≡ cond s 1 0 + cond t 1 0
    go false false false p q r = refl
    go false false true p q r = absurd (eqb-false e x q (omega (arith, ltb-false x e p, ltb-true x (suc e) r)))
    go true true u p q r = absurd (omega (arith, ltb-true x e p, eqb-true e x q))
    go true false true p q r = refl
    go true false false p q r = absurd (omega (arith, ltb-true x e p, ltb-false x (suc e) r))
    go false true true p q r = refl
    go false true false p q r = absurd (omega (arith, eqb-true e x q, ltb-false x (suc e) r))

pub count_split : (e : ℕ) (vs : List ℕ) → count (λ x. ltb x (suc e)) vs ≡ count (λ x. ltb x e) vs + count (eqb e) vs
count_split e [] = refl
count_split e (x ∷ xs) = omega (
  arith,
  count_cons (λ y. ltb y e) x xs,
  count_cons (eqb e) x xs,
  count_cons (λ y. ltb y (suc e)) x xs,
  split e x,
  count_split e xs,
)

-- the values below i, and each of the n values from i on, are the values below i + n
pub sum_counts : (vs : List ℕ) (i n : ℕ)
    → count (λ x. ltb x i) vs + sum (λ v. count (eqb v) vs) i n ≡ count (λ x. ltb x (i + n)) vs
sum_counts vs i zero =
    let same : i + 0 ≡ i = omega arith in
    omega (arith, ap (λ e. count (λ x. ltb x e) vs) same)
sum_counts vs i (suc n) =
    let next : i + suc n ≡ suc (i + n) = omega arith in
    omega (arith, ap (λ e. count (λ x. ltb x e) vs) next, count_split (i + n) vs, sum_counts vs i n)

-- no more than all values
pub sum_counts_le : (vs : List ℕ) (i n : ℕ) → sum (λ v. count (eqb v) vs) i n ≤ length vs
sum_counts_le vs i n = omega (arith, sum_counts vs i n, count_le (λ x. ltb x (i + n)) vs)

-- the values up to v are the values below v + 1
pub count_to : (v : ℕ) (vs : List ℕ) → count (λ x. ltb x (suc v)) vs ≡ count (λ x. leb x v) vs
count_to v vs = le_antisymm
    (count_mono (λ x. ltb x (suc v)) (λ x. leb x v) (λ x e. le-leb x v (omega (arith, ltb-true x (suc v) e))) vs)
    (count_mono (λ x. leb x v) (λ x. ltb x (suc v)) (λ x e. lt-ltb x (suc v) (omega (arith, leb-true x v e))) vs)
