-- Counts and kept members of lists of pixels, and counts as a pixel is added to a set. Assumes nothing.
use Prim.Native.Nat.{ℕ, zero, suc, ◌+◌, ◌≤◌, ◌<◌, zero-le}
use mathlib.Core.Path.{◌≡◌, refl, sym, ap, ap₂, ◌∙◌}
use mathlib.Core.Logic.{◌⊎◌, inl, inr}
use mathlib.Core.Bool.{Bool, true, false, cond, ◌&&◌, ◌||◌, false≢true, or-false, and-false}
use mathlib.Core.List.{List, [], ◌∷◌, ◌++◌, map}
use mathlib.Mathlib.Data.Bool.Basic.{and_elim_left}
use native.Mathlib.Nat.{le_refl, eq-or-lt_of_le}
use native.Mathlib.Omega.{arith}
use lib.ListN.{length}
use lib.Dec.{eqb}
use borrow.Author.Tests.{eqb-true, eq-eqb, ne_eqb}
use Rattle.planes.specs.Lists.{from, keep, every, count}
use Rattle.planes.proofs.Tests.{same_test}

pub count_cons : (f : ℕ → Bool) (x : ℕ) (xs : List ℕ) → count f (x ∷ xs) ≡ cond (f x) 1 0 + count f xs
count_cons f x xs = go (f x)
  where
    go : (t : Bool) → length (cond t (x ∷ keep f xs) (keep f xs)) ≡ cond t 1 0 + count f xs
    go true = omega arith
    go false = omega arith

pub count_le : (f : ℕ → Bool) (xs : List ℕ) → count f xs ≤ length xs
count_le f [] = le_refl 0
count_le f (x ∷ xs) = go (f x) (count_le f xs)
  where
    go : (t : Bool) → count f xs ≤ length xs → length (cond t (x ∷ keep f xs) (keep f xs)) ≤ suc (length xs)
    go true h = omega arith
    go false h = omega arith

-- two tests that agree on the pixels of a stretch keep, and count, the same
pub keep_same : (f f' : ℕ → Bool) (i m : ℕ) → ((x : ℕ) → i ≤ x → x < i + m → f x ≡ f' x)
    → keep f (from i m) ≡ keep f' (from i m)
keep_same f f' i zero h = refl
keep_same f f' i (suc m) h =
    ap₂ (λ (t : Bool) (l : List ℕ). cond t (i ∷ l) l) (h i (le_refl i) (omega arith))
    (keep_same f f' (suc i) m (λ x l k. h x (omega arith) (omega arith)))

pub count_same : (f f' : ℕ → Bool) (n : ℕ) → ((x : ℕ) → x < n → f x ≡ f' x) → count f (from 0 n) ≡ count f' (from 0 n)
count_same f f' n h = ap length (keep_same f f' 0 n (λ x _ k. h x (omega arith)))

pub length_from : (i n : ℕ) → length (from i n) ≡ n
length_from i zero = refl
length_from i (suc n) = ap suc (length_from (suc i) n)

pub count_none : (xs : List ℕ) → count (λ x. false) xs ≡ 0
count_none [] = refl
count_none (x ∷ xs) = count_none xs

pub count_all : (xs : List ℕ) → count (λ x. true) xs ≡ length xs
count_all [] = refl
count_all (x ∷ xs) = ap suc (count_all xs)

pub count_snoc : (f : ℕ → Bool) (xs : List ℕ) (y : ℕ) → count f (xs ++ (y ∷ [])) ≡ cond (f y) 1 0 + count f xs
count_snoc f [] y = count_cons f y []
count_snoc f (x ∷ xs) y = rw (count_cons f x (xs ++ (y ∷ [])), count_cons f x xs) (omega (arith, count_snoc f xs y))

pub count_map : (f : ℕ → Bool) (g : ℕ → ℕ) (xs : List ℕ) → count f (map g xs) ≡ count (λ x. f (g x)) xs
count_map f g [] = refl
count_map f g (x ∷ xs) = rw (count_cons f (g x) (map g xs), count_cons (λ x. f (g x)) x xs, count_map f g xs)

pub count_keep : (f S : ℕ → Bool) (xs : List ℕ) → count f (keep S xs) ≡ count (λ x. S x && f x) xs
count_keep f S [] = refl
count_keep f S (x ∷ xs) = rw (count_cons (λ x. S x && f x) x xs) (go (S x) (count_keep f S xs))
  where
    go : (t : Bool) → count f (keep S xs) ≡ count (λ x. S x && f x) xs
        → count f (cond t (x ∷ keep S xs) (keep S xs)) ≡ cond (t && f x) 1 0 + count (λ x. S x && f x) xs
    go true e = rw (count_cons f x (keep S xs)) (omega arith)
    go false e = omega arith

-- ## Counts, as a pixel is added to a set

pub count_add : (P f : ℕ → Bool) (y s m : ℕ) → s ≤ y → y < s + m → P y ≡ false
    → count (λ z. (P z || eqb z y) && f z) (from s m) ≡ cond (f y) 1 0 + count (λ z. P z && f z) (from s m)
count_add P f y s zero l h e = absurd (omega arith)
count_add P f y s (suc m) l h e =
    rw (count_cons F s (from (suc s) m), count_cons G s (from (suc s) m))
    (go (eq-or-lt_of_le l) (λ k. count_add P f y (suc s) m k (omega arith) e))
  where
    F : ℕ → Bool
    F z = (P z || eqb z y) && f z

    G : ℕ → Bool
    G z = P z && f z

    -- away from y the two tests agree
    off : (z : ℕ) → (z ≡ y → ⊥) → F z ≡ G z
    off z n = ap (◌&& f z) (ap (P z ||◌) (ne_eqb z y n) ∙ or-false (P z))

    go : (s ≡ y) ⊎ (s < y) → (s < y → count F (from (suc s) m) ≡ cond (f y) 1 0 + count G (from (suc s) m))
        → cond (F s) 1 0 + count F (from (suc s) m) ≡ cond (f y) 1 0 + (cond (G s) 1 0 + count G (from (suc s) m))
    go (inl q) ih =
        let a : F s ≡ f y = ap₂ (λ (t u : Bool). (t || u) && f s) (ap P q ∙ e) (eq-eqb s y q) ∙ ap f q in
        let b : G s ≡ false = ap (◌&& f s) (ap P q ∙ e) in
        let past : (z : ℕ) → suc s ≤ z → z < suc s + m → F z ≡ G z = λ z k _. off z (λ r. absurd (omega arith)) in
        let c : count F (from (suc s) m) ≡ count G (from (suc s) m) = ap length (keep_same F G (suc s) m past) in
        rw (a, b) (omega arith)
    go (inr k) ih = rw (off s (λ r. absurd (omega arith))) (omega (arith, ih k))

-- ## The numbers below k + 1

from_snoc : (i k : ℕ) → from i (suc k) ≡ from i k ++ ((i + k) ∷ [])
from_snoc i zero = ap (◌∷ []) (omega arith)
from_snoc i (suc k) = ap (i ∷◌) (from_snoc (suc i) k ∙ ap (λ (z : ℕ). from (suc i) k ++ (z ∷ [])) (omega arith))

pub count_upto : (f : ℕ → Bool) (k : ℕ) → count f (from 0 (suc k)) ≡ cond (f k) 1 0 + count f (from 0 k)
count_upto f k =
    ap (count f) (from_snoc 0 k)
    ∙ count_snoc f (from 0 k) (0 + k)
    ∙ ap (λ (z : ℕ). cond (f z) 1 0 + count f (from 0 k)) (omega arith)

-- a stretch where the test fails counts nothing
pub count_over : (f : ℕ → Bool) (a b : ℕ) → a ≤ b → ((k : ℕ) → a ≤ k → k < b → f k ≡ false)
    → count f (from 0 b) ≡ count f (from 0 a)
count_over f a zero l h = let e : zero ≡ a = omega arith in ap (λ (z : ℕ). count f (from 0 z)) e
count_over f a (suc b) l h = elim (eq-or-lt_of_le l) [
  | inl e ↦ ap (λ (z : ℕ). count f (from 0 z)) (sym e)
  | inr k ↦ count_upto f b ∙ ap (λ (t : Bool). cond t 1 0 + count f (from 0 b)) (h b (omega arith) (omega arith))
      ∙ omega (arith, count_over f a b (omega arith) (λ j p q. h j p (omega arith)))
]

-- ## Tests of every member of a stretch

pub every_true : (f : ℕ → Bool) (i k : ℕ) → ((j : ℕ) → i ≤ j → j < i + k → f j ≡ true) → every f (from i k) ≡ true
every_true f i zero h = refl
every_true f i (suc k) h =
    rw (h i (omega arith) (omega arith))
    (every_true f (suc i) k (λ j p q. h j (omega arith) (omega arith)))

pub every_false : (f : ℕ → Bool) (i k j : ℕ) → i ≤ j → j < i + k → f j ≡ false → every f (from i k) ≡ false
every_false f i zero j l h e = absurd (omega arith)
every_false f i (suc k) j l h e = elim (eq-or-lt_of_le l) [
  | inl q ↦ rw (ap f q ∙ e)
  | inr q ↦ rw (every_false f (suc i) k j q (omega arith) e) (and-false (f i))
]

-- ## A test that passes wherever another does counts no less

pub unit_mono : (s t : Bool) → (s ≡ true → t ≡ true) → cond s 1 0 ≤ cond t 1 0
unit_mono true true h = le_refl 1
unit_mono true false h = absurd (false≢true (h refl))
unit_mono false t h = zero-le

pub count_mono : (f g : ℕ → Bool) → ((x : ℕ) → f x ≡ true → g x ≡ true) → (xs : List ℕ) → count f xs ≤ count g xs
count_mono f g h [] = le_refl 0
count_mono f g h (x ∷ xs) =
    rw (count_cons f x xs, count_cons g x xs)
    (omega (arith, unit_mono (f x) (g x) (h x), count_mono f g h xs))

-- the same over the pixels of a stretch
pub count_mono_from : (f g : ℕ → Bool) (i m : ℕ) → ((x : ℕ) → i ≤ x → x < i + m → f x ≡ true → g x ≡ true)
    → count f (from i m) ≤ count g (from i m)
count_mono_from f g i zero h = le_refl 0
count_mono_from f g i (suc m) h =
    let rest = count_mono_from f g (suc i) m (λ x l k. h x (omega arith) (omega arith)) in
    rw (count_cons f i (from (suc i) m), count_cons g i (from (suc i) m))
    (omega (arith, unit_mono (f i) (g i) (h i (le_refl i) (omega arith)), rest))

-- a test that counts as two others together
pub count_sum : (f g h : ℕ → Bool) (i m : ℕ)
    → ((x : ℕ) → i ≤ x → x < i + m → cond (f x) 1 0 ≡ cond (g x) 1 0 + cond (h x) 1 0)
    → count f (from i m) ≡ count g (from i m) + count h (from i m)
count_sum f g h i zero e = refl
count_sum f g h i (suc m) e =
    let rest = count_sum f g h (suc i) m (λ x l k. e x (omega arith) (omega arith)) in
    rw (count_cons f i (from (suc i) m), count_cons g i (from (suc i) m), count_cons h i (from (suc i) m))
    (omega (arith, rest, e i (omega arith) (omega arith)))

-- a test that one pixel passes
pub count_one : (f : ℕ → Bool) (n y : ℕ) → y < n → f y ≡ true → ((x : ℕ) → x < n → f x ≡ true → x ≡ y)
    → count f (from 0 n) ≡ 1
count_one f n y h e only =
    count_same f (λ z. (false || eqb z y) && true) n same
    ∙ count_add (λ z. false) (λ z. true) y 0 n zero-le (omega arith) refl
    ∙ ap (1 +◌) (count_none (from 0 n))
  where
    same : (x : ℕ) → x < n → f x ≡ ((false || eqb x y) && true)
    same x hx = same_test (f x) ((false || eqb x y) && true)
        (λ d. ap (◌&& true) (eq-eqb x y (only x hx d)))
        (λ d. ap f (eqb-true x y (and_elim_left (eqb x y) true d)) ∙ e)
