-- Lists over all pixels: what stands at an index, and tests and values by their members. Assumes nothing.
use Prim.Native.Nat.{ℕ, zero, suc, ◌+◌, ◌≤◌, ◌<◌, zero-le}
use mathlib.Core.Path.{◌≡◌, refl, sym, ap, ap₂, subst, ◌∙◌}
use mathlib.Core.Logic.{inl, inr}
use mathlib.Core.Bool.{Bool, true, false, cond, ◌&&◌}
use mathlib.Core.List.{List, [], ◌∷◌, ◌++◌, map}
use mathlib.Mathlib.Data.Bool.Basic.{and_elim_left, and_elim_right, and_intro}
use native.Mathlib.Nat.{le_refl, not-suc-le-zero, eq-or-lt_of_le, le_of_suc-le-suc}
use native.Mathlib.Nat.{add-zero, suc-add, add-suc, zero-add}
use native.Mathlib.Omega.{arith}
use lib.ListN.{length, get_or, length-map}
use Rattle.planes.specs.Lists.{from, keep, every, count, at, Beyond}
use Rattle.planes.specs.Extrema.{implies}
use Rattle.planes.proofs.Counts.{length_from, count_cons, count_le, every_true}

-- what stands at index k of the values of a function on a stretch, and on all pixels
from_at : (f : ℕ → ℕ) (i n k : ℕ) → k < n → get_or (map f (from i n)) k 0 ≡ f (i + k)
from_at f i zero k h = absurd (not-suc-le-zero h)
from_at f i (suc n) zero h = ap f (sym (add-zero i))
from_at f i (suc n) (suc k) h = from_at f (suc i) n k (le_of_suc-le-suc h) ∙ ap f (suc-add i k ∙ sym (add-suc i k))

pub all_at : (f : ℕ → ℕ) (n k : ℕ) → k < n → at (map f (from 0 n)) k ≡ f k
all_at f n k h = from_at f 0 n k h ∙ ap f (zero-add k)

pub length_all : (f : ℕ → ℕ) (n : ℕ) → length (map f (from 0 n)) ≡ n
length_all f n = length-map (from 0 n) f ∙ length_from 0 n

-- every pixel of a plane of n pixels passes a test, and back
every_from : (f : ℕ → Bool) (i n : ℕ) → every f (from i n) ≡ true → (x : ℕ) → i ≤ x → x < i + n → f x ≡ true
every_from f i zero e x l h = absurd (omega arith)
every_from f i (suc n) e x l h = elim (eq-or-lt_of_le l) [
  | inl q ↦ subst (λ (y : ℕ). f y ≡ true) q (and_elim_left (f i) _ e)
  | inr q ↦ every_from f (suc i) n (and_elim_right (f i) _ e) x q (omega arith)
]

pub every_out : (f : ℕ → Bool) (n : ℕ) → every f (from 0 n) ≡ true → (x : ℕ) → x < n → f x ≡ true
every_out f n e x h = every_from f 0 n e x zero-le (omega arith)

pub every_in : (f : ℕ → Bool) (n : ℕ) → ((x : ℕ) → x < n → f x ≡ true) → every f (from 0 n) ≡ true
every_in f n h = every_true f 0 n (λ x _ k. h x (omega arith))

-- two tests that agree on the pixels of a stretch
pub every_same : (f f' : ℕ → Bool) (i m : ℕ) → ((x : ℕ) → i ≤ x → x < i + m → f x ≡ f' x)
    → every f (from i m) ≡ every f' (from i m)
every_same f f' i zero h = refl
every_same f f' i (suc m) h =
    ap₂ ◌&&◌ (h i (le_refl i) (omega arith))
    (every_same f f' (suc i) m (λ x l k. h x (omega arith) (omega arith)))

-- two functions that agree on the kept pixels of a stretch
pub map_same : (f : ℕ → Bool) (g g' : ℕ → ℕ) (i m : ℕ)
    → ((x : ℕ) → i ≤ x → x < i + m → f x ≡ true → g x ≡ g' x)
    → map g (keep f (from i m)) ≡ map g' (keep f (from i m))
map_same f g g' i zero h = refl
map_same f g g' i (suc m) h = go (f i) refl (map_same f g g' (suc i) m (λ x l k. h x (omega arith) (omega arith)))
  where
    rest : List ℕ
    rest = keep f (from (suc i) m)

    go : (t : Bool) → f i ≡ t → map g rest ≡ map g' rest
        → map g (cond t (i ∷ rest) rest) ≡ map g' (cond t (i ∷ rest) rest)
    go true e r = ap₂ ◌∷◌ (h i (le_refl i) (omega arith) e) r
    go false e r = r

-- ## Kept members

pub keep_keep : (f g : ℕ → Bool) (xs : List ℕ) → keep f (keep g xs) ≡ keep (λ x. g x && f x) xs
keep_keep f g [] = refl
keep_keep f g (x ∷ xs) = go (g x) (keep_keep f g xs)
  where
    go : (t : Bool) → keep f (keep g xs) ≡ keep (λ x. g x && f x) xs
        → keep f (cond t (x ∷ keep g xs) (keep g xs))
        ≡ cond (t && f x) (x ∷ keep (λ x. g x && f x) xs) (keep (λ x. g x && f x) xs)
    go true e = ap (λ (l : List ℕ). cond (f x) (x ∷ l) l) e
    go false e = e

pub keep_all : (xs : List ℕ) → keep (λ x. true) xs ≡ xs
keep_all [] = refl
keep_all (x ∷ xs) = ap (x ∷◌) (keep_all xs)

-- ## Tests of every member

pub every_both : (f g h : ℕ → Bool) → ((x : ℕ) → f x ≡ true → g x ≡ true → h x ≡ true)
    → (xs : List ℕ) → every f xs ≡ true → every g xs ≡ true → every h xs ≡ true
every_both f g h k [] d e = refl
every_both f g h k (x ∷ xs) d e =
    and_intro (k x (and_elim_left (f x) (every f xs) d) (and_elim_left (g x) (every g xs) e))
    (every_both f g h k xs (and_elim_right (f x) (every f xs) d) (and_elim_right (g x) (every g xs) e))

module _ (f : ℕ → Bool) where
  pub every_append : (s t : List ℕ) → every f s ≡ true → every f t ≡ true → every f (s ++ t) ≡ true
  every_append [] t d e = e
  every_append (x ∷ s) t d e =
      and_intro (and_elim_left (f x) (every f s) d) (every_append s t (and_elim_right (f x) (every f s) d) e)

  pub every_parts : (s t : List ℕ) → every f (s ++ t) ≡ true → (every f s ≡ true) × (every f t ≡ true)
  every_parts [] t e = (refl, e)
  every_parts (x ∷ s) t e =
      let both = every_parts s t (and_elim_right (f x) (every f (s ++ t)) e) in
      (and_intro (and_elim_left (f x) (every f (s ++ t)) e) both.0, both.1)

pub every_count : (f : ℕ → Bool) (xs : List ℕ) → count f xs ≡ length xs → every f xs ≡ true
every_count f [] e = refl
every_count f (x ∷ xs) e = go (f x) refl (every_count f xs)
  where
    go : (t : Bool) → f x ≡ t → (count f xs ≡ length xs → every f xs ≡ true) → (f x && every f xs) ≡ true
    go true d rest =
        let c : cond (f x) 1 0 + count f xs ≡ suc (length xs) = sym (count_cons f x xs) ∙ e in
        let one : ◌≡◌ {A = ℕ} (cond (f x) 1 0) 1 = ap (λ (t : Bool). cond t 1 0) d in
        and_intro d (rest (omega arith))
    go false d rest =
        let c : cond (f x) 1 0 + count f xs ≡ suc (length xs) = sym (count_cons f x xs) ∙ e in
        let none : ◌≡◌ {A = ℕ} (cond (f x) 1 0) 0 = ap (λ (t : Bool). cond t 1 0) d in
        absurd (omega (arith, count_le f xs))

pub count_every : (f : ℕ → Bool) (xs : List ℕ) → every f xs ≡ true → count f xs ≡ length xs
count_every f [] e = refl
count_every f (x ∷ xs) e =
    count_cons f x xs
    ∙ ap₂ (λ (t : Bool) (k : ℕ). cond t 1 0 + k) (and_elim_left (f x) (every f xs) e)
    (count_every f xs (and_elim_right (f x) (every f xs) e))
    ∙ omega arith

-- every value of the kept members
pub every_kept : (f h : ℕ → Bool) (g : ℕ → ℕ) (xs : List ℕ)
    → every f (map g (keep h xs)) ≡ every (λ x. implies (h x) (f (g x))) xs
every_kept f h g [] = refl
every_kept f h g (x ∷ xs) = go (h x) (every_kept f h g xs)
  where
    go : (t : Bool) → every f (map g (keep h xs)) ≡ every (λ x. implies (h x) (f (g x))) xs
        → every f (map g (cond t (x ∷ keep h xs) (keep h xs)))
        ≡ (implies t (f (g x)) && every (λ x. implies (h x) (f (g x))) xs)
    go true e = ap (f (g x) &&◌) e
    go false e = e

-- ## Lent lists

pub beyond_refl : (n : ℕ) (xs : List ℕ) → Beyond n xs xs
beyond_refl n xs = record { size = refl; rest = λ k h. refl }

pub beyond_trans : {n : ℕ} {xs ys zs : List ℕ} → Beyond n xs ys → Beyond n ys zs → Beyond n xs zs
beyond_trans f g = record { size = g.size ∙ f.size; rest = λ k h. g.rest k h ∙ f.rest k h }
