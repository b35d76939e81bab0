-- Laws of the parsers: what each tells of the bytes where it passes, and runs of bytes that pass a test. Assumes
-- nothing.
use Prim.Native.Nat.{ℕ, ◌≤◌}
use mathlib.Core.Path.{◌≡◌, refl, sym, ap, ◌∙◌}
use mathlib.Core.Bool.{Bool, true, false, cond}
use mathlib.Core.List.{List, [], ◌∷◌, ◌++◌, append-nil}
use mathlib.Mathlib.Data.Bool.Basic.{and_elim_left, and_elim_right}
use native.Mathlib.Omega.{arith}
use lib.ListN.{length}
use Rattle.planes.specs.Lists.{every}
use Rattle.gaps.specs.Parsers.{Parsed, failed, parsed, Parser, next, check}
use Rattle.gaps.specs.Parsers.{one_byte, some, take_while1, take_while, drop_while}

-- where a first parser and then a second pass, the first passes, and the second on what it leaves
pub record Both {A B : Type 0} (p : Parsed A) (f : A → Parser B) (b : B) (rest : List ℕ) : Type 0 where
  pub value : A
  pub left : List ℕ
  pub first : p ≡ parsed value left
  pub second : f value left ≡ parsed b rest

pub next_passed : {A B : Type 0} (p : Parsed A) (f : A → Parser B) (b : B) (rest : List ℕ) → next p f ≡ parsed b rest
    → Both p f b rest
next_passed failed f b rest e = let clash : ◌≡◌ {A = ℕ} 0 1 = cc in absurd (omega arith)
next_passed (parsed a left) f b rest e = record { value = a; left = left; first = refl; second = e }

pub check_passed : (t : Bool) (bytes : List ℕ) (u : Unit {0}) (rest : List ℕ) → check t bytes ≡ parsed u rest
    → (t ≡ true) × (rest ≡ bytes)
check_passed true bytes u rest e = (refl, cc)
check_passed false bytes u rest e = let clash : ◌≡◌ {A = ℕ} 0 1 = cc in absurd (omega arith)

-- a byte that passes the test, and what follows it
pub record Head (f : ℕ → Bool) (bytes rest : List ℕ) : Type 0 where
  pub byte : ℕ
  pub test : f byte ≡ true
  pub is : bytes ≡ byte ∷ rest

pub one_passed : (f : ℕ → Bool) (bytes : List ℕ) (u : Unit {0}) (rest : List ℕ) → one_byte f bytes ≡ parsed u rest
    → Head f bytes rest
one_passed f [] u rest e = let clash : ◌≡◌ {A = ℕ} 0 1 = cc in absurd (omega arith)
one_passed f (b ∷ bytes) u rest e = go (f b) refl e
  where
    go : (t : Bool) → f b ≡ t → cond t (parsed tt bytes) failed ≡ parsed u rest → Head f (b ∷ bytes) rest
    go true d h =
        let same : bytes ≡ rest = cc in
        record { byte = b; test = d; is = ap (λ (l : List ℕ). b ∷ l) same }
    go false d h = let clash : ◌≡◌ {A = ℕ} 0 1 = cc in absurd (omega arith)

-- a run, and what follows it
pub record Run (f : ℕ → Bool) (bytes taken rest : List ℕ) : Type 0 where
  pub taken_is : taken ≡ take_while f bytes
  pub rest_is : rest ≡ drop_while f bytes
  pub present : 1 ≤ length taken

pub run_passed : (f : ℕ → Bool) (bytes taken rest : List ℕ) → take_while1 f bytes ≡ parsed taken rest
    → Run f bytes taken rest
run_passed f bytes taken rest e = go (take_while f bytes) (drop_while f bytes) refl refl e
  where
    go : (t r : List ℕ) → t ≡ take_while f bytes → r ≡ drop_while f bytes → some t r ≡ parsed taken rest
        → Run f bytes taken rest
    go [] r p q h = let clash : ◌≡◌ {A = ℕ} 0 1 = cc in absurd (omega arith)
    go (b ∷ t) r p q h =
        let same : taken ≡ b ∷ t = cc in
        let left : rest ≡ r = cc in
        record { taken_is = same ∙ p; rest_is = left ∙ q; present = rw same (omega arith) }

pub some_present : (taken rest : List ℕ) → 1 ≤ length taken → some taken rest ≡ parsed taken rest
some_present [] rest h = absurd (omega arith)
some_present (b ∷ taken) rest h = refl

-- a list is the longest beginning that passes the test, and what follows it
pub while_split : (f : ℕ → Bool) (xs : List ℕ) → take_while f xs ++ drop_while f xs ≡ xs
while_split f [] = refl
while_split f (x ∷ xs) = go (f x) (while_split f xs)
  where
    go : (t : Bool) → take_while f xs ++ drop_while f xs ≡ xs
        → cond t (x ∷ take_while f xs) [] ++ cond t (drop_while f xs) (x ∷ xs) ≡ x ∷ xs
    go true e = ap (λ (l : List ℕ). x ∷ l) e
    go false e = refl

pub while_none : (f : ℕ → Bool) (xs : List ℕ) → take_while f xs ≡ [] → drop_while f xs ≡ xs
while_none f xs e = sym (ap (λ (l : List ℕ). l ++ drop_while f xs) e) ∙ while_split f xs

-- the longest beginning that passes a test, of a list that begins with bytes that all pass
module _ (f : ℕ → Bool) where
  while-every : (xs : List ℕ) → every f (take_while f xs) ≡ true
  while-every [] = refl
  while-every (x ∷ xs) = go (f x) refl (while-every xs)
    where
      go : (t : Bool) → f x ≡ t → every f (take_while f xs) ≡ true → every f (cond t (x ∷ take_while f xs) []) ≡ true
      go true d e = rw d e
      go false d e = refl

  while-append : (s t : List ℕ) → every f s ≡ true
      → (take_while f (s ++ t) ≡ s ++ take_while f t) × (drop_while f (s ++ t) ≡ drop_while f t)
  while-append [] t e = (refl, refl)
  while-append (x ∷ s) t e =
      let rest = while-append s t (and_elim_right (f x) (every f s) e) in
      let test : f x ≡ true = and_elim_left (f x) (every f s) e in
      (rw test (ap (λ (l : List ℕ). x ∷ l) rest.0), rw test rest.1)

  pub while_stops : (s t : List ℕ) → every f s ≡ true → take_while f t ≡ []
      → (take_while f (s ++ t) ≡ s) × (drop_while f (s ++ t) ≡ t)
  while_stops s t e none =
      let both = while-append s t e in
      let taken = both.0 ∙ ap (λ (l : List ℕ). s ++ l) none ∙ append-nil s in
      (taken, both.1 ∙ while_none f t none)

pub run_splits : {f : ℕ → Bool} {bytes taken rest : List ℕ} → Run f bytes taken rest
    → (bytes ≡ taken ++ rest) × (every f taken ≡ true)
run_splits {f} {bytes} r =
    (sym (rw (r.taken_is, r.rest_is) (while_split f bytes)), rw r.taken_is (while-every f bytes))
