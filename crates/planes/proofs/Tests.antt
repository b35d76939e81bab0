-- Laws of tests: Bool by `&&`, `||` and `not`, and equality and order of numbers as tests. Assumes nothing.
use Prim.Native.Nat.{ℕ, ◌≤◌, ◌<◌}
use mathlib.Core.Path.{◌≡◌, refl, sym, ap, ◌∙◌}
use mathlib.Core.Logic.{◌⊎◌, inl, inr}
use mathlib.Core.Bool.{Bool, true, false, ◌&&◌, ◌||◌, false≢true, true≢false, and-false}
use lib.Dec.{ltb, eqb}
use borrow.Author.Tests.{eqb-true, eqb-false, eq-eqb, ltb-true, ltb-false}
use Rattle.planes.specs.Extrema.{implies}

pub or_cases : (s t : Bool) → (s || t) ≡ true → (s ≡ true) ⊎ (t ≡ true)
or_cases true t e = inl refl
or_cases false t e = inr e

-- two tests that pass together are equal
pub same_test : (s t : Bool) → (s ≡ true → t ≡ true) → (t ≡ true → s ≡ true) → s ≡ t
same_test true t f g = sym (f refl)
same_test false true f g = g refl
same_test false false f g = refl

pub eqb_sym : (i j : ℕ) → eqb i j ≡ eqb j i
eqb_sym i j =
    same_test (eqb i j) (eqb j i)
    (λ e. eq-eqb j i (sym (eqb-true i j e)))
    (λ e. eq-eqb i j (sym (eqb-true j i e)))

pub eq_or_not : (i j : ℕ) → (i ≡ j) ⊎ (i ≡ j → ⊥)
eq_or_not i j = go (eqb i j) refl
  where
    go : (t : Bool) → eqb i j ≡ t → (i ≡ j) ⊎ (i ≡ j → ⊥)
    go true e = inl (eqb-true i j e)
    go false e = inr (eqb-false i j e)

pub less_or_not : (i j : ℕ) → (i < j) ⊎ (j ≤ i)
less_or_not i j = go (ltb i j) refl
  where
    go : (t : Bool) → ltb i j ≡ t → (i < j) ⊎ (j ≤ i)
    go true e = inl (ltb-true i j e)
    go false e = inr (ltb-false i j e)

pub decide : (t : Bool) → (t ≡ true) ⊎ (t ≡ false)
decide true = inl refl
decide false = inr refl

-- a test that cannot pass fails; so does one that passes only where another does, which fails
pub never : {t : Bool} → (t ≡ true → ⊥) → t ≡ false
never {t = true} h = absurd (h refl)
never {t = false} h = refl

pub contra : {s t : Bool} → (s ≡ true → t ≡ true) → t ≡ false → s ≡ false
contra h e = never (λ d. true≢false (sym (h d) ∙ e))

pub or_none : (s t : Bool) → (s || t) ≡ false → (s ≡ false) × (t ≡ false)
or_none true t e = absurd (true≢false e)
or_none false t e = (refl, e)

-- the second, or the third, of three tests fails
pub and_middle : (s t u : Bool) → t ≡ false → (s && t && u) ≡ false
and_middle s t u e = ap (λ (x : Bool). s && x && u) e ∙ ap (◌&& u) (and-false s)

pub and_last : (s t u : Bool) → u ≡ false → (s && t && u) ≡ false
and_last s t u e = ap (s && t &&◌) e ∙ and-false (s && t)

pub implies_out : (s t : Bool) → implies s t ≡ true → s ≡ true → t ≡ true
implies_out true t e h = e
implies_out false t e h = absurd (false≢true h)

pub implies_in : (s t : Bool) → (s ≡ true → t ≡ true) → implies s t ≡ true
implies_in true t h = h refl
implies_in false t h = refl
