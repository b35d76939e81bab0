-- What stores leave: entries filled one after another, and sums made in place: a law for a turn of each loop. Assumes
-- nothing.
use Prim.Native.Nat.{ℕ, ◌+◌, ◌≤◌, ◌<◌}
use mathlib.Core.Path.{◌≡◌, refl, sym, ap, ◌∙◌}
use mathlib.Core.List.{List}
use native.Mathlib.Omega.{arith}
use lib.ListN.{length, set, length-set}
use lib.Seq.{get_or-set_other}
use Rattle.planes.specs.Lists.{at}
use Rattle.planes.proofs.Stores.{at_set}
use Rattle.histograms.specs.Values.{sum_to}
use Rattle.histograms.specs.Histograms.{Outside, Refilled}
use Rattle.histograms.specs.Sums.{SummedInPlace}
use Rattle.histograms.proofs.Sums.{sum_to_next}

-- ## Entries filled one after another

pub refilled_more : {f : ℕ → ℕ} {a e x : ℕ} {l l' : List ℕ} → Refilled f a e l l' → a ≤ e → e < length l → x ≡ f e
    → Refilled f a (e + 1) l (set l' e x)
refilled_more {f} {a} {e} {x} {l} {l'} h ae room eq = record {
  size = simp length-set h.size;
  new = λ v av ve. at_set (λ n. n ≡ f v) l' e v x (omega (arith, h.size))
      (λ (s : v ≡ e). eq ∙ ap f (sym s))
      (λ o. h.new v av (omega arith));
  old = λ v out. get_or-set_other l' e v x 0 (λ s. out (omega arith) (omega arith))
      ∙ h.old v (λ av ve. out av (omega arith));
}

-- the same entries, by other words for their first and their end
pub refilled_at : {f : ℕ → ℕ} {a e : ℕ} (a' e' : ℕ) {l l' : List ℕ} → Refilled f a' e' l l' → a' ≡ a → e' ≡ e
    → Refilled f a e l l'
refilled_at a' e' h s t = rw (sym s, sym t) h

-- ## What stays outside [a, b]

pub outside_none : {a b : ℕ} (l : List ℕ) → Outside a b l l
outside_none l = record { size = refl; rest = λ v out. refl }

pub outside_more : {a b v : ℕ} {l l' : List ℕ} (x : ℕ) → Outside a b l l' → a ≤ v → v ≤ b → Outside a b l (set l' v x)
outside_more {v = v} {l' = l'} x h av vb = record {
  size = simp length-set h.size;
  rest = λ u out. get_or-set_other l' v u x 0 (λ s. out (omega arith) (omega arith)) ∙ h.rest u out;
}

pub outside_both : {a b : ℕ} {l l' l'' : List ℕ} → Outside a b l l' → Outside a b l' l'' → Outside a b l l''
outside_both h g = record { size = g.size ∙ h.size; rest = λ v out. g.rest v out ∙ h.rest v out }

pub refilled_outside : {f : ℕ → ℕ} {a b : ℕ} {l l' : List ℕ} → Refilled f a (b + 1) l l' → Outside a b l l'
refilled_outside h = record { size = h.size; rest = λ v out. h.old v (λ av ve. out av (omega arith)) }

-- ## Sums made in place

-- what is stored after v, by the sum up to v
pub summing_next : {a v : ℕ} {l l' : List ℕ} → Refilled (sum_to (at l) a) a (v + 1) l l' → a ≤ v
    → at l' (v + 1) + at l' v ≡ sum_to (at l) a (v + 1)
summing_next {a} {v} {l} {l'} h av = omega (
  arith,
  h.old (v + 1) (λ _ g. omega arith),
  h.new v av (omega arith),
  sum_to_next (at l) {a = a} {v = v} av,
)

-- all entries of [a, b] are sums
pub summed_of : {a b : ℕ} {l l' : List ℕ} → Refilled (sum_to (at l) a) a (b + 1) l l' → SummedInPlace a b l l'
summed_of h = record { entry = λ v av vb. h.new v av (omega arith); rest = refilled_outside h }
