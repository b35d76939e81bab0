-- Lists whose first entries enumerate a set of pixels, each once. Definitions only.
use Rattle.std.specs.Prelude.{ℕ, zero, suc, ◌≤◌, ◌<◌, ◌≡◌, Bool, true, false, ◌||◌, List, length, eqb}
use Rattle.planes.specs.Lists.{at}

-- p is one of the first m entries
unfoldable pub among : List ℕ → ℕ → ℕ → Bool
among queue zero p = false
among queue (suc m) p = among queue m p || eqb p (at queue m)

-- an index below m at which p stands
pub record Place (queue : List ℕ) (m p : ℕ) : Type 0 where
  pub index : ℕ
  pub below : index < m
  pub holds : at queue index ≡ p

-- the first m entries are the pixels of the set S, each once, all below n
pub record Enumerates (queue : List ℕ) (m n : ℕ) (S : ℕ → Bool) : Type 0 where
  pub fits : m ≤ length queue
  pub below : (k : ℕ) → k < m → at queue k < n
  pub inside : (k : ℕ) → k < m → S (at queue k) ≡ true
  pub distinct : (j k : ℕ) → j < k → k < m → at queue j ≡ at queue k → ⊥
  pub every : (p : ℕ) → p < n → S p ≡ true → Place queue m p
