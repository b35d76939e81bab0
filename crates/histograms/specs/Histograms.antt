-- Components as the first entries of a queue, their measures and their counts. Definitions only.
--
-- For callers:
--   values                  the values of a component's pixels, in the queue's order
--   Distinct                no two of the queue's first m entries are the same
--   Pixels                  the queue's first m entries are pixels of the plane
--   Component               the queue's first m entries are pixels of the plane, each once, with values in [a, b]
--   Alike                   two lists have the same values, perhaps in another order
--   Measured                the number of some values, the least and the greatest of them
--   Tally                   256 counts, each that of its value
--   Gathered                a component that is measured, and whose values are counted
--   Outside                 a list keeps its length and its entries that are not of [a, b]
--   Confined                counts and table do
--   Refilled                an array with new entries from a on, and what they are
-- For the rules:
--   Inside                  all values of a list lie in [a, b]
--   Histogram               some values, measured and counted
--   Ranged                  measures of a component in [a, b]
--   Counted                 counts that add up to the number of pixels
use Rattle.std.specs.Prelude.{ℕ, ◌≤◌, ◌<◌, ◌≡◌, List, map, length, take, eqb}
use Rattle.planes.specs.Lists.{count, at}
use Rattle.histograms.specs.Values.{sum_to, greatest, least}
use Rattle.histograms.specs.declared.Measures.{Measures}

-- ## Components

abbrev pub values : List ℕ → List ℕ → ℕ → List ℕ
values plane queue m = map (at plane) (take m queue)

-- no two of the first m entries are the same
abbrev pub Distinct : List ℕ → ℕ → Type 0
Distinct queue m = (i j : ℕ) → i < j → j < m → at queue i ≡ at queue j → ⊥

-- the first m entries of the queue are pixels of the plane
pub record Pixels (plane queue : List ℕ) (m : ℕ) : Type 0 where
  pub room : m ≤ length queue
  pub below : (i : ℕ) → i < m → at queue i < length plane

pub record Component (plane queue : List ℕ) (m a b : ℕ) : Type 0 where
  pub order : a ≤ b
  pub some : 1 ≤ m
  pub few : m ≤ 1048576
  pub room : m ≤ length queue
  pub pixels : (i : ℕ) → i < m → at queue i < length plane
  pub once : Distinct queue m
  pub within : (i : ℕ) → i < m → (a ≤ at plane (at queue i)) × (at plane (at queue i) ≤ b)

pub record Alike (vs ws : List ℕ) : Type 0 where
  pub same : (v : ℕ) → count (eqb v) vs ≡ count (eqb v) ws
  pub size : length vs ≡ length ws

-- ## Measures and counts

-- the number of some values, the least and the greatest of them
pub record Measured (vs : List ℕ) (c : Measures) : Type 0 where
  pub size : c.size ≡ length vs
  pub least_is : c.least ≡ least vs
  pub greatest_is : c.greatest ≡ greatest vs

-- 256 counts, each that of its value; of no values, all are 0
pub record Tally (vs counts : List ℕ) : Type 0 where
  pub size : length counts ≡ 256
  pub entry : (v : ℕ) → at counts v ≡ count (eqb v) vs

-- a component in [a, b] that is measured, and whose values are counted
pub record Gathered (plane queue counts : List ℕ) (c : Measures) (a b : ℕ) : Type 0 where
  pub component : Component plane queue c.size a b
  pub measured : Measured (values plane queue c.size) c
  pub tally : Tally (values plane queue c.size) counts

-- ## What stays

-- the length, and the entries that are not of [a, b], are as they were
pub record Outside (a b : ℕ) (l l' : List ℕ) : Type 0 where
  pub size : length l' ≡ length l
  pub rest : (v : ℕ) → (a ≤ v → v ≤ b → ⊥) → at l' v ≡ at l v

pub record Confined (a b : ℕ) (counts table counts' table' : List ℕ) : Type 0 where
  pub counts_rest : Outside a b counts counts'
  pub table_rest : Outside a b table table'

-- the entries from a up to, and not including, e are those of f; the others are as they were
pub record Refilled (f : ℕ → ℕ) (a e : ℕ) (l l' : List ℕ) : Type 0 where
  pub size : length l' ≡ length l
  pub new : (v : ℕ) → a ≤ v → v < e → at l' v ≡ f v
  pub old : (v : ℕ) → (a ≤ v → v < e → ⊥) → at l' v ≡ at l v

-- ## What a rule goes by

pub record Inside (a b : ℕ) (vs : List ℕ) : Type 0 where
  pub low : (v : ℕ) → v < a → count (eqb v) vs ≡ 0
  pub high : (v : ℕ) → b < v → count (eqb v) vs ≡ 0

-- some values, measured and counted
pub record Histogram (vs counts : List ℕ) (c : Measures) : Type 0 where
  pub measured : Measured vs c
  pub tally : Tally vs counts

-- [least, greatest] lies in [a, b]; the number of pixels is neither 0 nor too large
pub record Ranged (c : Measures) (a b : ℕ) : Type 0 where
  pub from : a ≤ c.least
  pub order : c.least ≤ c.greatest
  pub to : c.greatest ≤ b
  pub some : 1 ≤ c.size
  pub few : c.size ≤ 1048576

-- of 256 entries, those of [least, greatest], which lies in [a, b], add up to the number of pixels
pub record Counted (counts : List ℕ) (c : Measures) (a b : ℕ) : Type 0 where
  pub size : length counts ≡ 256
  pub range : Ranged c a b
  pub whole : sum_to (at counts) c.least c.greatest ≡ c.size
