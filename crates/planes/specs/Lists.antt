-- Lists of numbers. A plane is the list of its pixels' values in reading order (row by row, left to right), and a pixel
-- is its index in that list. Definitions only.
use Rattle.std.specs.Prelude.{ℕ, zero, suc, ◌≤◌, ◌≡◌, Bool, true, ◌&&◌, cond, List, [], ◌∷◌, length, get_or}

-- the n numbers from i on; `from 0 n` lists the pixels of a plane of n pixels
abbrev pub from : ℕ → ℕ → List ℕ
from i zero = []
from i (suc n) = i ∷ from (suc i) n

-- the members that pass a test, in order
abbrev pub keep : (ℕ → Bool) → List ℕ → List ℕ
keep f [] = []
keep f (x ∷ xs) = cond (f x) (x ∷ keep f xs) (keep f xs)

-- every member passes a test
abbrev pub every : (ℕ → Bool) → List ℕ → Bool
every f [] = true
every f (x ∷ xs) = f x && every f xs

-- how many members pass a test
abbrev pub count : (ℕ → Bool) → List ℕ → ℕ
count f xs = length (keep f xs)

-- the member at index i, and 0 past the end
abbrev pub at : List ℕ → ℕ → ℕ
at xs i = get_or xs i 0

-- a lent list keeps its length and all entries from index n on
pub record Beyond (n : ℕ) (xs xs' : List ℕ) : Type 0 where
  pub size : length xs' ≡ length xs
  pub rest : (k : ℕ) → n ≤ k → at xs' k ≡ at xs k
