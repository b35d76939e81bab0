-- Runs: pixels of one row that have a code and follow one another, found and taken. Marks, queue and the queue's tail
-- (how many entries are in use) are named before and, with a prime, after. Definitions only.
--
--   Room       what taking pixels requires: marks for them, and a queue that has place for all that have the code
--   Taken      pixels were taken, one after the other
--   RunStart   the first pixel of a run was found
--   RunUpTo    the pixels of a run up to one were taken
--   RunTaken   a run was taken
--   Reached    a pixel was taken with its run, if it had the code
use Rattle.std.specs.Prelude.{ℕ, ◌+◌, ◌≤◌, ◌<◌, ◌≡◌, List, length, set}
use Rattle.planes.specs.Lists.{at, from, count}
use Rattle.planes.specs.Refusals.{greatest_pixels}
use Rattle.rows.specs.Rows.{in_row, row_end}
use Rattle.rows.specs.Codes.{coded, Joined, Shut}

-- there are marks for n pixels, and after its tail the queue has an entry for each that has the code
pub record Room (marks queue : List ℕ) (n code tail : ℕ) : Type 0 where
  pub few : n ≤ greatest_pixels
  pub real : 1 ≤ code
  pub covered : n ≤ length marks
  pub spare : tail + count (coded marks code) (from 0 n) ≤ length queue

-- pixels below n that had the code, and of which P holds, were taken one after the other: the mark of each became 0,
-- and it was put at the queue's tail
pub data Taken (P : ℕ → Type 0) (n code : ℕ) (marks queue : List ℕ) (tail : ℕ) : List ℕ → List ℕ → ℕ → Type 0 where
  none : Taken P n code marks queue tail marks queue tail
  one : {q tail' : ℕ} {marks' queue' : List ℕ} → Taken P n code marks queue tail marks' queue' tail'
      → P q → q < n → at marks' q ≡ code
      → Taken P n code marks queue tail (set marks' q 0) (set queue' tail' q) (tail' + 1)

-- from l on and before q all pixels have the code, and l is the first of its row, which starts at `row`, or the pixel
-- before it has not the code
pub record RunStart (marks : List ℕ) (code row q l : ℕ) : Type 0 where
  pub past : row ≤ l
  pub upto : l ≤ q
  pub all : (p : ℕ) → l ≤ p → p < q → at marks p ≡ code
  pub stop : (p : ℕ) → row ≤ p → p + 1 ≡ l → at marks p ≡ code → ⊥

-- the pixels from l on and before r were taken, from left to right
pub data RunUpTo (code l : ℕ) (marks queue : List ℕ) (tail : ℕ) : ℕ → List ℕ → List ℕ → ℕ → Type 0 where
  start : RunUpTo code l marks queue tail l marks queue tail
  more : {r tail' : ℕ} {marks' queue' : List ℕ} → RunUpTo code l marks queue tail r marks' queue' tail'
      → at marks' r ≡ code
      → RunUpTo code l marks queue tail (r + 1) (set marks' r 0) (set queue' tail' r) (tail' + 1)

-- up to `end`, or to a pixel that has not the code
pub record RunTaken (code l end : ℕ) (marks queue : List ℕ) (tail : ℕ) (marks' queue' : List ℕ) (tail' : ℕ)
    : Type 0 where
  pub r : ℕ
  pub within : r ≤ end
  pub run : RunUpTo code l marks queue tail r marks' queue' tail'
  pub stop : r < end → at marks' r ≡ code → ⊥

-- if q had the code, pixels of its row were taken that are joined to it, q among them; none is left beside one of them
pub record Reached (w code q : ℕ) (marks queue : List ℕ) (tail : ℕ) (marks' queue' : List ℕ) (tail' : ℕ) : Type 0 where
  pub taken : Taken (Joined (in_row w) (row_end w q) marks code q) (row_end w q) code
      marks queue tail marks' queue' tail'
  pub off : at marks' q ≡ code → ⊥
  pub rows : (k : ℕ) → tail ≤ k → k < tail' → Shut (in_row w) code marks' (at queue' k)
