-- What is next to a pixel is taken: the steps, and what they come to. Marks, queue and the queue's tail (how many
-- entries are in use) are named before and, with a prime, after. Definitions only.
--
--   Above, Below    the pixel above or below, or the pixel itself where the plane ends there
--   Left, Right     a neighbour in the row, or the pixel itself where the row ends there
--   column          pixels one of which is below the other
--   Clear           neither the pixel above nor the one below has the code
--   JoinedBeyond    a chain of pixels that have the code leads to a pixel from a neighbour of another
--   Reaches         pixels beyond a pixel were taken
--   Spread          what is next to a pixel was taken until no neighbour was left
--   ColumnReached   what is above and below a pixel was taken
--   Reachable       what `reach_column` requires
--   Spreadable      what spreading from a pixel requires
--   Begun           a pixel and the one left of it are clear
--   RunBegun        what `begin_run` does
--   SpreadOn        what `spread` does
use Rattle.std.specs.Prelude.{ℕ, ◌+◌, ◌*◌, ◌/◌, ◌≤◌, ◌<◌, ◌≡◌, true, ◌||◌, List, eqb}
use Rattle.planes.specs.Lists.{at}
use Rattle.planes.specs.Neighbours.{Near, eight}
use Rattle.planes.specs.Shapes.{pixels}
use Rattle.planes.specs.declared.Shape.{Shape}
use Rattle.rows.specs.Rows.{in_row}
use Rattle.rows.specs.Codes.{Joined, Shut}
use Rattle.rows.specs.Runs.{Room, Taken}
use Rattle.spreading.specs.declared.Front.{Front}

-- ## Neighbours of a pixel

-- r is the pixel above p
abbrev pub Above : ℕ → ℕ → ℕ → Type 0
Above w p r = (p < w → r ≡ p) × (w ≤ p → r + w ≡ p)

-- r is the pixel below p, of n pixels
abbrev pub Below : ℕ → ℕ → ℕ → ℕ → Type 0
Below w n p r = (n ≤ p + w → r ≡ p) × (p + w < n → r ≡ p + w)

-- r is the pixel left of p in the row that starts at `row`
abbrev pub Left : ℕ → ℕ → ℕ → Type 0
Left row p r = (p ≤ row → r ≡ p) × (row < p → r + 1 ≡ p)

-- r is the pixel right of p in the row that ends before `end`
abbrev pub Right : ℕ → ℕ → ℕ → Type 0
Right end p r = (end ≤ p + 1 → r ≡ p) × (p + 1 < end → r ≡ p + 1)

-- one pixel is below the other, in rows of w
unfoldable pub column : ℕ → Near
column w i j = eqb (i + w) j || eqb (j + w) i

-- of n pixels in rows of w, none above or below q has the code
abbrev pub Clear : ℕ → ℕ → ℕ → List ℕ → ℕ → Type 0
Clear w n code marks q = (x : ℕ) → x < n → column w q x ≡ true → at marks x ≡ code → ⊥

-- ## Pixels were taken

-- a chain of pixels that have the code leads to q, by `near`, from a pixel that is next to p, by `beside`
pub record JoinedBeyond (beside near : Near) (n : ℕ) (marks : List ℕ) (code p q : ℕ) : Type 0 where
  pub next : ℕ
  pub below : next < n
  pub nearby : beside p next ≡ true
  pub joined : Joined near n marks code next q

-- pixels beyond p were taken, and none that has the code is left beside them in their rows, of w pixels
pub record Reaches (beside near : Near) (w n code p : ℕ) (marks queue : List ℕ) (tail : ℕ) (marks' queue' : List ℕ)
    (tail' : ℕ) : Type 0 where
  pub taken : Taken (JoinedBeyond beside near n marks code p) n code marks queue tail marks' queue' tail'
  pub rows : (k : ℕ) → tail ≤ k → k < tail' → Shut (in_row w) code marks' (at queue' k)

-- the same, and no pixel next to p, by `beside`, is left that has the code
pub record Spread (beside near : Near) (w n code p : ℕ) (marks queue : List ℕ) (tail : ℕ) (marks' queue' : List ℕ)
    (tail' : ℕ) : Type 0 where
  pub reaches : Reaches beside near w n code p marks queue tail marks' queue' tail'
  pub closed : (q : ℕ) → q < n → beside p q ≡ true → at marks' q ≡ code → ⊥

-- the pixels above and below q were taken with their runs
abbrev pub ColumnReached : (w n code q : ℕ) (marks queue : List ℕ) (tail : ℕ) (marks' queue' : List ℕ) (tail' : ℕ)
    → Type 0
ColumnReached w = Spread (column w) (in_row w) w

-- ## What the steps require

-- a pixel q of a plane that has not the code, and room for all that have it
pub record Reachable (marks queue : List ℕ) (z : Shape) (code q tail : ℕ) : Type 0 where
  pub inside : q < pixels z
  pub off : at marks q ≡ code → ⊥
  pub room : Room marks queue (pixels z) code tail

-- the same of a taken pixel p, beside which none of its row has the code
pub record Spreadable (marks queue : List ℕ) (z : Shape) (code p tail : ℕ) : Type 0 where
  pub reachable : Reachable marks queue z code p tail
  pub shut : Shut (in_row z.w) code marks p

-- ## By eight neighbours

-- p is clear, and so is the pixel left of it in its row
pub record Begun (w n code : ℕ) (marks : List ℕ) (p : ℕ) : Type 0 where
  pub own : Clear w n code marks p
  pub before : (l : ℕ) → Left (p / w * w) p l → Clear w n code marks l

-- pixels beyond p were taken until p was begun
pub record RunBegun (w n code p : ℕ) (marks queue : List ℕ) (tail : ℕ) (marks' queue' : List ℕ) (tail' : ℕ) : Type 0
  where
    pub reaches : Reaches (eight w) (eight w) w n code p marks queue tail marks' queue' tail'
    pub begun : Begun w n code marks' p

-- what is next to p was taken, and the pixel of the front is begun
pub record SpreadOn (w n code p : ℕ) (marks queue : List ℕ) (tail : ℕ) (marks' queue' : List ℕ) (front : Front)
    : Type 0 where
  pub spread : Spread (eight w) (eight w) w n code p marks queue tail marks' queue' front.tail
  pub begun : Begun w n code marks' front.reached
