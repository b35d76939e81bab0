-- Neighbours, chains of neighbours and components, over any relation between the pixels 0 .. n - 1. Definitions only.
--
--   Near        a neighbour relation: a test of two pixels
--   four w      neighbours in a plane of w columns: one coordinate differs by one, the other agrees
--   eight w     neighbours in a plane of w columns: two pixels, no coordinate of which differs by more than one
--   Chain       a chain of neighbours leads from one pixel to another
--   linked      the same as a test that computes: it passes exactly where there is a chain (`linked_iff`)
--   component   the pixels linked to one, in reading order
--   first       a pixel is the first of its component in reading order
use Rattle.std.specs.Prelude.{ℕ, zero, suc, ◌+◌, ◌/◌, ◌%◌, ◌<◌, ◌≡◌, Bool, true, not, ◌&&◌, ◌||◌, List, eqb}
use Rattle.planes.specs.Lists.{from, keep, every}

abbrev pub Near : Type 0
Near = ℕ → ℕ → Bool

-- two coordinates differ by one
abbrev pub apart : ℕ → ℕ → Bool
apart x y = eqb (x + 1) y || eqb (y + 1) x

-- rows y and v, columns x and u: one coordinate differs by one, and the other agrees
abbrev pub beside : ℕ → ℕ → ℕ → ℕ → Bool
beside y x v u = (eqb y v && apart x u) || (apart y v && eqb x u)

-- the four neighbours in a plane of w columns
unfoldable pub four : ℕ → Near
four w i j = beside (i / w) (i % w) (j / w) (j % w)

-- two coordinates differ by at most one
abbrev pub close : ℕ → ℕ → Bool
close x y = eqb x y || apart x y

-- rows y and v, columns x and u: two pixels that touch, be it at a corner
abbrev pub touching : ℕ → ℕ → ℕ → ℕ → Bool
touching y x v u = close y v && close x u && not (eqb y v && eqb x u)

-- the eight neighbours in a plane of w columns
unfoldable pub eight : ℕ → Near
eight w i j = touching (i / w) (i % w) (j / w) (j % w)

-- a chain of neighbours among the pixels below n
pub data Chain (near : Near) (n : ℕ) : ℕ → ℕ → Type 0 where
  here : {i : ℕ} → Chain near n i i
  step : {i j k : ℕ} → Chain near n i j → near j k ≡ true → k < n → Chain near n i k

-- i and j are one, or a chain leads from one to the other with none but pixels below k between
unfoldable pub linked : Near → ℕ → Near
linked near zero i j = eqb i j || near i j
linked near (suc k) i j = linked near k i j || (linked near k i k && linked near k k j)

-- of the n pixels, those linked to i, in reading order
unfoldable pub component : ℕ → Near → ℕ → List ℕ
component n near i = keep (linked near n i) (from 0 n)

-- no pixel before i is in its component
unfoldable pub first : ℕ → Near → ℕ → Bool
first n near i = every (λ j. not (linked near n j i)) (from 0 i)
