-- Refusals by number, in order, and those of sizes and lengths, each by one test. 0 stands for "not refused".
-- Definitions only.
--
--   number          the requirements' number of a refusal
--   number_in       the number of the refusal in a result, 0 where there is none
--   when, ▷         a refusal where a test passes, and the first refusal that applies
--   side_refusal    1, by the sides
--   pixel_refusal   2, by the number of pixels
--   length_refusal  3, by the length of a plane or a frame
--   room_refusal    4, by the lengths of marks and queue
--   output_refusal  14, by the length of the output
--   size_refusal    1, 2
use Rattle.std.specs.Prelude.{ℕ, zero, suc, ◌*◌, ◌≤◌, Bool, true, false, not, ◌||◌, ltb, eqb, Result, Ok, Err}
use Rattle.planes.specs.declared.refusal.Refusal.{Refusal}
use Rattle.planes.specs.declared.refusal.Refusal.TheVariants.{Sides, Pixels, Length, Room, Interval, Area, Ratios, Clip}
use Rattle.planes.specs.declared.refusal.Refusal.TheVariants.{Level, Header, Maxval, Raster, Trailing, Output, Version}
use Rattle.planes.specs.declared.refusal.Refusal.TheVariants.{Count, Record, Slopes, Neighbours, NoPlace}

-- the requirements' number
abbrev pub number : Refusal → ℕ
number Sides = 1
number Pixels = 2
number Length = 3
number Room = 4
number Interval = 5
number Area = 6
number Ratios = 7
number Clip = 8
number Level = 9
number Header = 10
number Maxval = 11
number Raster = 12
number Trailing = 13
number Output = 14
number Version = 15
number Count = 16
number Record = 17
number Slopes = 18
number Neighbours = 19
number NoPlace = 20

-- the number of the refusal in a result, 0 where there is none
abbrev pub number_in : {A : Type 0} → Result A Refusal → ℕ
number_in (Ok x) = 0
number_in (Err r) = number r

-- the refusal k where the test passes
abbrev pub when : Bool → ℕ → ℕ
when true k = k
when false k = 0

-- the first refusal that applies: the left one, and where there is none the right one
infixr 10 ◌▷◌
abbrev pub ◌▷◌ : ℕ → ℕ → ℕ
zero ▷ y = y
suc x ▷ y = suc x

-- a side is 0 or above 4,096
abbrev pub bad_side : ℕ → Bool
bad_side x = eqb x 0 || ltb 4096 x

-- 1: a side is 0 or above 4,096
unfoldable pub side_refusal : ℕ → ℕ → ℕ
side_refusal w h = when (bad_side w || bad_side h) 1

-- 2: n pixels are more than allowed
unfoldable pub pixel_refusal : ℕ → ℕ → ℕ
pixel_refusal n limit = when (ltb limit n) 2

-- 3: what is lent, by its length, does not have the length that is needed
unfoldable pub length_refusal : ℕ → ℕ → ℕ
length_refusal size needed = when (not (eqb size needed)) 3

-- 4: marks or queue are shorter than n
unfoldable pub room_refusal : ℕ → ℕ → ℕ → ℕ
room_refusal n marks queue = when (ltb marks n || ltb queue n) 4

-- 14: the output is shorter than needed
unfoldable pub output_refusal : ℕ → ℕ → ℕ
output_refusal output needed = when (ltb output needed) 14

-- 1, then 2, for w columns and h rows
unfoldable pub size_refusal : ℕ → ℕ → ℕ → ℕ
size_refusal w h limit = side_refusal w h ▷ pixel_refusal (w * h) limit

-- the greatest number of pixels of a plane
abbrev pub greatest_pixels : ℕ
greatest_pixels = 1048576

-- a plane of w columns and h rows whose size is not refused
pub record Sized (w h limit : ℕ) : Type 0 where
  pub wide : 1 ≤ w
  pub narrow : w ≤ 4096
  pub high : 1 ≤ h
  pub low : h ≤ 4096
  pub few : w * h ≤ limit
