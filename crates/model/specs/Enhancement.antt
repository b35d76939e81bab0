-- The passes that an enhancement stands for, level by level with the lower section first, and the chain of them; and
-- the recursion by sections, each before its lower and its upper half. All of them carry one number of neighbours.
-- Definitions only.
--
--   passes     the list of passes: level 0 with area 1, then the levels 1 to `last` with the least area
--   enhanced   the model's chain of these passes
--   recursive  the passes in the order of the recursion, depth first
use Rattle.std.specs.Prelude.{ℕ, zero, suc, ◌+◌, ◌-◌, ◌*◌, ◌^◌, List, [], ◌∷◌, ◌++◌, map}
use Rattle.planes.specs.Lists.{from}
use Rattle.planes.specs.Shapes.{pixels}
use Rattle.planes.specs.declared.Shape.{Shape}
use Rattle.tones.specs.declared.Rule.{Rule}
use Rattle.model.specs.declared.Pass.{Pass}
use Rattle.model.specs.Calls.{Call, State, start, chain}

-- the section of the given width that starts at a, by a number of neighbours
unfoldable pub section : ℕ → Rule → ℕ → ℕ → ℕ → Pass
section area rule number a width =
    record { a = a; b = a + width - 1; area = area; rule = rule; neighbours = number }

-- ## Level by level

-- the 2 ^ l sections of level l, whose width is 2 ^ (8 - l), lower first
unfoldable pub level : ℕ → ℕ → Rule → ℕ → List Pass
level l area rule number = map (λ j. section area rule number (j * 2 ^ (8 - l)) (2 ^ (8 - l))) (from 0 (2 ^ l))

-- the levels of a list, one after the other
unfoldable pub levels : List ℕ → ℕ → Rule → ℕ → List Pass
levels [] area rule number = []
levels (l ∷ ls) area rule number = level l area rule number ++ levels ls area rule number

-- level 0 with area 1, for the whole plane is treated whatever its size; then the levels 1 to `last`
unfoldable pub passes : ℕ → ℕ → Rule → ℕ → List Pass
passes last area rule number = level 0 1 rule number ++ levels (from 1 last) area rule number

-- a call of the pass with room for n pixels
unfoldable pub call_of : ℕ → Pass → Call
call_of n s = record { marks = n; queue = n; pass = s }

-- the state after the passes, from a plane of the shape
unfoldable pub enhanced : Shape → List ℕ → ℕ → ℕ → Rule → ℕ → State
enhanced z p last area rule number = chain z (start p) (map (call_of (pixels z)) (passes last area rule number))

-- ## Depth first

-- with the last level's width 2 ^ k: the section of width 2 ^ (d + k) that starts at a, and the d levels below it
module _ (k area : ℕ) (rule : Rule) (number : ℕ) where
  unfoldable pub deep : ℕ → ℕ → List Pass
  deep zero a = section area rule number a (2 ^ (0 + k)) ∷ []
  deep (suc d) a = section area rule number a (2 ^ (suc d + k)) ∷ (deep d a ++ deep d (a + 2 ^ (d + k)))

-- all values with area 1; then each half with the levels below it
unfoldable pub recursive : ℕ → ℕ → Rule → ℕ → List Pass
recursive zero area rule number = section 1 rule number 0 256 ∷ []
recursive (suc m) area rule number =
    let half = deep (7 - m) area rule number m in
    section 1 rule number 0 256 ∷ (half 0 ++ half (0 + 2 ^ (m + (7 - m))))
