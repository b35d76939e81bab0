-- What is computed of a list of values, and of the terms of a function. Definitions only.
--
--   greatest, least, spread  of a list of values
--   sum, sum_to              f i + f (i + 1) + .., by the number of terms, and up to a last one
--   scaled                   a + (b - a) * x / y, rounded
use Rattle.std.specs.Prelude.{ℕ, zero, suc, ◌+◌, ◌-◌, ◌*◌, min, max, List, [], ◌∷◌}
use Rattle.planes.specs.Rounding.{rounded}

abbrev pub greatest : List ℕ → ℕ
greatest [] = 0
greatest (x ∷ xs) = max x (greatest xs)

abbrev pub least : List ℕ → ℕ
least [] = 0
least (x ∷ []) = x
least (x ∷ y ∷ xs) = min x (least (y ∷ xs))

-- the greatest value minus the least
abbrev pub spread : List ℕ → ℕ
spread vs = greatest vs - least vs

-- the n terms of f from i on
abbrev pub sum : (ℕ → ℕ) → ℕ → ℕ → ℕ
sum f i zero = 0
sum f i (suc n) = sum f i n + f (i + n)

-- the terms of f from a up to and including v, for a ≤ v
abbrev pub sum_to : (ℕ → ℕ) → ℕ → ℕ → ℕ
sum_to f a v = sum f a (v - a + 1)

-- a and the part x of y of b - a, rounded
abbrev pub scaled : ℕ → ℕ → ℕ → ℕ → ℕ
scaled a b x y = a + rounded ((b - a) * x) y
