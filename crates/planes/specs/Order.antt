-- Planes that keep another's order of neighbours. Definitions only.
use Rattle.std.specs.Prelude.{ℕ, ◌≤◌, ◌<◌, ◌≡◌, true, List}
use Rattle.planes.specs.Lists.{at}
use Rattle.planes.specs.Neighbours.{Near}

-- of the n pixels, one that is no higher than a neighbour in p is no higher than it in q
pub record Keeps (near : Near) (n : ℕ) (p q : List ℕ) : Type 0 where
  pub ordered : (i j : ℕ) → i < n → j < n → near i j ≡ true → at p i ≤ at p j → at q i ≤ at q j
