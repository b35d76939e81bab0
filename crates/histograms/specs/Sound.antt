-- What every tone rule is, and all that the order of neighbours needs of one. Definitions only.
use Rattle.std.specs.Prelude.{ℕ, ◌≤◌}

-- on [a, b] the function f never falls, and it stays in [a, b]
pub record Sound (a b : ℕ) (f : ℕ → ℕ) : Type 0 where
  pub rises : (v u : ℕ) → a ≤ v → v ≤ u → u ≤ b → f v ≤ f u
  pub above : (v : ℕ) → a ≤ v → v ≤ b → a ≤ f v
  pub below : (v : ℕ) → a ≤ v → v ≤ b → f v ≤ b
