-- Rounding to nearest, halves upward. Definitions only.
use Rattle.std.specs.Prelude.{ℕ, ◌+◌, ◌*◌, ◌/◌}

-- x / m to nearest, halves upward: the whole part of x / m + 1 / 2
abbrev pub rounded : ℕ → ℕ → ℕ
rounded x m = (2 * x + m) / (2 * m)
