-- Stretches of pixels, one after the other in reading order, in which a code is looked for. Definitions only.
--
--   None      no pixel of a stretch has the code
--   Tells     a test tells whether a pixel of a stretch has the code
--   Skipped   pixels were passed, none of which has the code
use Rattle.std.specs.Prelude.{ℕ, ◌≤◌, ◌<◌, ◌≡◌, Bool, true, false, List}
use Rattle.planes.specs.Lists.{at}

-- no pixel from `low` on and before `high` has the code
abbrev pub None : List ℕ → ℕ → ℕ → ℕ → Type 0
None marks code low high = (p : ℕ) → low ≤ p → p < high → at marks p ≡ code → ⊥

-- the test t passes exactly where a pixel from `low` on and before `high` has the code
pub record Tells (marks : List ℕ) (code low high : ℕ) (t : Bool) : Type 0 where
  pub yes : t ≡ true → None marks code low high → ⊥
  pub no : t ≡ false → None marks code low high

-- from `low` on, no pixel before p has the code
pub record Skipped (marks : List ℕ) (code low p : ℕ) : Type 0 where
  pub past : low ≤ p
  pub none : None marks code low p
