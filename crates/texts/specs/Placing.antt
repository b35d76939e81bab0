-- Bytes put into an output. Definitions only.
--
--   placed   the output with bytes in the place of those that stood there
--   Put      the contract of the functions that put bytes into the output
use Rattle.std.specs.Prelude.{ℕ, ◌+◌, ◌≡◌, List, ◌++◌, length, take, drop}

-- the bytes, in the place of those that stand in the output from a place on
abbrev pub placed : List ℕ → ℕ → List ℕ → List ℕ
placed output at bytes = take at output ++ bytes ++ drop (at + length bytes) output

-- bytes put into the output from a place on, and the place after them
pub record Put (output : List ℕ) (at : ℕ) (bytes : List ℕ) (r : ℕ) (output' : List ℕ) : Type 0 where
  pub next : r ≡ at + length bytes
  pub leaves : output' ≡ placed output at bytes
