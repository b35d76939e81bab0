-- All pixels of a plane, taken in reading order. Definitions only.
--
--   PlaneTaken   what `take_plane` does to marks and queue
use Rattle.std.specs.Prelude.{ℕ, ◌<◌, ◌≡◌, List}
use Rattle.planes.specs.Lists.{at, Beyond}

-- the marks of the first n pixels are 0, and the first n entries of the queue are their own numbers; all other marks
-- and entries, and both lengths, are what they were
pub record PlaneTaken (n : ℕ) (marks queue marks' queue' : List ℕ) : Type 0 where
  pub off : (p : ℕ) → p < n → at marks' p ≡ 0
  pub listed : (p : ℕ) → p < n → at queue' p ≡ p
  pub marks_rest : Beyond n marks marks'
  pub queue_rest : Beyond n queue queue'
