-- Passes handed out to workers, each with a copy of the plane, and the copies put together. Definitions only.
--
--   Work          what a worker did: its calls with their replies, and its copy of the plane as they left it
--   Worked        all works are sequences of accepted calls of `pass` that start from one plane
--   work_passes   the passes of all works
--   WorkAnswered  a pass was called in one of the works, and its call had a reply
--   work_total    the sum of a count over all replies of all works
--   taken         one of some passes has a value in its interval
--   handed_back   the value of a pixel in the copy of the work that has its old value in an interval
--   together      the copies put together
--   Rounds        passes handed out round by round, each round from what the one before put together
--   rounds_total  the sum of a count over all rounds
--   level_rounds  the levels of an enhancement as rounds
use Rattle.std.specs.Prelude.{ℕ, ◌+◌, Bool, false, ◌||◌, cond, List, [], ◌∷◌, ◌++◌, map, length}
use Rattle.planes.specs.Lists.{from, at}
use Rattle.planes.specs.Permutations.{Permutation}
use Rattle.planes.specs.Replies.{Reply}
use Rattle.planes.specs.declared.Shape.{Shape}
use Rattle.tones.specs.declared.Rule.{Rule}
use Rattle.model.specs.declared.Pass.{Pass}
use Rattle.model.specs.Passes.{within}
use Rattle.model.specs.Calls.{Call, total, AllAccepted}
use Rattle.model.specs.Enhancement.{level}
use Rattle.passes.specs.Calls.{Sequence}
use Rattle.schedules.specs.Orders.{passes_in, Answered}

-- ## Works

pub record Work : Type 0 where
  pub calls : List Call
  pub replies : List Reply
  pub plane : List ℕ

-- each worker starts from its own copy of the plane p; one pass for each worker is the case of one call in each work
pub data Worked (z : Shape) (p : List ℕ) : List Work → Type 0 where
  none : Worked z p []
  more : {w : Work} {ws : List Work} → Sequence z p w.calls w.replies w.plane → AllAccepted w.replies
      → Worked z p ws → Worked z p (w ∷ ws)

unfoldable pub work_passes : List Work → List Pass
work_passes [] = []
work_passes (w ∷ ws) = passes_in w.calls ++ work_passes ws

pub data WorkAnswered (s : Pass) (reply : Reply) : List Work → Type 0 where
  now : {w : Work} {ws : List Work} → Answered s reply w.calls w.replies → WorkAnswered s reply (w ∷ ws)
  later : {w : Work} {ws : List Work} → WorkAnswered s reply ws → WorkAnswered s reply (w ∷ ws)

unfoldable pub work_total : (Reply → ℕ) → List Work → ℕ
work_total f [] = 0
work_total f (w ∷ ws) = total f w.replies + work_total f ws

-- ## Copies put together

unfoldable pub taken : List Pass → ℕ → Bool
taken [] v = false
taken (s ∷ ss) v = within s v || taken ss v

-- for pixel i, whose old value is v: its value in the copy of the work one of whose passes has v in its interval, and v
-- itself where no pass has it
unfoldable pub handed_back : List Work → ℕ → ℕ → ℕ
handed_back [] i v = v
handed_back (w ∷ ws) i v = cond (taken (passes_in w.calls) v) (at w.plane i) (handed_back ws i v)

-- p is the plane that all copies were made of
unfoldable pub together : List Work → List ℕ → List ℕ
together ws p = map (λ i. handed_back ws i (at p i)) (from 0 (length p))

-- ## Round by round

-- by the passes of each round, the works of each round, the first plane and the last: in each round its passes are
-- handed out in any order and to any number of workers, and the next round starts from what they put together
pub data Rounds (z : Shape) : List (List Pass) → List (List Work) → List ℕ → List ℕ → Type 0 where
  none : {p : List ℕ} → Rounds z [] [] p p
  more : {ss : List Pass} {sss : List (List Pass)} {ws : List Work} {wss : List (List Work)} {p q : List ℕ}
      → Worked z p ws → Permutation (work_passes ws) ss → Rounds z sss wss (together ws p) q
      → Rounds z (ss ∷ sss) (ws ∷ wss) p q

unfoldable pub rounds_total : (Reply → ℕ) → List (List Work) → ℕ
rounds_total f [] = 0
rounds_total f (ws ∷ wss) = work_total f ws + rounds_total f wss

-- the sections of a level are a round; one round after the other they are the passes of an enhancement, level by level
unfoldable pub level_rounds : ℕ → ℕ → Rule → ℕ → List (List Pass)
level_rounds last area rule number = level 0 1 rule number ∷ map (λ l. level l area rule number) (from 1 last)
