-- Calls of passes on pairwise disjoint intervals, in some order. Definitions only.
--
--   PairwiseDisjoint  any two passes of a list are on disjoint intervals
--   passes_in         the passes of some calls, first to last
--   Answered          a pass was called, and its call had a reply
use Rattle.std.specs.Prelude.{◌≡◌, List, [], ◌∷◌, map}
use Rattle.planes.specs.Replies.{Reply}
use Rattle.model.specs.declared.Pass.{Pass}
use Rattle.model.specs.Runs.{All, Disjoint}
use Rattle.model.specs.Calls.{Call}

-- the first of them is disjoint from all others, and so on
pub data PairwiseDisjoint : List Pass → Type 0 where
  none : PairwiseDisjoint []
  more : {s : Pass} {ss : List Pass} → All (Disjoint s) ss → PairwiseDisjoint ss → PairwiseDisjoint (s ∷ ss)

abbrev pub passes_in : List Call → List Pass
passes_in cs = map (λ c. c.pass) cs

-- among calls with their replies, the first is one of the pass s with this reply, or a later one is
pub data Answered (s : Pass) (reply : Reply) : List Call → List Reply → Type 0 where
  now : {c : Call} {cs : List Call} {r : Reply} {rs : List Reply} → c.pass ≡ s → r ≡ reply
      → Answered s reply (c ∷ cs) (r ∷ rs)
  later : {c : Call} {cs : List Call} {r : Reply} {rs : List Reply} → Answered s reply cs rs
      → Answered s reply (c ∷ cs) (r ∷ rs)
