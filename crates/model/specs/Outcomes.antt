-- The contract of a call that retones a lent plane of n pixels, with marks and queue as working memory: one for a pass,
-- a list of passes and an enhancement, by the number of the refusal that it meets with and by the effect that it has
-- where it meets with none. Definitions only.
--
--   came           the effect that a plane and counts stand for
--   sums           the sums of both counts
--   answer_reply   the reply of a result with both counts
--   Over           a call that had its effect
--   Outcome        what a call answers and leaves
--   OutputOutcome  the same of a call that is lent an output too
use Rattle.std.specs.Prelude.{ℕ, suc, ◌+◌, ◌≡◌, List, [], ◌∷◌, Result}
use Rattle.planes.specs.Lists.{Beyond}
use Rattle.planes.specs.declared.refusal.Refusal.{Refusal}
use Rattle.planes.specs.Replies.{Reply, reply_of, replied, after, overwritten}
use Rattle.model.specs.declared.Counts.{Counts}
use Rattle.model.specs.Effects.{Effect, counts}

-- the effect of a call that left the plane and answered the counts
abbrev pub came : List ℕ → Counts → Effect
came plane r = record { plane = plane; retoned = r.retoned; kept = r.kept }

-- the sums of both counts
abbrev pub sums : Counts → Counts → Counts
sums x y = record { retoned = x.retoned + y.retoned; kept = x.kept + y.kept }

-- the refusal's number, or both counts
abbrev pub answer_reply : Result Counts Refusal → Reply
answer_reply = reply_of (λ r. r.retoned ∷ r.kept ∷ [])

-- the plane and the counts are the effect's; marks and queue keep their lengths and all entries from n on
pub record Over (n : ℕ) (e : Effect) (marks queue plane' marks' queue' : List ℕ) (r : Counts) : Type 0 where
  pub effect_is : came plane' r ≡ e
  pub marks_rest : Beyond n marks marks'
  pub queue_rest : Beyond n queue queue'

-- the reply and the plane are those of the effect, unless there is a refusal: that is the reply then, and nothing
-- changes; the first n entries of marks and queue are free after a call that is not refused
pub record Outcome (n number : ℕ) (e : Effect) (plane marks queue : List ℕ) (reply : Reply)
    (plane' marks' queue' : List ℕ) : Type 0 where
  pub answer : reply ≡ replied number (counts e)
  pub plane_is : plane' ≡ after number plane e.plane
  pub refused : (k : ℕ) → number ≡ suc k → (marks' ≡ marks) × (queue' ≡ queue)
  pub marks_rest : Beyond n marks marks'
  pub queue_rest : Beyond n queue queue'

-- the same, and the output's first bytes become these, unless there is a refusal; those beyond stay in any case
pub record OutputOutcome (n number : ℕ) (e : Effect) (bytes plane marks queue output : List ℕ) (reply : Reply)
    (plane' marks' queue' output' : List ℕ) : Type 0 where
  pub retoned : Outcome n number e plane marks queue reply plane' marks' queue'
  pub output_is : output' ≡ after number output (overwritten output bytes)
