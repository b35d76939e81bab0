-- What a call of a pass does to its answer and to each lent slice. Definitions only.
--
--   call_on            what the model is fed of a call
--   pass_call_refusal  the number of the refusal of a call
--   PassOutcome        the contract of `pass`
--   Sequence           a sequence of calls, each lent the plane as the one before left it
use Rattle.std.specs.Prelude.{ℕ, List, [], ◌∷◌, length}
use Rattle.planes.specs.Replies.{Reply}
use Rattle.planes.specs.Shapes.{pixels}
use Rattle.planes.specs.declared.Shape.{Shape}
use Rattle.model.specs.declared.Pass.{Pass}
use Rattle.model.specs.Neighbourhoods.{pass_neighbours}
use Rattle.model.specs.Effects.{pass_effect}
use Rattle.model.specs.Outcomes.{Outcome}
use Rattle.model.specs.Calls.{Call, pass_refusal}

-- of marks and queue the model is fed only the lengths
abbrev pub call_on : ℕ → ℕ → Pass → Call
call_on marks queue s = record { marks = marks; queue = queue; pass = s }

-- the number of the first refusal that applies to a call, 0 where none does
abbrev pub pass_call_refusal : Shape → Pass → List ℕ → List ℕ → List ℕ → ℕ
pass_call_refusal z s plane marks queue = pass_refusal z (length plane) (call_on (length marks) (length queue) s)

-- the outcome of a call by its refusal and by the effect of the pass on the lent plane
abbrev pub PassOutcome : (z : Shape) (s : Pass) (plane marks queue : List ℕ) (reply : Reply)
    (plane' marks' queue' : List ℕ) → Type 0
PassOutcome z s plane marks queue =
    Outcome (pixels z) (pass_call_refusal z s plane marks queue)
    (pass_effect (pass_neighbours z) s plane) plane marks queue

-- calls that each meet the contract of `pass`, from a first plane to a last, as the model is fed them, with their
-- replies; marks and queue are lent anew for each call, with any length and content
pub data Sequence (z : Shape) : List ℕ → List Call → List Reply → List ℕ → Type 0 where
  none : {plane : List ℕ} → Sequence z plane [] [] plane
  more : {s : Pass} {plane marks queue plane' marks' queue' last : List ℕ} {reply : Reply} {cs : List Call}
      {rs : List Reply}
      → PassOutcome z s plane marks queue reply plane' marks' queue' → Sequence z plane' cs rs last
      → Sequence z plane (call_on (length marks) (length queue) s ∷ cs) (reply ∷ rs) last
