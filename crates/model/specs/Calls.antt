-- Calls of a pass: their refusals in order, their answers, and the model of a chain of calls. Definitions only.
--
--   Call                 what the model is fed of a call: the pass, and of marks and queue the lengths
--   pass_refusal         the number of the first refusal that applies, 1 to 8, 18, 19 in order; 0 where none does
--   retoned_in, kept_in  the counts of a reply
--   total                the sum of a count over some replies
--   AcceptedCarry        some calls with their replies: those that were accepted carry a number of neighbours
--   AllAccepted          replies of calls that were all accepted
--   State                the model's plane, and the replies so far
--   call, chain          the state after a call, and after a chain of calls
--   chain_effect         what a chain of calls comes to
--   chain_sufficient     the components of sufficient area, in the plane as each call finds it
use Rattle.std.specs.Prelude.{ℕ, ◌+◌, ◌≡◌, cond, not, ◌||◌, List, [], ◌∷◌, ◌++◌, length, ltb, eqb}
use Rattle.planes.specs.Refusals.{when, ◌▷◌, greatest_pixels}
use Rattle.planes.specs.Shapes.{lent_refusal}
use Rattle.planes.specs.declared.Shape.{Shape}
use Rattle.planes.specs.Replies.{Reply, refuses, gives, replied, after}
use Rattle.tones.specs.Refusals.{rule_refusal}
use Rattle.model.specs.declared.Pass.{Pass}
use Rattle.model.specs.Neighbourhoods.{pass_neighbours}
use Rattle.model.specs.Passes.{pass_sufficient}
use Rattle.model.specs.Effects.{Effect, counts, pass_effect}

-- ## Refusals

-- 5: a > b
abbrev pub interval_refusal : ℕ → ℕ → ℕ
interval_refusal a b = when (ltb b a) 5

-- 6: the least area is 0 or too large
unfoldable pub area_refusal : ℕ → ℕ
area_refusal area = when (eqb area 0 || ltb greatest_pixels area) 6

-- 19: the number of neighbours is neither 4 nor 8
unfoldable pub neighbour_refusal : ℕ → ℕ
neighbour_refusal number = when (not (eqb number 4 || eqb number 8)) 19

-- 5 to 8, 18, 19: a pass's own numbers
unfoldable pub numbers_refusal : Pass → ℕ
numbers_refusal s =
    interval_refusal s.a s.b ▷ area_refusal s.area ▷ rule_refusal s.rule ▷ neighbour_refusal s.neighbours

-- what the model is fed of a call: the lengths of marks and queue, and the pass
pub record Call : Type 0 where
  pub marks : ℕ
  pub queue : ℕ
  pub pass : Pass

-- 1, 2, 3, 4 for a plane of the shape that is lent as `plane` bytes, then 5 to 8, 18, 19
unfoldable pub pass_refusal : Shape → ℕ → Call → ℕ
pass_refusal z plane c = lent_refusal z plane c.marks c.queue ▷ numbers_refusal c.pass

-- ## Answers

-- the number of components that a call retoned, and that it kept back; a refused call counts none
abbrev pub retoned_in : Reply → ℕ
retoned_in (refuses k) = 0
retoned_in (gives []) = 0
retoned_in (gives (retoned ∷ rest)) = retoned

abbrev pub kept_in : Reply → ℕ
kept_in (refuses k) = 0
kept_in (gives []) = 0
kept_in (gives (retoned ∷ [])) = 0
kept_in (gives (retoned ∷ kept ∷ rest)) = kept

-- the sum of a count
abbrev pub total : (Reply → ℕ) → List Reply → ℕ
total f [] = 0
total f (x ∷ xs) = f x + total f xs

-- every call that was accepted carries the number of neighbours
pub data AcceptedCarry (number : ℕ) : List Call → List Reply → Type 0 where
  empty : AcceptedCarry number [] []
  refused : {c : Call} {cs : List Call} {k : ℕ} {replies : List Reply} → AcceptedCarry number cs replies
      → AcceptedCarry number (c ∷ cs) (refuses k ∷ replies)
  given : {c : Call} {cs : List Call} {values : List ℕ} {replies : List Reply} → c.pass.neighbours ≡ number
      → AcceptedCarry number cs replies → AcceptedCarry number (c ∷ cs) (gives values ∷ replies)

-- all calls were accepted
pub data AllAccepted : List Reply → Type 0 where
  none : AllAccepted []
  more : {values : List ℕ} {replies : List Reply} → AllAccepted replies → AllAccepted (gives values ∷ replies)

-- ## The model

-- the plane as it stands, and the replies so far, first to last
pub record State : Type 0 where
  pub plane : List ℕ
  pub answers : List Reply

abbrev pub start : List ℕ → State
start p = record { plane = p; answers = [] }

-- a refused call answers its number and leaves the plane; any other answers its counts and leaves the plane of its pass
unfoldable pub call : Shape → State → Call → State
call z s c =
    let refusal = pass_refusal z (length s.plane) c in
    let effect = pass_effect (pass_neighbours z) c.pass s.plane in
    record {
      plane = after refusal s.plane effect.plane;
      answers = s.answers ++ (replied refusal (counts effect) ∷ []);
    }

-- one call after the other
unfoldable pub chain : Shape → State → List Call → State
chain z s [] = s
chain z s (c ∷ cs) = chain z (call z s c) cs

-- what a chain comes to
abbrev pub chain_effect : State → Effect
chain_effect s = record {
  plane = s.plane;
  retoned = total retoned_in s.answers;
  kept = total kept_in s.answers;
}

-- the number of components of sufficient area, summed over the calls that are not refused, in the plane as each finds
-- it
unfoldable pub chain_sufficient : Shape → List ℕ → List Call → ℕ
chain_sufficient z p [] = 0
chain_sufficient z p (c ∷ cs) =
    let found = pass_sufficient (pass_neighbours z c.pass) c.pass p in
    cond (eqb (pass_refusal z (length p) c) 0) found 0 + chain_sufficient z (call z (start p) c).plane cs
