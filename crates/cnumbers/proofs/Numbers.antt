-- Results as numbers: the number of a call's result stands for the reply of that result. Assumes nothing.
use Prim.Native.Nat.{ℕ, zero, suc, ◌<◌, ◌≤◌}
use mathlib.Core.Path.{◌≡◌, refl, sym, ◌∙◌}
use mathlib.Core.List.{List, [], ◌∷◌}
use lib.ListN.{length, drop, set}
use lib.IntN.{ℤ}
use borrow.Author.Tests.{lt-ltb, le-ltb}
use native.Mathlib.Omega.{arith}
use lib.Signed.{mag}
use mir.Syntax.{w64}
use mir.Val.{to_z, of_z}
use mir.Facts.{to_z-of_z}
use Rattle.std.specs.Prelude.{Result, Ok, Err}
use Rattle.planes.specs.declared.refusal.Refusal.{Refusal}
use Rattle.planes.specs.Refusals.{number}
use Rattle.planes.specs.Replies.{refuses, replied}
use Rattle.planes.proofs.Replies.{replied_refuses}
use Rattle.colours.specs.Calls.{status_reply}
use Rattle.model.specs.declared.Counts.{Counts}
use Rattle.model.specs.Outcomes.{answer_reply}
use Rattle.texts.specs.Writing.{written_reply}
use Rattle.cnumbers.specs.Numbers.{encoded, number_reply, done_reply, status_number, answer_number, written_number}
use Rattle.cnumbers.specs.Numbers.{counts_after, counts_reply}

-- ## What is handed on

-- a result that is handed on is read back from its bits
pub returned : {z v : ℤ} → mag z < 9223372036854775808 → z ≡ v → to_z w64 (of_z w64 z) ≡ v
returned small e = to_z-of_z {w = w64} (record { sfits = small }) ∙ e

-- ## Results

-- no call is refused with 0, so each result is read back from its number
no_zero : (k : ℕ) (vs : List ℕ) → refuses 0 ≡ replied k vs → ⊥
no_zero k vs e = let (j, (_, is)) = replied_refuses k vs (sym e) in omega (arith, is)

pub status_reads : (s : Result (Unit {0}) Refusal) (k : ℕ) → status_reply s ≡ replied k []
    → done_reply (status_number s) ≡ replied k []
status_reads (Ok x) k e = e
status_reads (Err r) k e = go (number r) e
  where
    go : (n : ℕ) → refuses n ≡ replied k [] → done_reply (encoded n 0) ≡ replied k []
    go zero e = absurd (no_zero k [] e)
    go (suc n) e = e

-- both counts are told by the numbers that they were stored in
pub answer_reads : (s : Result Counts Refusal) (numbers : List ℕ) (k : ℕ) (vs : List ℕ) → answer_reply s ≡ replied k vs
    → counts_reply (answer_number s) (counts_after s numbers) ≡ replied k vs
answer_reads (Ok counts) numbers k vs e = e
answer_reads (Err r) numbers k vs e = go (number r) e
  where
    go : (n : ℕ) → refuses n ≡ replied k vs → counts_reply (encoded n 0) numbers ≡ replied k vs
    go zero e = absurd (no_zero k vs e)
    go (suc n) e = e

pub written_reads : (s : Result ℕ Refusal) (k : ℕ) (vs : List ℕ) → written_reply s ≡ replied k vs
    → number_reply (written_number s) ≡ replied k vs
written_reads (Ok size) k vs e = e
written_reads (Err r) k vs e = go (number r) e
  where
    go : (n : ℕ) → refuses n ≡ replied k vs → number_reply (encoded n 0) ≡ replied k vs
    go zero e = absurd (no_zero k vs e)
    go (suc n) e = e

-- three numbers stored in the first three places
pub three : (numbers : List ℕ) (w h offset : ℕ) → 3 ≤ length numbers
    → set (set (set numbers 0 w) 1 h) 2 offset ≡ w ∷ h ∷ offset ∷ drop 3 numbers
three [] w h offset e = absurd (omega arith)
three (x ∷ []) w h offset e = absurd (omega arith)
three (x ∷ y ∷ []) w h offset e = absurd (omega arith)
three (x ∷ y ∷ z ∷ numbers) w h offset e = refl

-- two numbers stored in the first two places
pub two : (numbers : List ℕ) (x y : ℕ) → 2 ≤ length numbers → set (set numbers 0 x) 1 y ≡ x ∷ y ∷ drop 2 numbers
two [] x y e = absurd (omega arith)
two (u ∷ []) x y e = absurd (omega arith)
two (u ∷ v ∷ numbers) x y e = refl

-- what finds them
pub ruleset stored = (two, three, lt-ltb, le-ltb)
