-- `passarrays::run_array` meets its contract: an array has no more passes than its length, so its first `count` are its
-- first min count (its length). Assumes nothing.
use Prim.Native.Nat.{ℕ, ◌≤◌, ◌<◌, min}
use mathlib.Core.Path.{◌≡◌, sym, ap, ◌∙◌}
use mathlib.Core.Logic.{⊎_elim}
use mathlib.Core.List.{List}
use native.Mathlib.Nat.{le_of_lt, min-eq_left, min-eq_right}
use native.Mathlib.Omega.{arith}
use borrow.Author.Rules.{rules}
use lib.ListN.{length, take}
use lib.Seq.{take_all}
use Rattle.planes.proofs.Tests.{less_or_not}
use Rattle.passarrays.specs.Arrays.{array_length}
use Rattle.passarrays.proofs.run_array.Goals as goal

-- the first of `count` and as many as there are
take_min : {A : Type 0} (count n : ℕ) (xs : List A) → length xs ≡ n → take (min count n) xs ≡ take count xs
take_min count n xs e = ⊎_elim
    (λ (below : count < n). ap (λ (k : ℕ). take k xs) (min-eq_left (le_of_lt below)))
    (λ (all : n ≤ count).
    ap (λ (k : ℕ). take k xs) (min-eq_right all) ∙ take_all n xs (omega arith) ∙ sym (take_all count xs
    (omega arith)))
    (less_or_not count n)

pub returns : goal.returns
returns c =
    let full : length c.args.list ≡ array_length = search rules in
    let front : take c.min-end.result c.args.list ≡ take c.args.count c.args.list =
    ap (λ (k : ℕ). take k c.args.list) c.min-end.ensures
    ∙ take_min c.args.count array_length c.args.list full in
    rw front at c.run_passes.ensures
