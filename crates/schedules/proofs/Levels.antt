-- The levels of an enhancement as rounds: the sections of a level are pairwise disjoint, and the levels one after the
-- other are the enhancement's passes. So a level can be handed out, whatever the order. Assumes nothing.
use Prim.Native.Nat.{ℕ, zero, suc, ◌+◌, ◌-◌, ◌*◌, ◌^◌, ◌<◌}
use mathlib.Core.Path.{◌≡◌, refl, sym, ap, ◌∙◌}
use mathlib.Core.Logic.{inl}
use mathlib.Core.List.{List, [], ◌∷◌, ◌++◌, map}
use native.Mathlib.Nat.{mul-le-mul, suc-mul, le_refl}
use native.Mathlib.Omega.{arith}
use lib.Pow.{pow_pos}
use Rattle.planes.specs.Lists.{from}
use Rattle.planes.specs.declared.Shape.{Shape}
use Rattle.tones.specs.declared.Rule.{Rule}
use Rattle.model.specs.declared.Pass.{Pass}
use Rattle.model.specs.Neighbourhoods.{pass_neighbours}
use Rattle.model.specs.Effects.{run_effect}
use Rattle.model.specs.Runs.{All, none, more, Disjoint}
use Rattle.model.specs.Calls.{retoned_in, kept_in}
use Rattle.model.specs.Enhancement.{section, level, levels, passes}
use Rattle.schedules.specs.Orders.{PairwiseDisjoint, none, more}
use Rattle.schedules.specs.Copies.{Work, Rounds, rounds_total, level_rounds}
use Rattle.schedules.proofs.Copies.{joined_rounds, EachDisjoint, no_round, round, rounds_effect}

module _ (area : ℕ) (rule : Rule) (number : ℕ) where
  -- sections of one width, by their place
  module _ (width : ℕ) (some : 0 < width) where
    abbrev nth : ℕ → Pass
    nth j = section area rule number (j * width) width

    nth-disjoint : (j k : ℕ) → j < k → Disjoint (nth j) (nth k)
    unfolding section
    nth-disjoint j k h =
        let next = mul-le-mul {n₂ = k} {m₂ = width} h (le_refl width) in
        inl (omega (arith, next, suc-mul j width, some))

    nth-apart : (j k m : ℕ) → j < k → All (Disjoint (nth j)) (map nth (from k m))
    nth-apart j k zero h = none
    nth-apart j k (suc m) h = more (nth-disjoint j k h) (nth-apart j (suc k) m (omega arith))

    nths-disjoint : (j m : ℕ) → PairwiseDisjoint (map nth (from j m))
    nths-disjoint j zero = none
    nths-disjoint j (suc m) = more (nth-apart j (suc j) m (omega arith)) (nths-disjoint (suc j) m)

  pub level_disjoint : (l : ℕ) → PairwiseDisjoint (level l area rule number)
  unfolding level
  level_disjoint l = nths-disjoint (2 ^ (8 - l)) (pow_pos (8 - l)) 0 (2 ^ l)

  levels-disjoint : (ls : List ℕ) → EachDisjoint (map (λ l. level l area rule number) ls)
  levels-disjoint [] = no_round
  levels-disjoint (l ∷ ls) = round (level_disjoint l) (levels-disjoint ls)

  levels-joined : (ls : List ℕ) → joined_rounds (map (λ l. level l area rule number) ls) ≡ levels ls area rule number
  unfolding joined_rounds levels
  levels-joined [] = refl
  levels-joined (l ∷ ls) = ap (level l area rule number ++◌) (levels-joined ls)

-- handed out level by level, the passes of an enhancement come to their run
pub levels_effect : {z : Shape} (last area : ℕ) (rule : Rule) (number : ℕ) {wss : List (List Work)} {p q : List ℕ}
    → Rounds z (level_rounds last area rule number) wss p q
    → run_effect (pass_neighbours z) (passes last area rule number) p
    ≡ record { plane = q; retoned = rounds_total retoned_in wss; kept = rounds_total kept_in wss }
unfolding passes level_rounds joined_rounds
levels_effect {z} last area rule number {p = p} R =
    ap (λ (ss : List Pass). run_effect (pass_neighbours z) (level 0 1 rule number ++ ss) p)
    (sym (levels-joined area rule number (from 1 last)))
    ∙ rounds_effect R (round (level_disjoint 1 rule number 0) (levels-disjoint area rule number (from 1 last)))
