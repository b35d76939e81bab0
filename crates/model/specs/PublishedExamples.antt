-- Worked examples of the published recursion, as one statement. Definitions only.
--
--   Leaves             the recursion leaves a plane, retones that many components and keeps that many back
--   PublishedExamples  examples K, L and M; a set that is kept back and split all the same; components too small;
--                      planes of one value, kept back on every level whose least area they have
use Rattle.std.specs.Prelude.{ℕ, ◌≡◌, List, [], ◌∷◌}
use Rattle.planes.specs.Neighbours.{four}
use Rattle.tones.specs.declared.Rule.{Rule}
use Rattle.tones.specs.declared.Rule.TheVariants.{Plain, Limited}
use Rattle.tones.specs.Examples.{any_ratio}
use Rattle.model.specs.Published.{published}

-- in a plane p of w columns
abbrev pub Leaves : ℕ → List ℕ → ℕ → ℕ → Rule → List ℕ → ℕ → ℕ → Type 0
Leaves w p last area rule q k j = published (four w) last area rule p ≡ record { plane = q; retoned = k; kept = j }

abbrev pub grey : List ℕ
grey = 10 ∷ 20 ∷ []

abbrev pub flat : List ℕ
flat = 7 ∷ 7 ∷ 7 ∷ 7 ∷ []

pub record PublishedExamples : Type 0 where
  pub k : Leaves 2 grey 0 20 any_ratio (128 ∷ 255 ∷ []) 1 0
  pub l : Leaves 2 grey 1 1 any_ratio (192 ∷ 255 ∷ []) 2 0
  pub m : Leaves 2 grey 7 1 any_ratio (255 ∷ 255 ∷ []) 8 0
  -- kept back on the levels 0 to 4, retoned on level 5
  pub kept_back : Leaves 3 (10 ∷ 11 ∷ 12 ∷ []) 5 1 (Plain 80 300) (10 ∷ 13 ∷ 15 ∷ []) 1 5
  -- halves of one and of two pixels: both are entered, the larger one, none
  pub both : Leaves 3 (10 ∷ 200 ∷ 20 ∷ []) 1 1 (Limited 1000) (127 ∷ 255 ∷ 192 ∷ []) 3 0
  pub larger : Leaves 3 (10 ∷ 200 ∷ 20 ∷ []) 1 2 (Limited 1000) (85 ∷ 255 ∷ 192 ∷ []) 2 0
  pub neither : Leaves 3 (10 ∷ 200 ∷ 20 ∷ []) 1 3 (Limited 1000) (85 ∷ 255 ∷ 170 ∷ []) 1 0
  -- one value: kept back on level 0 and on all seven below; on level 0 alone where its area is below the least; never
  -- by the limited rule
  pub one_value : Leaves 2 flat 7 4 (Plain 80 300) flat 0 8
  pub one_value_small : Leaves 2 flat 7 5 (Plain 80 300) flat 0 1
  pub one_value_limited : Leaves 2 flat 1 4 (Limited 0) (9 ∷ 9 ∷ 9 ∷ 9 ∷ []) 2 0
