-- Worked examples of the tone rules, and one for each boundary, as one statement. Definitions only.
use Rattle.std.specs.Prelude.{ℕ, ◌≤◌, ◌≡◌, true, false, List, [], ◌∷◌, map, length, leb}
use Rattle.planes.specs.Lists.{count}
use Rattle.histograms.specs.Values.{greatest}
use Rattle.plain.specs.Plain.{plain_tone}
use Rattle.tones.specs.Tones.{tone, kept}
use Rattle.tones.specs.declared.Rule.{Rule}
use Rattle.tones.specs.declared.Rule.TheVariants.{Plain, Limited, Affine}

-- a component's values under a rule that is not kept back
abbrev pub toned : Rule → ℕ → ℕ → List ℕ → List ℕ
toned r a b vs = map (tone r a b vs) vs

-- low 0 and high 25,500: whatever the ratio of the spreads, only components of one value are kept back
abbrev pub any_ratio : Rule
any_ratio = Plain 0 25500

abbrev pub row_a : List ℕ
row_a = 10 ∷ 10 ∷ 20 ∷ 30 ∷ []

abbrev pub row_k : List ℕ
row_k = 10 ∷ 20 ∷ []

pub record ToneExamples : Type 0 where
  -- A, B, C, D, G, H and I
  pub a : toned any_ratio 0 255 row_a ≡ 128 ∷ 128 ∷ 191 ∷ 255 ∷ []
  pub a_not_kept : kept any_ratio 0 255 row_a ≡ false
  pub b : kept (Plain 0 300) 0 255 row_a ≡ true
  pub c : toned any_ratio 0 1 (0 ∷ 1 ∷ []) ≡ 1 ∷ 1 ∷ []
  pub c_not_kept : kept any_ratio 0 1 (0 ∷ 1 ∷ []) ≡ false
  pub d : kept (Plain 80 25500) 0 1 (0 ∷ 1 ∷ []) ≡ true
  -- the greatest value need not become b
  pub g : toned (Limited 10) 0 255 row_a ≡ 13 ∷ 13 ∷ 25 ∷ 38 ∷ []
  pub h : toned (Limited 1000) 0 255 row_a ≡ 128 ∷ 128 ∷ 191 ∷ 255 ∷ []
  pub i : toned (Limited 0) 0 255 row_a ≡ 11 ∷ 11 ∷ 21 ∷ 31 ∷ []
  -- A under the affine rule: points at 0, 10 and 30 with heights 0, 25,500 and 51,000, which is 100 × 2 × 255
  pub affine : toned (Affine 2 100 10000) 0 255 row_a ≡ 128 ∷ 128 ∷ 191 ∷ 255 ∷ []
  pub affine_not_kept : kept (Affine 2 100 10000) 0 255 row_a ≡ false
  pub affine_kept_lem : kept (Affine 2 100 300) 0 255 row_a ≡ true
  -- one segment, from 0 at 0 to 255 at the greatest value
  pub affine_one : toned (Affine 1 0 10000) 0 255 row_a ≡ 85 ∷ 85 ∷ 170 ∷ 255 ∷ []
  -- more segments than values: several points at one value, which have one height
  pub affine_most : toned (Affine 16 1000 10000) 0 255 row_a ≡ 85 ∷ 85 ∷ 170 ∷ 255 ∷ []
  pub affine_most_kept : kept (Affine 16 0 10000) 0 255 row_a ≡ true
  -- D = 0
  pub affine_point : kept (Affine 2 100 10000) 7 7 (7 ∷ 7 ∷ []) ≡ true
  -- smin = smax: every slope is 9, and 9 × 30 is above 255, so that all is scaled to fit
  pub affine_even : toned (Affine 2 900 900) 0 255 row_a ≡ 85 ∷ 85 ∷ 170 ∷ 255 ∷ []
  -- smin = 0: from 10 to 250 the line rises by about one half for each value, and 10 and 11 become one; where smax is 0
  -- too, nothing rises
  pub affine_flat : toned (Affine 2 0 10000) 0 255 (10 ∷ 10 ∷ 11 ∷ 250 ∷ []) ≡ 128 ∷ 128 ∷ 128 ∷ 255 ∷ []
  pub affine_level : kept (Affine 2 0 0) 0 255 row_a ≡ true
  -- the last height is 100 × 1 × 10: not kept; with one hundredth less it is
  pub affine_whole : kept (Affine 1 0 200) 0 10 (3 ∷ 5 ∷ []) ≡ false
  pub affine_whole_toned : toned (Affine 1 0 200) 0 10 (3 ∷ 5 ∷ []) ≡ 6 ∷ 10 ∷ []
  pub affine_less : kept (Affine 1 0 199) 0 10 (3 ∷ 5 ∷ []) ≡ true
  -- a height that passes 100 × D × j by the least slope: the next point grows by the least slope alone
  pub affine_above : toned (Affine 2 200 10000) 0 10 (8 ∷ 10 ∷ []) ≡ 8 ∷ 10 ∷ []
  -- one value: with steep slopes it becomes b, at a it is kept
  pub affine_single : toned (Affine 1 0 10000) 0 255 (7 ∷ 7 ∷ []) ≡ 255 ∷ 255 ∷ []
  pub affine_single_not_kept : kept (Affine 1 0 10000) 0 255 (7 ∷ 7 ∷ []) ≡ false
  pub affine_least : kept (Affine 1 0 10000) 0 255 (0 ∷ 0 ∷ []) ≡ true
  -- s = 0, whatever low and high are
  pub one_value : (low high : ℕ) → kept (Plain low high) 0 255 (7 ∷ 7 ∷ []) ≡ true
  -- s = 10 and t = 127
  pub two_values : toned any_ratio 0 255 row_k ≡ 128 ∷ 255 ∷ []
  pub at_high : kept (Plain 0 1270) 0 255 row_k ≡ false
  pub above_high : kept (Plain 0 1269) 0 255 row_k ≡ true
  pub at_low : kept (Plain 1270 25500) 0 255 row_k ≡ false
  pub below_low : kept (Plain 1271 25500) 0 255 row_k ≡ true
  -- a = b
  pub point : toned any_ratio 7 7 (7 ∷ 7 ∷ []) ≡ 7 ∷ 7 ∷ []
  pub point_limited : toned (Limited 10) 7 7 (7 ∷ 7 ∷ []) ≡ 7 ∷ 7 ∷ []
  -- m = 1: the one value becomes b; half of it clipped goes to all 256 values
  pub single : (a b v : ℕ) → a ≤ b → plain_tone a b (v ∷ []) v ≡ b
  pub single_limited : toned (Limited 500) 0 255 (100 ∷ []) ≡ 178 ∷ []
  -- m = 1,048,576: 255 c / m is below one half up to c = 2,056
  pub most_down : (vs : List ℕ) (v : ℕ) → length vs ≡ 1048576 → count (λ x. leb x v) vs ≡ 2056
      → plain_tone 0 255 vs v ≡ 0
  pub most_up : (vs : List ℕ) (v : ℕ) → length vs ≡ 1048576 → count (λ x. leb x v) vs ≡ 2057
      → plain_tone 0 255 vs v ≡ 1
  pub most_end : (vs : List ℕ) → length vs ≡ 1048576 → plain_tone 0 255 vs (greatest vs) ≡ 255
