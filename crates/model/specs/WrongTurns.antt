-- Wrong turns, each beside what the published recursion does on the same small plane. These definitions are wrong, and
-- nothing uses them but the examples that show it. Definitions only.
--
--   recursion_by    the shape of Algorithm 2, with the procedures for a set and for a half left open (`shape_is`)
--   original_tones  splits by the original tones
--   one_histogram   one histogram for a whole section
--   area_test       an area test at level 0
--   stop_at_kept    stops at a kept component
--   halves_to_even  rounds halves to even
--   Turned          what the published recursion leaves, and what a wrong turn leaves instead
use Rattle.std.specs.Prelude.{ℕ, zero, suc, ◌+◌, ◌*◌, ◌/◌, ◌%◌, ◌≡◌, cond, List, [], ◌∷◌, map, length, leb, ltb}
use Rattle.planes.specs.Lists.{from, count, at}
use Rattle.planes.specs.Neighbours.{Near, four}
use Rattle.tones.specs.declared.Rule.{Rule}
use Rattle.tones.specs.declared.Rule.TheVariants.{Plain}
use Rattle.tones.specs.Tones.{kept}
use Rattle.model.specs.Effects.{Effect, nothing}
use Rattle.model.specs.Published.{Procedure, level_set, connected_components, painted}
use Rattle.model.specs.Published.{histogram_equalization, reading_order, for_each, process_level_set, published}
use Rattle.tones.specs.Examples.{any_ratio}
use Rattle.model.specs.PublishedExamples.{grey}

-- ## The wrong turns

-- `equalization` is the procedure for a set, and `half` makes the one for a half of the recursion with one level less
unfoldable pub recursion_by : Procedure → (Procedure → Procedure) → ℕ → Procedure
recursion_by equalization half zero a b S t = equalization a b S t
recursion_by equalization half (suc levels) a b S t =
    let mid = (a + b) / 2 in
    let equalised = equalization a b S t in
    let lower = half (recursion_by equalization half levels) a mid S equalised in
    half (recursion_by equalization half levels) (mid + 1) b S lower

-- the halves are those of the first plane, not of the plane as it stands
unfoldable pub original_tones : Near → ℕ → ℕ → Rule → List ℕ → Effect
original_tones near last area rule p =
    let half : Procedure → Procedure = λ next a b S t.
    for_each area (next a b) (connected_components near (length p) (level_set a b p S)) t in
    recursion_by (histogram_equalization rule) half last 0 255 (from 0 (length p)) (nothing p)

-- a half is treated as one set, connected or not
unfoldable pub one_histogram : ℕ → ℕ → Rule → List ℕ → Effect
one_histogram last area rule p =
    let half : Procedure → Procedure = λ next a b S t.
    for_each area (next a b) (level_set a b t.plane S ∷ []) t in
    recursion_by (histogram_equalization rule) half last 0 255 (from 0 (length p)) (nothing p)

-- a plane of less than the least area is not treated
unfoldable pub area_test : Near → ℕ → ℕ → Rule → List ℕ → Effect
area_test near last area rule p = cond (leb area (length p)) (published near last area rule p) (nothing p)

-- a set that is kept back is not split
unfoldable pub stop_recursion : Near → ℕ → Rule → ℕ → Procedure
stop_recursion near area rule zero a b S t = histogram_equalization rule a b S t
stop_recursion near area rule (suc levels) a b S t =
    let mid = (a + b) / 2 in
    let equalised = histogram_equalization rule a b S t in
    let lower = process_level_set reading_order near area (stop_recursion near area rule levels) a mid S equalised in
    let split = process_level_set reading_order near area (stop_recursion near area rule levels) (mid + 1) b S lower in
    cond (kept rule a b (map (at t.plane) S)) equalised split

unfoldable pub stop_at_kept : Near → ℕ → ℕ → Rule → List ℕ → Effect
stop_at_kept near last area rule p = stop_recursion near area rule last 0 255 (from 0 (length p)) (nothing p)

-- x / m to nearest, halves to the even neighbour
unfoldable pub rounded_even : ℕ → ℕ → ℕ
rounded_even x m =
    let q = x / m in
    let r = 2 * (x % m) in
    cond (ltb r m) q (cond (ltb m r) (q + 1) (q + q % 2))

-- the plain rule with nothing kept back, on level 0
unfoldable pub halves_to_even : List ℕ → Effect
halves_to_even p =
    let new : ℕ → ℕ = λ v. rounded_even (255 * count (λ x. leb x v) p) (length p) in
    record { plane = painted new (from 0 (length p)) p; retoned = 1; kept = 0 }

-- ## Examples

-- the recursion leaves the plane q, retones k components and keeps j back; the wrong turn q', k' and j'
pub record Turned (right wrong : Effect) (q : List ℕ) (k j : ℕ) (q' : List ℕ) (k' j' : ℕ) : Type 0 where
  pub published_is : right ≡ record { plane = q; retoned = k; kept = j }
  pub wrong_is : wrong ≡ record { plane = q'; retoned = k'; kept = j' }

abbrev pub gap : List ℕ
gap = 20 ∷ 10 ∷ 30 ∷ []

abbrev pub ramp : List ℕ
ramp = 10 ∷ 11 ∷ 12 ∷ []

-- one sixth of 255 is 42.5
abbrev pub sixth : List ℕ
sixth = 10 ∷ 20 ∷ 20 ∷ 20 ∷ 20 ∷ 20 ∷ []

pub record WrongTurns : Type 0 where
  -- both pixels were below 128, but none is after level 0
  pub original_tones_lem : Turned (published (four 2) 1 1 any_ratio grey) (original_tones (four 2) 1 1 any_ratio grey)
      (192 ∷ 255 ∷ []) 2 0
      (64 ∷ 127 ∷ []) 2 0
  -- the upper half of 170 85 255 is two components of one pixel each, which are kept back
  pub one_histogram_lem : Turned (published (four 3) 1 1 any_ratio gap) (one_histogram 1 1 any_ratio gap)
      (170 ∷ 85 ∷ 255 ∷ []) 1 3
      (192 ∷ 85 ∷ 255 ∷ []) 2 1
  -- the whole plane is treated though it has 2 pixels and the least area is 20
  pub area_test_lem : Turned (published (four 2) 0 20 any_ratio grey) (area_test (four 2) 0 20 any_ratio grey)
      (128 ∷ 255 ∷ []) 1 0
      (10 ∷ 20 ∷ []) 0 0
  -- kept back on the levels 0 to 4, retoned on level 5
  pub stop_at_kept_lem : Turned (published (four 3) 5 1 (Plain 80 300) ramp)
      (stop_at_kept (four 3) 5 1 (Plain 80 300) ramp)
      (10 ∷ 13 ∷ 15 ∷ []) 1 5
      (10 ∷ 11 ∷ 12 ∷ []) 0 1
  pub halves_to_even_lem : Turned (published (four 6) 0 1 any_ratio sixth) (halves_to_even sixth)
      (43 ∷ 255 ∷ 255 ∷ 255 ∷ 255 ∷ 255 ∷ []) 1 0
      (42 ∷ 255 ∷ 255 ∷ 255 ∷ 255 ∷ 255 ∷ []) 1 0
