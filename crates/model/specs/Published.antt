-- The published recursion by connected components, as functions that compute, over any neighbour relation: Algorithms 2
-- to 5 of the published account, under the names that they have there. A set of pixels is the list of them in reading
-- order. Definitions only.
--
--   Procedure     what is done with a set of pixels in a section [a, b]
--   Arrangement   the order in which the components of a level set are treated; Algorithm 4 leaves it open
--   published_in  all pixels, treated by Algorithm 2 in [0, 255], with the levels 0 to `last`
--   published     the same, with components in reading order; every other order ends alike (`published_any_order`)
--   Connected     a plane of bytes that is one component
--
--   histogram_equalization           Algorithm 5, or 7, and line 3 of Algorithm 2: the pixels of a set get the rule's
--                                   tones, unless it is kept back
--   connected_components             Algorithm 4: the largest connected subsets, by their first pixels in reading order
--   process_level_set                 Algorithm 3: each component of a level set that has the least area is treated
--   recursive_histogram_equalization  Algorithm 2: a set is equalised; then its lower and its upper half are processed,
--                                   unless this is the last level
use Rattle.std.specs.Prelude.{ℕ, zero, suc, ◌+◌, ◌/◌, ◌≤◌, ◌<◌, ◌≡◌, Bool, true, false, ◌&&◌, ◌||◌, cond, List, [], ◌∷◌}
use Rattle.std.specs.Prelude.{map, length, leb, eqb}
use Rattle.planes.specs.Lists.{from, keep, at}
use Rattle.planes.specs.Permutations.{Permutation}
use Rattle.planes.specs.Neighbours.{Near, linked, component, first}
use Rattle.tones.specs.declared.Rule.{Rule}
use Rattle.tones.specs.Tones.{tone, kept}
use Rattle.model.specs.Effects.{Effect, nothing}

-- by the ends a and b and the set, from the effect so far to the effect after it
abbrev pub Procedure : Type 0
Procedure = ℕ → ℕ → List ℕ → Effect → Effect

-- ## Sets of pixels

-- i is in the set
unfoldable pub member : List ℕ → ℕ → Bool
member [] i = false
member (x ∷ xs) i = eqb i x || member xs i

-- v is in [a, b]
abbrev pub between : ℕ → ℕ → ℕ → Bool
between a b v = leb a v && leb v b

-- the pixels of S whose value in p is in [a, b]
unfoldable pub level_set : ℕ → ℕ → List ℕ → List ℕ → List ℕ
level_set a b p S = keep (λ i. between a b (at p i)) S

-- neighbours that are both in the set
unfoldable pub amid : Near → List ℕ → Near
amid near S i j = member S i && member S j && near i j

-- of a set of some of n pixels
unfoldable pub connected_components : Near → ℕ → List ℕ → List (List ℕ)
connected_components near n S = map (component n (amid near S)) (keep (first n (amid near S)) S)

-- ## Equalising

-- the plane p, with f applied to the values of the pixels of S
unfoldable pub painted : (ℕ → ℕ) → List ℕ → List ℕ → List ℕ
painted f S p = map (λ i. cond (member S i) (f (at p i)) (at p i)) (from 0 (length p))

unfoldable pub histogram_equalization : Rule → Procedure
histogram_equalization rule a b S t =
    let vs = map (at t.plane) S in
    let new : Effect = record {
      plane = painted (tone rule a b vs) S t.plane;
      retoned = t.retoned + 1;
      kept = t.kept;
    } in
    let old : Effect = record { plane = t.plane; retoned = t.retoned; kept = t.kept + 1 } in
    cond (kept rule a b vs) old new

-- ## Orders of components

-- by the ends a and b, and the components of a level set [a, b] in reading order
abbrev pub Arrangement : Type 0
Arrangement = ℕ → ℕ → List (List ℕ) → List (List ℕ)

abbrev pub reading_order : Arrangement
reading_order a b Ss = Ss

-- it loses no set, and adds none
abbrev pub Reorders : Arrangement → Type 0
Reorders arrange = (a b : ℕ) (Ss : List (List ℕ)) → Permutation Ss (arrange a b Ss)

-- ## Recursion

-- f on each set that has the least area, one after the other, on the plane as it then stands
unfoldable pub for_each : ℕ → (List ℕ → Effect → Effect) → List (List ℕ) → Effect → Effect
for_each area f [] t = t
for_each area f (S ∷ Ss) t =
    let treated = f S t in
    for_each area f Ss (cond (leb area (length S)) treated t)

module _ (arrange : Arrangement) (near : Near) (area : ℕ) where
  -- `next` is the procedure for a component: `recursive_histogram_equalization`, with one level less
  unfoldable pub process_level_set : Procedure → Procedure
  process_level_set next a b S t =
      let parts = connected_components near (length t.plane) (level_set a b t.plane S) in
      for_each area (next a b) (arrange a b parts) t

  -- `levels` is the last level less the one of line 5, so that Algorithms 2 and 3 call each other by a number that
  -- falls. With at most 7 levels below [0, 255] a section that is split has 4 values or more, and line 9 has no case.
  unfoldable pub recursive_histogram_equalization : Rule → ℕ → Procedure
  recursive_histogram_equalization rule zero a b S t = histogram_equalization rule a b S t
  recursive_histogram_equalization rule (suc levels) a b S t =
      let mid = (a + b) / 2 in
      let equalised = histogram_equalization rule a b S t in
      let lower = process_level_set (recursive_histogram_equalization rule levels) a mid S equalised in
      process_level_set (recursive_histogram_equalization rule levels) (mid + 1) b S lower

-- level 0 has no area test
unfoldable pub published_in : Arrangement → Near → ℕ → ℕ → Rule → List ℕ → Effect
published_in arrange near last area rule p =
    recursive_histogram_equalization arrange near area rule last 0 255 (from 0 (length p))
    (nothing p)

abbrev pub published : Near → ℕ → ℕ → Rule → List ℕ → Effect
published = published_in reading_order

-- ## Planes

pub record Connected (near : Near) (p : List ℕ) : Type 0 where
  pub some : 0 < length p
  pub bytes : (x : ℕ) → x < length p → at p x ≤ 255
  pub joined : (x : ℕ) → x < length p → linked near (length p) 0 x ≡ true
