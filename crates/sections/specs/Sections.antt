-- The treatment of one section, whose pixels have a code in the marks: each component is found, retoned, and given its
-- next marks. Definitions only.
--
--   Coded       the section's pixels have the code, but for inert components
--   gone        the components of sufficient area that have not the code: they left before
--   Section     what the treatment requires
--   Treated     what it does to plane, marks and queue
--   Treats      the same, and what it tells of the sides of the middle
use Rattle.std.specs.Prelude.{ℕ, ◌+◌, ◌≤◌, ◌<◌, ◌≡◌, Bool, true, false, cond, not, ◌&&◌, List, length, eqb}
use Rattle.planes.specs.Lists.{at, from, count, Beyond}
use Rattle.planes.specs.Neighbours.{Near}
use Rattle.planes.specs.Shapes.{pixels, Lent}
use Rattle.planes.specs.declared.Shape.{Shape}
use Rattle.rows.specs.Stretches.{None}
use Rattle.model.specs.declared.Pass.{Pass}
use Rattle.model.specs.Passes.{within, inside, component_values, sufficient, passed}
use Rattle.model.specs.Passes.{counted, component_count, pass_count, pass_kept}
use Rattle.model.specs.Neighbourhoods.{pass_neighbours}
use Rattle.painting.specs.declared.Next.{Next}
use Rattle.painting.specs.Painting.{number, On, Clear}
use Rattle.retoning.specs.declared.Treatment.{Treatment}
use Rattle.retoning.specs.Retoning.{inert, leaves}

-- of n pixels, those that have the code are whole components of the section, and all of its components but inert ones
pub record Coded (near : Near) (n code : ℕ) (s : Pass) (plane marks : List ℕ) : Type 0 where
  pub coded : (p : ℕ) → p < n → at marks p ≡ code → within s (at plane p) ≡ true
  pub whole : (u v : ℕ) → u < n → v < n → inside near s plane u v ≡ true → at marks u ≡ code → at marks v ≡ code
  pub others : (p : ℕ) → p < n → within s (at plane p) ≡ true → (at marks p ≡ code → ⊥)
      → inert s (component_values near s plane p) ≡ true

-- a plane of a shape, with room for it; a section whose pixels have the code, and none has it unless it is due; next
-- marks other than that
pub record Section (plane marks queue : List ℕ) (z : Shape) (code : ℕ) (due : Bool) (s : Pass) (t : Next) : Type 0 where
  pub lent : Lent z (length plane) (length marks) (length queue)
  pub order : s.a ≤ s.b
  pub real : 1 ≤ code
  pub low : t.low ≡ code → ⊥
  pub high : t.high ≡ code → ⊥
  pub coded : Coded (pass_neighbours z s) (pixels z) code s plane marks
  pub found : due ≡ false → None marks code 0 (pixels z)

-- how many components of sufficient area have not the code, each counted at its first pixel
unfoldable pub gone : Near → ℕ → ℕ → Pass → List ℕ → List ℕ → ℕ
gone near n code s plane marks =
    count (λ p. not (eqb (at marks p) code) && counted (sufficient s) near s plane p) (from 0 n)

-- the plane of the pass, and its counts but for the components that left before: those are kept back by this pass too,
-- and not counted here; the pixels that had the code have their next marks by their new values, but those of inert
-- components have 0; all other marks, and the queue from n on, are as they were
pub record Treated (near : Near) (n code : ℕ) (s : Pass) (t : Next) (plane marks queue plane' marks' queue' : List ℕ)
    (r : Treatment) : Type 0 where
  pub plane_is : plane' ≡ passed near s plane
  pub retoned_is : r.retoned ≡ pass_count near s plane
  pub kept_is : r.kept + gone near n code s plane marks ≡ pass_kept near s plane
  pub left_is : r.left + gone near n code s plane marks ≡ component_count (leaves s) near s plane
  pub numbered : (p : ℕ) → p < n
      → at marks' p ≡ cond (eqb (at marks p) code)
      (cond (inert s (component_values near s plane p)) 0 (number t (at plane' p))) (at marks p)
  pub marks_rest : Beyond n marks marks'
  pub queue_rest : Beyond n queue queue'

-- the same, and where a side's flag is false, no pixel that had the code has its next mark by a value on that side
pub record Treats (near : Near) (n code : ℕ) (s : Pass) (t : Next) (plane marks queue plane' marks' queue' : List ℕ)
    (r : Treatment) : Type 0 where
  pub treated : Treated near n code s t plane marks queue plane' marks' queue' r
  pub none : (side : Bool) → Clear side r.sides → (p : ℕ) → p < n → at marks p ≡ code
      → inert s (component_values near s plane p) ≡ false → On t side (at plane' p) → ⊥
