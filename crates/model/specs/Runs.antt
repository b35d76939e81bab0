-- Lists of passes. Definitions only.
--
--   All                       every pass of a list has a property
--   Carries                   a pass carries a number of neighbours
--   Disjoint                  two passes are on disjoint intervals
--   run, run_count, run_kept  the plane and the counts of a run, by name
--   run_sufficient            the components of sufficient area, in the plane as each pass finds it
use Rattle.std.specs.Prelude.{ℕ, ◌+◌, ◌<◌, ◌≡◌, ◌⊎◌, List, [], ◌∷◌}
use Rattle.planes.specs.Neighbours.{Near}
use Rattle.model.specs.declared.Pass.{Pass}
use Rattle.model.specs.Passes.{pass_sufficient}
use Rattle.model.specs.Effects.{pass_effect, run_effect}

pub data All (P : Pass → Type 0) : List Pass → Type 0 where
  none : All P []
  more : {s : Pass} {ss : List Pass} → P s → All P ss → All P (s ∷ ss)

-- a pass carries the number of neighbours
abbrev pub Carries : ℕ → Pass → Type 0
Carries number s = s.neighbours ≡ number

-- their intervals have no value in common: one ends before the other begins
abbrev pub Disjoint : Pass → Pass → Type 0
Disjoint s t = (s.b < t.a) ⊎ (t.b < s.a)

-- the plane after the passes
abbrev pub run : (Pass → Near) → List Pass → List ℕ → List ℕ
run by ss p = (run_effect by ss p).plane

-- the number of components that they retoned
abbrev pub run_count : (Pass → Near) → List Pass → List ℕ → ℕ
run_count by ss p = (run_effect by ss p).retoned

-- the number of components of sufficient area that they kept back
abbrev pub run_kept : (Pass → Near) → List Pass → List ℕ → ℕ
run_kept by ss p = (run_effect by ss p).kept

-- the number of components of sufficient area, summed over the passes, in the plane as each finds it
unfoldable pub run_sufficient : (Pass → Near) → List Pass → List ℕ → ℕ
run_sufficient by [] p = 0
run_sufficient by (s ∷ ss) p = pass_sufficient (by s) s p + run_sufficient by ss (pass_effect by s p).plane
