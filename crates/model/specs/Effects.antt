-- What a pass, or a run of passes, comes to. `by` gives each pass the relation that its components are taken by.
-- Definitions only.
--
--   Effect       the plane that is left, and what is counted
--   counts       the values that a call with such an effect gives
--   nothing      the effect of no pass
--   then         one effect after another: the plane of the later one, and the sums
--   pass_effect  the effect of a pass
--   run_effect   the effect of passes, one after the other
--   Same         two lists of passes with one effect, whatever plane they start from
--   always       one relation for all passes
use Rattle.std.specs.Prelude.{ℕ, ◌+◌, ◌≡◌, List, [], ◌∷◌}
use Rattle.planes.specs.Neighbours.{Near}
use Rattle.model.specs.declared.Pass.{Pass}
use Rattle.model.specs.Passes.{passed, pass_count, pass_kept}

-- the plane, the number of components that were retoned, and of those of sufficient area that were kept back
pub record Effect : Type 0 where
  pub plane : List ℕ
  pub retoned : ℕ
  pub kept : ℕ

abbrev pub counts : Effect → List ℕ
counts e = e.retoned ∷ e.kept ∷ []

abbrev pub nothing : List ℕ → Effect
nothing p = record { plane = p; retoned = 0; kept = 0 }

abbrev pub then : Effect → Effect → Effect
then e f = record { plane = f.plane; retoned = e.retoned + f.retoned; kept = e.kept + f.kept }

abbrev pub pass_effect : (Pass → Near) → Pass → List ℕ → Effect
pass_effect by s p = record {
  plane = passed (by s) s p;
  retoned = pass_count (by s) s p;
  kept = pass_kept (by s) s p;
}

unfoldable pub run_effect : (Pass → Near) → List Pass → List ℕ → Effect
run_effect by [] p = nothing p
run_effect by (s ∷ ss) p = then (pass_effect by s p) (run_effect by ss (pass_effect by s p).plane)

pub record Same (by : Pass → Near) (xs ys : List Pass) : Type 0 where
  pub effects : (p : List ℕ) → run_effect by xs p ≡ run_effect by ys p

abbrev pub always : Near → Pass → Near
always near s = near
