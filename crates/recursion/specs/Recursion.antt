-- What the whole recursion does. Definitions only.
--
--   levels_left       on how many levels below level 0 a plane is kept back that leaves there
--   RecursionOutcome  the recursion comes to that of the model
use Rattle.std.specs.Prelude.{ℕ, ◌≡◌, cond, List, ltb}
use Rattle.planes.specs.Shapes.{pixels}
use Rattle.planes.specs.declared.Shape.{Shape}
use Rattle.model.specs.Neighbourhoods.{pass_neighbours}
use Rattle.model.specs.declared.Counts.{Counts}
use Rattle.model.specs.Effects.{run_effect}
use Rattle.model.specs.Outcomes.{came}
use Rattle.model.specs.Enhancement.{recursive}
use Rattle.levels.specs.declared.Settings.{Settings}
use Rattle.branches.specs.Branches.{Rest}

-- all of them where its n pixels have the least area, which level 0 does not test
abbrev pub levels_left : ℕ → Settings → ℕ
levels_left n t = cond (ltb n t.area) 0 t.last

-- it comes to what the model's recursion comes to; marks and queue keep their lengths and all entries from n on
pub record RecursionOutcome (z : Shape) (t : Settings) (plane marks queue plane' marks' queue' : List ℕ)
    (r : Counts) : Type 0 where
  pub model : came plane' r
      ≡ run_effect (pass_neighbours z) (recursive t.last t.area t.rule t.neighbours) plane
  pub rest : Rest (pixels z) marks queue marks' queue'
