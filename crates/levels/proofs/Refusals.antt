-- Settings that are not refused. Assumes nothing.
use Prim.Native.Nat.{ℕ, zero, suc, ◌≤◌}
use mathlib.Core.Path.{◌≡◌}
use native.Mathlib.Omega.{arith}
use lib.Dec.{ltb}
use borrow.Author.Tests.{ltb-false}
use Rattle.planes.proofs.Refusals.{when_none, ▷_none}
use Rattle.tones.specs.Refusals.{rule_refusal}
use Rattle.model.specs.Calls.{area_refusal, neighbour_refusal}
use Rattle.levels.specs.Levels.{level_refusal, settings_refusal}
use Rattle.levels.specs.declared.Settings.{Settings}

pub few_levels : (last : ℕ) → level_refusal last ≡ 0 → last ≤ 7
unfolding level_refusal
few_levels last e = ltb-false 7 last (when_none (ltb 7 last) 8 e)

pub some_area : (area : ℕ) → area_refusal area ≡ 0 → 1 ≤ area
unfolding area_refusal
some_area zero e = absurd (omega arith)
some_area (suc area) e = omega arith

pub settings_fit : (t : Settings) → settings_refusal t ≡ 0
    → (level_refusal t.last ≡ 0)
    × ((area_refusal t.area ≡ 0) × ((rule_refusal t.rule ≡ 0) × (neighbour_refusal t.neighbours ≡ 0)))
unfolding settings_refusal
settings_fit t e =
    let last = ▷_none (level_refusal t.last) _ e in
    let area = ▷_none (area_refusal t.area) _ last.1 in
    (last.0, (area.0, ▷_none (rule_refusal t.rule) (neighbour_refusal t.neighbours) area.1))
