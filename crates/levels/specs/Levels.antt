-- The settings of an enhancement, and the sections of its levels. A section is an interval of values [a, b]. The
-- sections of a branch, a section with all those below it, have an interval of numbers: the section's own first, then
-- those of its lower half, then those of its upper half. Definitions only.
--
--   house             the house setting
--   level_refusal     9, by the last level
--   settings_refusal  9, 6, 7, 8, 18, 19, by the settings
--   Wide              a section's width is a power of two, and so is the last level's
--   Below             how many levels there are below a section's own
--   Deeper            whether a section is split
--   NextIs            the numbers of a section's halves
--   Numbered          a section has its number, and its branch its interval of numbers
--   Away              a number outside the interval of a branch
use Rattle.std.specs.Prelude.{ℕ, ◌+◌, ◌-◌, ◌/◌, ◌^◌, ◌≤◌, ◌<◌, ◌≡◌, ◌⊎◌, Bool, true, false, ltb}
use Rattle.planes.specs.Refusals.{when, ◌▷◌}
use Rattle.tones.specs.declared.Rule.TheVariants.{Plain}
use Rattle.tones.specs.Refusals.{rule_refusal}
use Rattle.model.specs.Calls.{area_refusal, neighbour_refusal}
use Rattle.painting.specs.declared.Next.{Next}
use Rattle.levels.specs.declared.Settings.{Settings}

-- ## Settings

-- L 7, area 20, plain, low 80, high 300, four neighbours
abbrev pub house : Settings
house = record { last = 7; area = 20; rule = Plain 80 300; neighbours = 4 }

-- 9: L above 7
unfoldable pub level_refusal : ℕ → ℕ
level_refusal last = when (ltb 7 last) 9

-- 9, 6, 7, 8, 18, 19
unfoldable pub settings_refusal : Settings → ℕ
settings_refusal t =
    level_refusal t.last ▷ area_refusal t.area ▷ rule_refusal t.rule ▷ neighbour_refusal t.neighbours

-- ## Sections

-- the section [a, b] has a width of 2 ^ (d + k), where that of the last level is 2 ^ k
pub record Wide (last a b d k : ℕ) : Type 0 where
  pub width : b + 1 ≡ a + 2 ^ (d + k)
  pub few : d + k ≤ 8
  pub lowest : last + k ≡ 8

-- the number r of levels below that of the section [a, b], down to the last; a section of one value has none
pub record Below (a b last r : ℕ) : Type 0 where
  pub exact : (d k : ℕ) → Wide last a b d k → r ≡ d
  pub some : 0 < r → a < b
  pub few : r ≤ 7

-- whether the section [a, b] is split
pub record Deeper (a b last : ℕ) (r : Bool) : Type 0 where
  pub some : r ≡ true → a < b
  pub yes : r ≡ true → (d k : ℕ) → Wide last a b d k → 0 < d
  pub none : r ≡ false → (d k : ℕ) → Wide last a b d k → d ≡ 0

-- ## Numbers

-- the next marks of a section: the numbers of its halves, or 0 where it has none
pub record NextIs (more : Bool) (mid code span : ℕ) (r : Next) : Type 0 where
  pub middle : r.mid ≡ mid
  pub halves : more ≡ true → (r.low ≡ code + 1) × (r.high ≡ code + 1 + (span - 1) / 2)
  pub none : more ≡ false → (r.low ≡ 0) × (r.high ≡ 0)

-- a section, d levels above the last, has its number, and its branch as many as it has sections
pub record Numbered (last a b d code span : ℕ) : Type 0 where
  pub k : ℕ
  pub wide : Wide last a b d k
  pub spans : span + 1 ≡ 2 ^ (d + 1)
  pub real : 1 ≤ code
  pub fits : code + span ≤ 256

-- none of the `span` numbers from the code on
abbrev pub Away : ℕ → ℕ → ℕ → Type 0
Away code span x = (x < code) ⊎ (code + span ≤ x)
