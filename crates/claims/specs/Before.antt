-- What was there before passes and settings had a number of neighbours, before lists had a second version, and when
-- they might have 1,024 passes. The laws that those by 4 neighbours, lists of version 1 and lists of few passes are as
-- before need this; nothing else does. Definitions only.
--
--   numbers_before                              5 to 8, 18, of a pass
--   settings_before                             9, 6, 7, 8, 18, of settings
--   greatest_before                             the greatest count of passes before
--   list_within, convert_within, passes_within  the refusals of a list, of its conversion and of passes in memory by a
--                                               greatest count of passes
--   start_before, pass_before, record_before    a record of 12 bytes: where it starts, its pass, its refusal
--   head_before                                 16, 15 for every version but 1, 16
--   list_before                                 the refusal of a list
--   passes_before                               its passes
use Rattle.std.specs.Prelude.{ℕ, ◌+◌, ◌*◌, not, ◌||◌, List, map, length, ltb, eqb}
use Rattle.planes.specs.Lists.{from, at}
use Rattle.planes.specs.Refusals.{when, ◌▷◌, output_refusal}
use Rattle.tones.specs.Refusals.{rule_refusal}
use Rattle.tones.specs.Numbers.{rule_of, form_refusal}
use Rattle.model.specs.declared.Pass.{Pass}
use Rattle.model.specs.Calls.{interval_refusal, area_refusal, numbers_refusal}
use Rattle.levels.specs.declared.Settings.{Settings}
use Rattle.levels.specs.Levels.{level_refusal}
use Rattle.listformat.specs.Format.{other, number32, head_length, record_start, version_of, count_of, edition_of}
use Rattle.listformat.specs.Format.{numbers_at}
use Rattle.listformat.specs.Format.{passes_of, misnamed}
use Rattle.listchecks.specs.Refusals.{first_refusal, record_refusals, places_refusal}
use Rattle.conversion.specs.Conversion.{converted}

abbrev pub numbers_before : Pass → ℕ
numbers_before s = interval_refusal s.a s.b ▷ area_refusal s.area ▷ rule_refusal s.rule

abbrev pub settings_before : Settings → ℕ
settings_before t = level_refusal t.last ▷ area_refusal t.area ▷ rule_refusal t.rule

-- ## How many passes a list may have

abbrev pub greatest_before : ℕ
greatest_before = 1024

-- of a list in a file of either version, that may have so many passes
abbrev pub list_within : ℕ → List ℕ → ℕ
list_within most bs =
    (when (ltb (length bs) head_length) 16 ▷ when (misnamed bs) 15
    ▷ when (ltb most (count_of bs) || not (eqb (length bs) (record_start (edition_of bs) (count_of bs)))) 16)
    ▷ first_refusal (record_refusals bs)

-- of its conversion
abbrev pub convert_within : ℕ → List ℕ → ℕ → ℕ
convert_within most bs output =
    list_within most bs
    ▷ places_refusal (other (edition_of bs)) (passes_of bs) ▷ output_refusal output (length (converted bs))

-- of passes in memory
abbrev pub passes_within : ℕ → List Pass → ℕ
passes_within most ss = when (ltb most (length ss)) 16 ▷ first_refusal (map numbers_refusal ss)

-- ## Lists of one version

abbrev pub start_before : ℕ → ℕ
start_before j = 7 + 12 * j

abbrev pub pass_before : List ℕ → ℕ → Pass
pass_before bs i = record {
  a = at bs i;
  b = at bs (i + 1);
  area = number32 bs (i + 4);
  rule = rule_of (numbers_at bs i);
  neighbours = 4;
}

abbrev pub record_before : List ℕ → ℕ → ℕ
record_before bs i = form_refusal (numbers_at bs i) ▷ numbers_before (pass_before bs i)

abbrev pub head_before : List ℕ → ℕ
head_before bs =
    when (ltb (length bs) 7) 16
    ▷ when (not (eqb (at bs 0) 77) || not (eqb (at bs 1) 76) || not (eqb (at bs 2) 80)
    || not (eqb (version_of bs) 1)) 15
    ▷ when (ltb greatest_before (count_of bs) || not (eqb (length bs) (start_before (count_of bs)))) 16

abbrev pub list_before : List ℕ → ℕ
list_before bs = head_before bs ▷ first_refusal (map (λ j. record_before bs (start_before j)) (from 0 (count_of bs)))

abbrev pub passes_before : List ℕ → List Pass
passes_before bs = map (λ j. pass_before bs (start_before j)) (from 0 (count_of bs))
