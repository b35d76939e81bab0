-- The refusals of a list of passes, in a file and in memory, in order. 0 stands for "not refused". Definitions only.
--
--   first_refusal    the first of some refusals that applies
--   record_refusal   17, then 5 to 8, 18, 19, for one record
--   list_refusal     of a list of bytes: its head, then its records in order
--   count_refusal    16, by the number of passes in memory
--   passes_refusal   of passes in memory: more of them than a list may have, then each pass in order
--   place_refusal    20, for a pass that an edition has no place for
--   places_refusal   20, of some passes
use Rattle.std.specs.Prelude.{ℕ, List, [], ◌∷◌, map, length, ltb, eqb}
use Rattle.planes.specs.Lists.{from}
use Rattle.planes.specs.Refusals.{when, ◌▷◌}
use Rattle.model.specs.declared.Pass.{Pass}
use Rattle.model.specs.Calls.{numbers_refusal}
use Rattle.listformat.specs.declared.Edition.{Edition}
use Rattle.listformat.specs.declared.Edition.TheVariants.{First, Second}
use Rattle.listformat.specs.Format.{edition_of, record_start, count_of, pass_at, greatest_count, form_at}
use Rattle.listformat.specs.Format.{head_refusal}

abbrev pub first_refusal : List ℕ → ℕ
first_refusal [] = 0
first_refusal (k ∷ ks) = k ▷ first_refusal ks

-- 17, then the refusals of the pass's numbers, for the record that starts at index i
unfoldable pub record_refusal : Edition → List ℕ → ℕ → ℕ
record_refusal e bs i = form_at e bs i ▷ numbers_refusal (pass_at e bs i)

-- the refusal of each record, in order
unfoldable pub record_refusals : List ℕ → List ℕ
record_refusals bs =
    map (λ j. record_refusal (edition_of bs) bs (record_start (edition_of bs) j)) (from 0 (count_of bs))

unfoldable pub list_refusal : List ℕ → ℕ
list_refusal bs = head_refusal bs ▷ first_refusal (record_refusals bs)

-- 16: more passes than a list may have
abbrev pub count_refusal : ℕ → ℕ
count_refusal count = when (ltb greatest_count count) 16

unfoldable pub passes_refusal : List Pass → ℕ
passes_refusal ss = count_refusal (length ss) ▷ first_refusal (map numbers_refusal ss)

-- 20: version 1 has no place for a pass with eight neighbours
abbrev pub place_refusal : Edition → Pass → ℕ
place_refusal First s = when (eqb s.neighbours 8) 20
place_refusal Second s = 0

unfoldable pub places_refusal : Edition → List Pass → ℕ
places_refusal e ss = first_refusal (map (place_refusal e) ss)
