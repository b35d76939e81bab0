-- A pass list turned into the other edition. Definitions only.
--
--   converted        the list of the same passes in the other edition
--   convert_refusal  16 for fewer bytes than a head has, 15, 16, then each record 17, 5 to 8, 18, 19, then 20, then 14
--   ConvertOutcome   the contract of `convert`: its answer, and the output after it
use Rattle.std.specs.Prelude.{ℕ, List, length}
use Rattle.planes.specs.Refusals.{◌▷◌, output_refusal}
use Rattle.planes.specs.Replies.{Reply}
use Rattle.texts.specs.Writing.{WritingOutcome}
use Rattle.listformat.specs.Format.{other, edition_of, passes_of, encode}
use Rattle.listchecks.specs.Refusals.{list_refusal, places_refusal}

unfoldable pub converted : List ℕ → List ℕ
converted bs = encode (other (edition_of bs)) (passes_of bs)

-- those of the list; 20 where a pass with eight neighbours is to become version 1; 14 for an output of so many bytes
unfoldable pub convert_refusal : List ℕ → ℕ → ℕ
convert_refusal bs output =
    list_refusal bs ▷ places_refusal (other (edition_of bs)) (passes_of bs)
    ▷ output_refusal output (length (converted bs))

-- the output has the list in the other edition from its beginning on, and beyond it what it had; a refusal changes
-- nothing
abbrev pub ConvertOutcome : (list output : List ℕ) (reply : Reply) (output' : List ℕ) → Type 0
ConvertOutcome list output = WritingOutcome (convert_refusal list (length output)) (converted list) output
