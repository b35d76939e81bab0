-- The byte format of a pass list, as functions that compute. Definitions only.
--
-- A list is the mark MLP, the version and the count of its records, both 16-bit, then a record for each pass: a, b, the
-- rule (0 plain, 1 limited, 2 affine), a byte that is zero for plain and limited and the segments for affine, the least
-- area (32-bit) and two 16-bit numbers, which are low and high, k and 0, or smin and smax. Of each number the low byte
-- comes first. There are two editions: in version 1 a record has these 12 bytes, and its pass takes the four
-- neighbours; in version 2 the number of neighbours and three zero bytes follow them.
--
--   Layout, layout      what an edition lays down: version, length of a record, and places of what version 2 has
--                       besides
--   upper_place, …      the places of the fields that both editions have
--   number16, number32  the number that stands at an index of a byte list
--   head_length, record_start
--                       the length of a list's head, and where a record starts
--   version_of, count_of  the numbers of a list's head
--   edition_of            the edition that a list's version names
--   lower_end, upper_end, least_area, numbers_at, neighbours_at
--                       the fields of the record that starts at an index; the fourth are the numbers of its rule
--   pass_at              the pass of the record that starts at an index
--   passes_of            the passes of a list, in order
--   malformed_at, form_at a record that stands for no pass, and its refusal, 17
--   head_refusal  the refusal of a list's mark, version, count and length
--   decode        the passes of a list in this format, and nothing of any other list
--   encode        the list of some passes, in an edition
--   Bytes         a list of bytes
--   Storable      a pass whose numbers fit the fields of an edition's record
--   Listable      some passes that a list of an edition can hold
use Rattle.std.specs.Prelude.{ℕ, ◌+◌, ◌*◌, ◌/◌, ◌%◌, ◌≤◌, ◌<◌, ◌≡◌, Bool, not, ◌&&◌, ◌||◌, cond, List, [], ◌∷◌, ◌++◌}
use Rattle.std.specs.Prelude.{map, length, ltb, eqb}
use Rattle.std.proofs.Math.Option.{Option, none, some}
use Rattle.planes.specs.Lists.{from, every, at}
use Rattle.planes.specs.Refusals.{when, ◌▷◌}
use Rattle.tones.specs.declared.RuleNumbers.{RuleNumbers}
use Rattle.tones.specs.Numbers.{rule_of, malformed, numbers_of, RuleFits}
use Rattle.model.specs.declared.Pass.{Pass}
use Rattle.model.specs.Runs.{All}
use Rattle.listformat.specs.declared.Edition.{Edition}
use Rattle.listformat.specs.declared.Edition.TheVariants.{First, Second}

-- ## What an edition lays down

-- the version in the head, the length of a record, the place of the number of neighbours in it, where it has one, and
-- the places of its zero bytes
pub record Layout : Type 0 where
  pub version : ℕ
  pub record_length_lem : ℕ
  pub neighbours : Option ℕ
  pub zeros : List ℕ

abbrev pub layout : Edition → Layout
layout First = record { version = 1; record_length_lem = 12; neighbours = none; zeros = [] }
layout Second = record { version = 2; record_length_lem = 16; neighbours = some 12; zeros = 13 ∷ 14 ∷ 15 ∷ [] }

abbrev pub other : Edition → Edition
other First = Second
other Second = First

abbrev pub version : Edition → ℕ
version e = (layout e).version

abbrev pub record_length : Edition → ℕ
record_length e = (layout e).record_length_lem

-- the places of the fields that both have: a stands at 0, and these take the first 12 bytes
abbrev pub upper_place : ℕ
upper_place = 1

abbrev pub rule_place : ℕ
rule_place = 2

abbrev pub extra_place : ℕ
extra_place = 3

abbrev pub area_place : ℕ
area_place = 4

abbrev pub first_place : ℕ
first_place = 8

abbrev pub second_place : ℕ
second_place = 10

abbrev pub fields_length : ℕ
fields_length = 12

-- ## Reading

-- the 16-bit number at index i
abbrev pub number16 : List ℕ → ℕ → ℕ
number16 bs i = at bs i + 256 * at bs (i + 1)

-- the 32-bit number at index i
abbrev pub number32 : List ℕ → ℕ → ℕ
number32 bs i = number16 bs i + 65536 * number16 bs (i + 2)

-- ## The head

abbrev pub head_length : ℕ
head_length = 7

-- where record j starts
abbrev pub record_start : Edition → ℕ → ℕ
record_start e j = head_length + record_length e * j

-- the places of its numbers, after the mark
abbrev pub version_place : ℕ
version_place = 3

abbrev pub count_place : ℕ
count_place = 5

abbrev pub version_of : List ℕ → ℕ
version_of bs = number16 bs version_place

-- how many records a list says that it has
abbrev pub count_of : List ℕ → ℕ
count_of bs = number16 bs count_place

-- the edition whose version a list names; where it is that of none, the list is refused, whichever this is
unfoldable pub edition_of : List ℕ → Edition
edition_of bs = cond (eqb (version_of bs) (version Second)) Second First

-- ## A record

-- the fields of the record that starts at index i: a, b, the least area
abbrev pub lower_end : List ℕ → ℕ → ℕ
lower_end bs i = at bs i

abbrev pub upper_end : List ℕ → ℕ → ℕ
upper_end bs i = at bs (i + upper_place)

abbrev pub least_area : List ℕ → ℕ → ℕ
least_area bs i = number32 bs (i + area_place)

-- the numbers of its rule
abbrev pub numbers_at : List ℕ → ℕ → RuleNumbers
numbers_at bs i = record {
  code = at bs (i + rule_place);
  extra = at bs (i + extra_place);
  first = number16 bs (i + first_place);
  second = number16 bs (i + second_place);
}

-- the number of neighbours that stands at a place of it, or 4 where there is none
abbrev pub neighbours_in : Option ℕ → List ℕ → ℕ → ℕ
neighbours_in none bs i = 4
neighbours_in (some place) bs i = at bs (i + place)

abbrev pub neighbours_at : Edition → List ℕ → ℕ → ℕ
neighbours_at e = neighbours_in (layout e).neighbours

-- ## The passes

-- the pass of the record that starts at index i
unfoldable pub pass_at : Edition → List ℕ → ℕ → Pass
pass_at e bs i = record {
  a = lower_end bs i;
  b = upper_end bs i;
  area = least_area bs i;
  rule = rule_of (numbers_at bs i);
  neighbours = neighbours_at e bs i;
}

-- the pass of record j
abbrev pub pass_here : List ℕ → ℕ → Pass
pass_here bs j = pass_at (edition_of bs) bs (record_start (edition_of bs) j)

unfoldable pub passes_of : List ℕ → List Pass
passes_of bs = map (pass_here bs) (from 0 (count_of bs))

-- ## What is in the format

-- the greatest count of passes, in a file of either edition and in memory
abbrev pub greatest_count : ℕ
greatest_count = 320

-- one of the zero bytes of the record at index i is set
abbrev pub zero_set : Edition → List ℕ → ℕ → Bool
zero_set e bs i = not (every (λ place. eqb (at bs (i + place)) 0) (layout e).zeros)

-- the numbers of the record at index i stand for no rule, or a zero byte is set
abbrev pub malformed_at : Edition → List ℕ → ℕ → Bool
malformed_at e bs i = malformed (numbers_at bs i) || zero_set e bs i

-- 17: the record at index i is malformed
abbrev pub form_at : Edition → List ℕ → ℕ → ℕ
form_at e bs i = when (malformed_at e bs i) 17

-- record j is not malformed
abbrev pub well : List ℕ → ℕ → Bool
well bs j = not (malformed_at (edition_of bs) bs (record_start (edition_of bs) j))

-- the mark is not MLP, or the version is that of no edition
unfoldable pub misnamed : List ℕ → Bool
misnamed bs =
    not (eqb (at bs 0) 77) || not (eqb (at bs 1) 76) || not (eqb (at bs 2) 80)
    || not (eqb (version_of bs) (version (edition_of bs)))

-- the count is above the greatest, or the length is not that of so many records
unfoldable pub miscounted : List ℕ → Bool
miscounted bs = ltb greatest_count (count_of bs) || not (eqb (length bs) (record_start (edition_of bs) (count_of bs)))

-- 16 for fewer bytes than a head has, then 15 for the mark and the version, then 16 for the count and the length
unfoldable pub head_refusal : List ℕ → ℕ
head_refusal bs = when (ltb (length bs) head_length) 16 ▷ when (misnamed bs) 15 ▷ when (miscounted bs) 16

unfoldable pub decode : List ℕ → Option (List Pass)
decode bs = cond (eqb (head_refusal bs) 0 && every (well bs) (from 0 (count_of bs))) (some (passes_of bs)) none

-- ## Writing

abbrev pub bytes16 : ℕ → List ℕ
bytes16 x = x % 256 ∷ x / 256 % 256 ∷ []

abbrev pub bytes32 : ℕ → List ℕ
bytes32 x = bytes16 x ++ bytes16 (x / 65536)

-- the fields of a pass that both editions have
unfoldable pub encode_fields : Pass → List ℕ
encode_fields s =
    let n = numbers_of s.rule in
    s.a % 256 ∷ s.b % 256 ∷ n.code % 256 ∷ n.extra % 256
    ∷ (bytes32 s.area ++ (bytes16 n.first ++ bytes16 n.second))

-- what follows them, for a number of neighbours
abbrev pub encode_rest : Edition → ℕ → List ℕ
encode_rest First number = []
encode_rest Second number = number % 256 ∷ 0 ∷ 0 ∷ 0 ∷ []

-- the record of a pass
unfoldable pub encode_pass : Edition → Pass → List ℕ
encode_pass e s = encode_fields s ++ encode_rest e s.neighbours

unfoldable pub encode_passes : Edition → List Pass → List ℕ
encode_passes e [] = []
encode_passes e (s ∷ ss) = encode_pass e s ++ encode_passes e ss

-- the head of a list of so many records
abbrev pub encode_head : Edition → ℕ → List ℕ
encode_head e count = 77 ∷ 76 ∷ 80 ∷ (bytes16 (version e) ++ bytes16 count)

unfoldable pub encode : Edition → List Pass → List ℕ
encode e ss = encode_head e (length ss) ++ encode_passes e ss

-- ## Bytes and passes that fit

-- every member is a byte; past the end stands 0
pub record Bytes (bs : List ℕ) : Type 0 where
  pub each : (i : ℕ) → at bs i < 256

-- a number of neighbours that an edition has a place for: version 1 means 4
abbrev pub NeighboursFit : Edition → ℕ → Type 0
NeighboursFit First number = number ≡ 4
NeighboursFit Second number = number < 256

-- the numbers of a pass fit the fields of a record, as those of a pass in memory do but for version 1's neighbours
pub record Storable (e : Edition) (s : Pass) : Type 0 where
  pub a_fits : s.a < 256
  pub b_fits : s.b < 256
  pub area_fits : s.area < 4294967296
  pub rule_fits : RuleFits s.rule
  pub neighbours_fit : NeighboursFit e s.neighbours

-- some passes that a list can hold
pub record Listable (e : Edition) (ss : List Pass) : Type 0 where
  pub few : length ss ≤ greatest_count
  pub each : All (Storable e) ss
