-- Worked examples of the refusals of a list: each way in which it is refused, and the order of the refusals.
-- Definitions only.
use Rattle.std.specs.Prelude.{ℕ, ◌≡◌, List, [], ◌∷◌, ◌++◌, set}
use Rattle.listchecks.specs.Refusals.{list_refusal}

-- the head of a list of n records, n below 256
abbrev pub head : ℕ → List ℕ
head n = 77 ∷ 76 ∷ 80 ∷ 1 ∷ 0 ∷ n ∷ 0 ∷ []

-- the record of example Q
abbrev pub record_q : List ℕ
record_q = 0 ∷ 127 ∷ 0 ∷ 0 ∷ 1 ∷ 0 ∷ 0 ∷ 0 ∷ 0 ∷ 0 ∷ 156 ∷ 99 ∷ []

-- a record of the affine rule: 2 segments, slopes 100 and 10,000
abbrev pub record_s : List ℕ
record_s = 0 ∷ 255 ∷ 2 ∷ 2 ∷ 1 ∷ 0 ∷ 0 ∷ 0 ∷ 100 ∷ 0 ∷ 16 ∷ 39 ∷ []

-- the head of a list of version 2 of n records, n below 256, the record of example Q in it, and that of example J with
-- 8
abbrev pub head2 : ℕ → List ℕ
head2 n = 77 ∷ 76 ∷ 80 ∷ 2 ∷ 0 ∷ n ∷ 0 ∷ []

abbrev pub record_q2 : List ℕ
record_q2 = record_q ++ (4 ∷ 0 ∷ 0 ∷ 0 ∷ [])

abbrev pub record_j2 : List ℕ
record_j2 = record_q ++ (8 ∷ 0 ∷ 0 ∷ 0 ∷ [])

abbrev pub one2 : List ℕ → List ℕ
one2 r = head2 1 ++ r

abbrev pub two2 : List ℕ → List ℕ → List ℕ
two2 r s = head2 2 ++ (r ++ s)

abbrev pub one : List ℕ → List ℕ
one r = head 1 ++ r

abbrev pub two : List ℕ → List ℕ → List ℕ
two r s = head 2 ++ (r ++ s)

pub record ListRefusals : Type 0 where
  pub no_passes : list_refusal (head 0) ≡ 0
  pub two_passes : list_refusal (two record_q record_q) ≡ 0
  pub limited : list_refusal (one (0 ∷ 127 ∷ 1 ∷ 0 ∷ 1 ∷ 0 ∷ 0 ∷ 0 ∷ 232 ∷ 3 ∷ 0 ∷ 0 ∷ [])) ≡ 0
  pub affine : list_refusal (one record_s) ≡ 0
  -- 16: under 7 bytes
  pub nothing : list_refusal [] ≡ 16
  pub mark_alone : list_refusal (77 ∷ 76 ∷ 80 ∷ []) ≡ 16
  pub six_bytes : list_refusal (77 ∷ 76 ∷ 81 ∷ 1 ∷ 0 ∷ 0 ∷ []) ≡ 16
  -- 15: the mark or the version, before the count
  pub other_mark : list_refusal (77 ∷ 76 ∷ 81 ∷ 1 ∷ 0 ∷ 0 ∷ 0 ∷ []) ≡ 15
  pub other_version : list_refusal (77 ∷ 76 ∷ 80 ∷ 1 ∷ 1 ∷ 0 ∷ 0 ∷ []) ≡ 15
  pub mark_before_count : list_refusal (77 ∷ 76 ∷ 81 ∷ 1 ∷ 0 ∷ 65 ∷ 1 ∷ []) ≡ 15
  -- 16: the count or the length
  pub many : list_refusal (77 ∷ 76 ∷ 80 ∷ 1 ∷ 0 ∷ 65 ∷ 1 ∷ []) ≡ 16
  pub short : list_refusal (head 1) ≡ 16
  pub long : list_refusal (head 0 ++ record_q) ≡ 16
  pub length_before_record : list_refusal (head 2 ++ set record_q 2 3) ≡ 16
  -- 17: the rule, the zero byte, limited's second number
  pub rule_three : list_refusal (one (set record_q 2 3)) ≡ 17
  pub zero_byte : list_refusal (one (set record_q 3 1)) ≡ 17
  pub second_number : list_refusal (one (set record_q 2 1)) ≡ 17
  -- 5 to 8, 18: the pass's own numbers
  pub interval : list_refusal (one (set record_q 0 128)) ≡ 5
  pub area_zero : list_refusal (one (set record_q 4 0)) ≡ 6
  pub area_large : list_refusal (one (set record_q 6 16)) ≡ 6
  pub low_above_high : list_refusal (one (set record_q 9 100)) ≡ 7
  pub high_large : list_refusal (one (set record_q 10 157)) ≡ 7
  pub clip_large : list_refusal (one (0 ∷ 127 ∷ 1 ∷ 0 ∷ 1 ∷ 0 ∷ 0 ∷ 0 ∷ 233 ∷ 3 ∷ 0 ∷ 0 ∷ [])) ≡ 8
  pub no_segments : list_refusal (one (set record_s 3 0)) ≡ 18
  pub segments_large : list_refusal (one (set record_s 3 17)) ≡ 18
  pub smin_above_smax : list_refusal (one (set record_s 9 40)) ≡ 18
  pub slope_large : list_refusal (one (set record_s 10 17)) ≡ 18
  pub area_before_slopes : list_refusal (one (set (set record_s 4 0) 3 0)) ≡ 6
  -- the first bad record decides, and in a record 17 comes first
  pub form_first : list_refusal (one (set (set record_q 0 128) 3 1)) ≡ 17
  pub first_record : list_refusal (two (set record_q 0 128) (set record_q 3 1)) ≡ 5
  pub last_record : list_refusal (two record_q (set record_q 3 1)) ≡ 17
  -- version 2: 16 bytes a record; 17 for each of the three zero bytes, before all others; 19 last
  pub second : list_refusal (two2 record_q2 record_j2) ≡ 0
  pub second_no_passes : list_refusal (head2 0) ≡ 0
  pub second_short : list_refusal (one2 record_q) ≡ 16
  pub first_long : list_refusal (one record_q2) ≡ 16
  pub second_zero : list_refusal (one2 (set record_q2 13 1)) ≡ 17
  pub second_zero_2 : list_refusal (one2 (set record_q2 14 1)) ≡ 17
  pub second_zero_3 : list_refusal (one2 (set record_q2 15 1)) ≡ 17
  pub zero_before_interval : list_refusal (one2 (set (set record_q2 0 128) 15 1)) ≡ 17
  pub zero_before_neighbours : list_refusal (one2 (set (set record_q2 12 6) 13 1)) ≡ 17
  pub six_neighbours : list_refusal (one2 (set record_q2 12 6)) ≡ 19
  pub area_before_neighbours : list_refusal (one2 (set (set record_q2 12 6) 4 0)) ≡ 6
  pub third_version : list_refusal (77 ∷ 76 ∷ 80 ∷ 3 ∷ 0 ∷ 0 ∷ 0 ∷ []) ≡ 15
  pub version_high_byte : list_refusal (77 ∷ 76 ∷ 80 ∷ 2 ∷ 1 ∷ 0 ∷ 0 ∷ []) ≡ 15
