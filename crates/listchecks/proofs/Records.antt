-- Where a record of a list stands whose head is not refused, as the functions of `listformat` ask it. Assumes nothing.
--
--   head_stands     the head is there
--   record_begins   the record is one of no more than the greatest count
--   record_stands   it stands in the list, and so do its fields
--   record_there, record_first   what finds these
use Rattle.std.proofs.Common.{◌≡◌, ℕ, ◌+◌, ◌<◌, ◌≤◌, List, length, sym, subst, arith}
use Rattle.planes.proofs.Refusals.{refused_by, passed_first}
use Rattle.listformat.specs.declared.Edition.{Edition}
use Rattle.listformat.specs.Format.{record_length, fields_length, head_length, record_start, count_of, edition_of}
use Rattle.listformat.specs.Format.{greatest_count, head_refusal}
use Rattle.listformat.proofs.Format.{headed_long, record-inside, fields_within}

module _ (bs : List ℕ) (fine : head_refusal bs ≡ 0) where
  pub head_stands : head_length ≤ length bs
  head_stands = headed_long bs fine

  pub record_begins : (j : ℕ) → j < count_of bs → j ≤ greatest_count
  record_begins j h = (record-inside bs j fine h).0

  pub record_stands : (j : ℕ) → j < count_of bs → (e : Edition) (i : ℕ) → e ≡ edition_of bs → i ≡ record_start e j
      → (i + fields_length ≤ length bs) × (i + record_length e ≤ length bs)
  record_stands j h e i d f =
      let whole = (record-inside bs j fine h).1 in
      let inside : i + record_length e ≤ length bs =
      subst (λ (n : ℕ). n + record_length e ≤ length bs) (sym f)
      (subst (λ (e : Edition). record_start e j + record_length e ≤ length bs) (sym d) whole) in
      (omega (arith, inside, fields_within e), inside)

-- what finds them
pub ruleset record_there = (head_stands, record_begins, record_stands)

pub ruleset record_first = (head_stands, record_begins, record_stands, refused_by, passed_first)
