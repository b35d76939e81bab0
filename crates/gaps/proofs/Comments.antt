-- Comments, by the place of the byte that ends them, and what the pieces after them leave. Assumes nothing.
use Prim.Native.Nat.{ℕ, zero, suc, ◌+◌, ◌-◌, ◌≤◌, ◌<◌}
use mathlib.Core.Path.{◌≡◌, refl, sym, ap, ◌∙◌}
use mathlib.Core.Bool.{Bool, true, false, not, cond}
use mathlib.Core.Logic.{◌⊎◌, inl, inr}
use mathlib.Core.List.{List, [], ◌∷◌}
use native.Mathlib.Omega.{arith}
use lib.Dec.{ltb}
use lib.ListN.{length, take, drop, length-drop, length-append}
use Rattle.std.specs.Prelude.{Some, None, position, slice_get}
use Rattle.std.specs.List.{position_or_len}
use Rattle.std.proofs.lemmas.List.Quantifiers.{position-Some}
use Rattle.std.proofs.lemmas.Bool.{not-false}
use Rattle.std.proofs.lemmas.List.Sums.{prefix_len_passes}
use borrow.Author.Tests.{ltb-false, not-true}
use native.Mathlib.Nat.{le_of_eq}
use lib.Seq.{take_all}
use Rattle.planes.specs.Lists.{at}
use native.Mathlib.Numerals.{add-one}
use Rattle.gaps.specs.Bytes.{is_white, not_white, ends_comment, move_for}
use Rattle.gaps.specs.declared.Move.TheVariants.{Take, Skip, Comment, Stop}
use Rattle.gaps.specs.Parsers.{failed, parsed, next, take_while, drop_while}
use Rattle.gaps.specs.Gaps.{rest_of_comment, pieces, comment_and_then, begun, gap}
use Rattle.gaps.proofs.Bytes.{skipped, opened, taken, stopped}
use Rattle.gaps.proofs.Parsers.{while_split}
use Rattle.gaps.proofs.Gaps.{pieces_white, pieces_sign, pieces_stop, pieces_none}
use Rattle.gaps.proofs.Gaps.{comment_end, comment_text, comment_unended}

-- ## One comment

ends_at : (bytes : List ℕ) (k : ℕ) → k < length bytes → ends_comment (at bytes k) ≡ true
    → ((j : ℕ) → j < k → ends_comment (at bytes j) ≡ false) → rest_of_comment bytes ≡ parsed tt (drop (suc k) bytes)
unfolding rest_of_comment
ends_at [] k h e none = absurd (omega arith)
ends_at (b ∷ bytes) zero h e none = rw e
ends_at (b ∷ bytes) (suc k) h e none =
    rw (none 0 (omega arith)) (ends_at bytes k (omega arith) e (λ j l. none (suc j) (omega arith)))

ends_never : (bytes : List ℕ) → ((j : ℕ) → j < length bytes → ends_comment (at bytes j) ≡ false)
    → rest_of_comment bytes ≡ failed
unfolding rest_of_comment
ends_never [] none = refl
ends_never (b ∷ bytes) none = rw (none 0 (omega arith)) (ends_never bytes (λ j l. none (suc j) (omega arith)))

-- by the first byte that ends it
pub comment_ended : (bytes : List ℕ) (k : ℕ) → position ends_comment bytes ≡ Some k
    → (rest_of_comment bytes ≡ parsed tt (drop (k + 1) bytes)) × (k < length bytes)
comment_ended bytes k e =
    let (inside, end, text) = position-Some ends_comment bytes k 0 e in
    (rw (add-one k) (ends_at bytes k inside end text), inside)

-- no byte passes a test that has no first one
never : (p : ℕ → Bool) (bytes : List ℕ) → position p bytes ≡ None → (j : ℕ) → j < length bytes → p (at bytes j) ≡ false
never p bytes e j h =
    let end = past _ refl e in
    not-true _ (prefix_len_passes (λ b. not (p b)) bytes j 0 (omega (arith, end)))
  where
    past : (t : Bool) → ltb (position_or_len p bytes) (length bytes) ≡ t
        → cond t (Some (position_or_len p bytes)) None ≡ None → length bytes ≤ position_or_len p bytes
    past true d h = cc
    past false d h = ltb-false _ _ d

pub comment_endless : (bytes : List ℕ) → position ends_comment bytes ≡ None → rest_of_comment bytes ≡ failed
comment_endless bytes e = ends_never bytes (never ends_comment bytes e)

-- all that stands from a place on
pub rest_from : (bytes : List ℕ) (k : ℕ) → take (length bytes - k) (drop k bytes) ≡ drop k bytes
rest_from bytes k = take_all _ (drop k bytes) (le_of_eq (length-drop k bytes))

-- what finds what follows a comment
pub ruleset ends = (comment_ended, comment_endless, rest_from)

-- ## Whitespace

-- up to a place before which all is whitespace, and where another byte stands or none
white_run : (bytes : List ℕ) (k : ℕ) → k ≤ length bytes → (k < length bytes → is_white (at bytes k) ≡ false)
    → ((j : ℕ) → j < k → is_white (at bytes j) ≡ true) → drop_while is_white bytes ≡ drop k bytes
white_run [] zero h other white = refl
white_run [] (suc k) h other white = absurd (omega arith)
white_run (b ∷ bytes) zero h other white = rw (other (omega arith))
white_run (b ∷ bytes) (suc k) h other white =
    let after = white_run bytes k (omega arith) (λ l. other (omega arith)) (λ j l. white (suc j) (omega arith)) in
    rw (white 0 (omega arith)) after

-- by the first byte that is another
pub white_ended : (bytes : List ℕ) (k : ℕ) → position not_white bytes ≡ Some k
    → (drop_while is_white bytes ≡ drop k bytes) × (k < length bytes)
white_ended bytes k e =
    let (inside, other, white) = position-Some not_white bytes k 0 e in
    (white_run bytes k (omega arith) (λ l. not-true _ other) (λ j l. not-false _ (white j l)), inside)

pub white_whole : (bytes : List ℕ) → position not_white bytes ≡ None
    → drop_while is_white bytes ≡ drop (length bytes) bytes
white_whole bytes e =
    let white : (j : ℕ) → j < length bytes → is_white (at bytes j) ≡ true =
    λ j l. not-false _ (never not_white bytes e j l) in
    white_run bytes (length bytes) (omega arith) (λ l. absurd (omega arith)) white

-- what finds what follows whitespace
pub ruleset whites = (white_ended, white_whole, rest_from)

-- ## A comment and the pieces after it

rest_then : (bytes : List ℕ) → comment_and_then bytes ≡ next (rest_of_comment bytes) (λ (u : Unit {0}). pieces)
unfolding rest_of_comment
rest_then [] = rw comment_unended
rest_then (b ∷ bytes) = go (ends_comment b) refl (rest_then bytes)
  where
    go : (t : Bool) → ends_comment b ≡ t → comment_and_then bytes
        ≡ next (rest_of_comment bytes) (λ (u : Unit {0}). pieces)
        → comment_and_then (b ∷ bytes) ≡ next (rest_of_comment (b ∷ bytes)) (λ (u : Unit {0}). pieces)
    go true e h = rw (comment_end b bytes e, e)
    go false e h = rw (comment_text b bytes e, e) h

-- it leaves less than all
pub rest_shorter : (bytes rest : List ℕ) → rest_of_comment bytes ≡ parsed tt rest → length rest < length bytes
unfolding rest_of_comment
rest_shorter [] rest e = cc
rest_shorter (b ∷ bytes) rest e = go (ends_comment b) e (rest_shorter bytes rest)
  where
    go : (t : Bool) → cond t (parsed tt bytes) (rest_of_comment bytes) ≡ parsed tt rest
        → (rest_of_comment bytes ≡ parsed tt rest → length rest < length bytes) → length rest < suc (length bytes)
    go true h less = let same : bytes ≡ rest = cc in rw same (omega arith)
    go false h less = omega (arith, less h)

-- ## Whitespace and the pieces after it

pub white_pieces : (bytes : List ℕ) → pieces (drop_while is_white bytes) ≡ pieces bytes
white_pieces [] = refl
white_pieces (b ∷ bytes) = go (is_white b) refl (white_pieces bytes)
  where
    go : (t : Bool) → is_white b ≡ t → pieces (drop_while is_white bytes) ≡ pieces bytes
        → pieces (drop_while is_white (b ∷ bytes)) ≡ pieces (b ∷ bytes)
    go true e h = rw e (h ∙ sym (pieces_white b bytes e))
    go false e h = rw e refl

-- it leaves no more than all
pub white_shorter : (bytes : List ℕ) → length (drop_while is_white bytes) ≤ length bytes
white_shorter bytes =
    let parts = length-append (take_while is_white bytes) (drop_while is_white bytes) in
    let whole = ap length (while_split is_white bytes) in
    omega (arith, parts, whole)

-- ## By the reader's moves

module _ (bytes : List ℕ) {b : ℕ} {after : List ℕ} (is : bytes ≡ b ∷ after) where
  pub pieces_skip : move_for b ≡ Skip → pieces bytes ≡ pieces after
  pieces_skip e = rw is (pieces_white b after (skipped b e))

  comment_is : move_for b ≡ Comment → pieces bytes ≡ next (rest_of_comment after) (λ (u : Unit {0}). pieces)
  comment_is e =
      let sign = opened b e in
      rw is (pieces_sign b after sign.0 sign.1 ∙ rest_then after)

  pub pieces_unended : move_for b ≡ Comment → rest_of_comment after ≡ failed → pieces bytes ≡ failed
  pieces_unended e lost = comment_is e ∙ rw lost

  pub pieces_comment : {rest : List ℕ} → move_for b ≡ Comment → rest_of_comment after ≡ parsed tt rest
      → pieces bytes ≡ pieces rest
  pieces_comment e left = comment_is e ∙ rw left

  pub pieces_absent : move_for b ≡ Stop → pieces bytes ≡ parsed tt bytes
  pieces_absent e =
      let none = stopped b e in
      rw is (pieces_stop b after none.0 none.1)

  pub pieces_digit : {d : ℕ} → move_for b ≡ Take d → pieces bytes ≡ parsed tt bytes
  pieces_digit e =
      let none = taken b e in
      rw is (pieces_stop b after none.0 none.1)

pub pieces_end : (bytes : List ℕ) → length bytes ≡ 0 → pieces bytes ≡ parsed tt bytes
pieces_end [] e = pieces_none
pieces_end (b ∷ bytes) e = absurd (omega arith)

-- what finds what the pieces leave
pub ruleset steps = (
  white_pieces,
  white_shorter,
  pieces_skip,
  pieces_unended,
  pieces_comment,
  pieces_absent,
  pieces_digit,
  pieces_end,
  rest_shorter,
)

-- ## A gap

-- a gap begins with the first byte, or none does
pub gap_present : (bytes : List ℕ) {b : ℕ} → Some b ≡ slice_get bytes 0 → (move_for b ≡ Skip) ⊎ (move_for b ≡ Comment)
    → gap bytes ≡ pieces bytes
unfolding gap
gap_present [] is e = cc
gap_present (x ∷ bytes) {b} is e = rw (begins e) refl
  where
    same : b ≡ x
    same = cc

    begins : (move_for b ≡ Skip) ⊎ (move_for b ≡ Comment) → begun (x ∷ bytes) ≡ true
    begins (inl d) = rw (← same, skipped b d)
    begins (inr d) = let sign = opened b d in rw (← same, sign.0, sign.1)

pub gap_absent : (bytes : List ℕ) {b : ℕ} → Some b ≡ slice_get bytes 0 → move_for b ≡ Stop → gap bytes ≡ failed
unfolding gap
gap_absent [] is e = refl
gap_absent (x ∷ bytes) {b} is e =
    let same : b ≡ x = cc in
    let none = stopped b e in
    let begins : begun (x ∷ bytes) ≡ false = rw (← same, none.0, none.1) in
    rw begins

pub gap_digit : (bytes : List ℕ) {b d : ℕ} → Some b ≡ slice_get bytes 0 → move_for b ≡ Take d → gap bytes ≡ failed
unfolding gap
gap_digit [] is e = refl
gap_digit (x ∷ bytes) {b} is e =
    let same : b ≡ x = cc in
    let none = taken b e in
    let begins : begun (x ∷ bytes) ≡ false = rw (← same, none.0, none.1) in
    rw begins

-- what finds whether a gap begins
pub ruleset begins = (gap_present, gap_absent, gap_digit)
