-- The neighbours of a pixel by rows, for four and for eight neighbours: those in a row are `in_row`; in other rows they
-- are the pixels above and below the pixel itself, and with eight also those above and below the two beside it in its
-- row. So for four neighbours what `reach_column` takes is all that is next to a taken pixel. For eight it is three
-- columns; where the pixel follows another of its run, the first two are clear already. The crates that flood see
-- `four` and `eight` by their coordinates in this file alone. Assumes nothing.
use Prim.Native.Nat.{ℕ, ◌+◌, ◌*◌, ◌/◌, ◌%◌, ◌≤◌, ◌<◌}
use mathlib.Core.Path.{◌≡◌, refl, sym, ap, subst, ◌∙◌}
use mathlib.Core.Logic.{◌⊎◌, inl, inr}
use mathlib.Core.Bool.{true}
use mathlib.Core.List.{List}
use native.Mathlib.Nat.{div-add-mod'}
use native.Mathlib.Omega.{arith}
use lib.Arith.{digits_div}
use Rattle.planes.specs.Lists.{at}
use Rattle.planes.specs.Neighbours.{four, eight}
use Rattle.planes.specs.Shapes.{pixels, neighbours, SizedShape, Narrower}
use Rattle.planes.specs.declared.Shape.{Shape}
use Rattle.planes.proofs.Tests.{less_or_not}
use Rattle.planes.proofs.Neighbours.{down_of, right_of, up_of, four_sym, sides}
use Rattle.planes.proofs.Eight.{NextTo, Across, four_eight, around, across}
use Rattle.rows.specs.Rows.{in_row, row_end}
use Rattle.rows.specs.Runs.{Taken}
use Rattle.rows.proofs.Rows.{row_bounds, in_row_lem, in_row_next, in_row_sym}
use Rattle.rows.proofs.Taken.{taken_room, taken_was}
use Rattle.spreading.specs.Spreads.{Left, Right, column, Clear, Reaches, Spread, ColumnReached, Reachable}
use Rattle.spreading.specs.Spreads.{Spreadable, Begun, RunBegun, SpreadOn}
use Rattle.spreading.proofs.Spreading.{none_yet, row_ends, next_column}
use Rattle.spreading.proofs.Columns.{column_below, column_above, column_cases}

-- ## Neighbours in a row, and in a column, are among the four and the eight

module _ (w : ℕ) (wide : 1 ≤ w) where
  right_is : (p : ℕ) → (p + 1) / w ≡ p / w → four w p (p + 1) ≡ true
  right_is p e =
      let bounds = row_bounds w (p + 1) wide in
      let same = ap (◌* w) e in
      right_of w p wide (omega (arith, div-add-mod' p w))

  row-four : Narrower (in_row w) (four w)
  row-four p q e =
      let row = (in_row_lem w p q e).0 in
      elim (in_row_lem w p q e).1 [
        | inl d ↦ subst (λ (x : ℕ). four w p x ≡ true) d (right_is p (ap (◌/ w) d ∙ row))
        | inr d ↦ four_sym w p q ∙ subst (λ (x : ℕ). four w q x ≡ true) d (right_is q (ap (◌/ w) d ∙ sym row))
      ]

  column-four : Narrower (column w) (four w)
  column-four p q e = elim (column_cases w p q e) [
    | inl d ↦ rw d (down_of w p wide)
    | inr d ↦ up_of w p q wide d
  ]

  pub row_eight : Narrower (in_row w) (eight w)
  row_eight p q e = four_eight w p q (row-four p q e)

  -- the pixels next to p in its row are neighbours in it
  next-in-row : (p q : ℕ) → NextTo w (p % w) p q → in_row w p q ≡ true
  next-in-row p q (inl e) =
      let d = e.0 in
      let h = e.1 in
      in_row_next w (p / w) p q (row_bounds w p wide).0 (omega (arith, div-add-mod' p w)) d
  next-in-row p q (inr e) =
      let d = e.0 in
      let h = e.1 in
      in_row_sym w p q
      ∙ in_row_next w (p / w) q p (omega (arith, div-add-mod' p w)) (row_bounds w p wide).1 (sym d)

  -- what is in the column of the pixel itself, or of one next to it in its row, is one of the eight
  across-eight : (p s q : ℕ) → (s ≡ p) ⊎ NextTo w (p % w) p s → column w s q ≡ true → eight w p q ≡ true
  across-eight p s q l e = across w p wide q (record { middle = s; line = l; beyond = column_cases w s q e })

-- the shape's own neighbours
pub row_neighbours : (z : Shape) → 1 ≤ z.w → Narrower (in_row z.w) (neighbours z)
unfolding neighbours
row_neighbours z wide = row-four z.w wide

column_neighbours : (z : Shape) → 1 ≤ z.w → Narrower (column z.w) (neighbours z)
unfolding neighbours
column_neighbours z wide = column-four z.w wide

-- each of them is next to the pixel in its row, or in its column
neighbour_cases : (z : Shape) → 1 ≤ z.w → (p q : ℕ) → neighbours z p q ≡ true
    → (in_row z.w p q ≡ true) ⊎ (column z.w p q ≡ true)
unfolding neighbours
neighbour_cases z wide p q e = elim (sides z.w p wide q e) [
  | inl f ↦ inl (next-in-row z.w wide p q f)
  | inr (inl f) ↦ inr (column_below z.w p q f)
  | inr (inr f) ↦ inr (column_above z.w p q f)
]

-- ## The pixels beside p in its row

module _ (w p : ℕ) (wide : 1 ≤ w) where
  pub left_line : {l : ℕ} → Left (p / w * w) p l → (l ≡ p) ⊎ NextTo w (p % w) p l
  left_line f = elim (less_or_not (p / w * w) p) [
    | inl h ↦ inr (inr (f.1 h, omega (arith, div-add-mod' p w)))
    | inr h ↦ inl (f.0 h)
  ]

  pub right_line : {r : ℕ} → Right (row_end w p) p r → (r ≡ p) ⊎ NextTo w (p % w) p r
  right_line f = elim (less_or_not (p + 1) (row_end w p)) [
    | inl h ↦ inr (inl (f.1 h, omega (arith, div-add-mod' p w)))
    | inr h ↦ inl (f.0 h)
  ]

  -- the one before p in its row is left of it
  is-left : (l : ℕ) → l + 1 ≡ p → 0 < p % w → Left (p / w * w) p l
  is-left l d h = (λ e. absurd (omega (arith, div-add-mod' p w)), λ e. d)

-- there is one pixel left of another
one_left : {row p l m : ℕ} → Left row p l → Left row p m → l ≡ m
one_left {row} {p} L M = elim (less_or_not row p) [
  | inl h ↦ omega (arith, L.1 h, M.1 h)
  | inr h ↦ L.0 h ∙ sym (M.0 h)
]

-- ## What the steps require

module _ {marks queue : List ℕ} {z : Shape} {code p tail : ℕ}
    (S : Spreadable marks queue z code p tail) where
  -- pixels were taken meanwhile
  pub still_spreadable : {P : ℕ → Type 0} {tail' : ℕ} {marks' queue' : List ℕ}
      → Taken P (pixels z) code marks queue tail marks' queue' tail' → Spreadable marks' queue' z code p tail'
  still_spreadable T =
      let was = taken_was S.reachable.room T in
      record {
        reachable = record {
          inside = S.reachable.inside;
          off = λ e. S.reachable.off (was p e);
          room = taken_room S.reachable.room T;
        };
        shut = λ x e d. S.shut x e (was x d);
      }

  -- p was begun already
  pub begun_before : Begun z.w (pixels z) code marks p
      → RunBegun z.w (pixels z) code p marks queue tail marks queue tail
  begun_before B = record { reaches = none_yet; begun = B }

module _ {marks queue : List ℕ} {z : Shape} {code p tail : ℕ} (size : SizedShape z)
    (S : Spreadable marks queue z code p tail) where
  -- a pixel that is p or next to it in its row has not the code
  pub beside_reachable : {s : ℕ} → (s ≡ p) ⊎ NextTo z.w (p % z.w) p s → Reachable marks queue z code s tail
  beside_reachable {s} l = record {
    inside = inside l;
    off = off l;
    room = S.reachable.room;
  }
    where
      inside : (s ≡ p) ⊎ NextTo z.w (p % z.w) p s → s < pixels z
      inside (inl e) = omega (arith, S.reachable.inside)
      inside (inr (inl e)) =
          let d = e.0 in
          let h = e.1 in
          omega (arith, row_ends z size p S.reachable.inside, div-add-mod' p z.w)
      inside (inr (inr e)) = let d = e.0 in omega (arith, S.reachable.inside)

      off : (s ≡ p) ⊎ NextTo z.w (p % z.w) p s → at marks s ≡ code → ⊥
      off (inl e) d = S.reachable.off (sym (ap (at marks) e) ∙ d)
      off (inr e) d = S.shut s (next-in-row z.w size.wide p s e) d

  abbrev w : ℕ
  w = z.w

  abbrev n : ℕ
  n = pixels z

  wide : 1 ≤ w
  wide = size.wide

  -- ## By four neighbours

  pub spread_four : {tail' : ℕ} {marks' queue' : List ℕ} → ColumnReached w n code p marks queue tail marks' queue' tail'
      → Spread (neighbours z) (neighbours z) w n code p marks queue tail marks' queue' tail'
  spread_four C =
      let reaches = next_column (row_neighbours z wide) S.reachable none_yet (column_neighbours z wide p) C in
      record {
        reaches = reaches;
        closed = λ q h e d. elim (neighbour_cases z wide p q e) [
          | inl f ↦ S.shut q f (taken_was S.reachable.room reaches.taken q d)
          | inr f ↦ C.closed q h f d
        ];
      }

  -- ## By eight neighbours

  -- further pixels were taken above and below s, which is p or next to it in its row
  module _ {s tail₁ tail₂ : ℕ} {marks₁ queue₁ marks₂ queue₂ : List ℕ}
      (K : Reaches (eight w) (eight w) w n code p marks queue tail marks₁ queue₁ tail₁)
      (line : (s ≡ p) ⊎ NextTo w (p % w) p s)
      (C : ColumnReached w n code s marks₁ queue₁ tail₁ marks₂ queue₂ tail₂) where
    more-reaches : Reaches (eight w) (eight w) w n code p marks queue tail marks₂ queue₂ tail₂
    more-reaches =
        next_column (row_eight w wide) S.reachable K (λ x. across-eight w wide p s x line) C

    -- what was clear stays so
    still-clear : (q : ℕ) → Clear w n code marks₁ q → Clear w n code marks₂ q
    still-clear q f x h e d = f x h e (taken_was (taken_room S.reachable.room K.taken) C.reaches.taken x d)

  -- the columns of the pixel left of p and of p itself were reached
  pub run_begun : {l tail₁ tail₂ : ℕ} {marks₁ queue₁ marks₂ queue₂ : List ℕ} → Left (p / w * w) p l
      → ColumnReached w n code l marks queue tail marks₁ queue₁ tail₁
      → ColumnReached w n code p marks₁ queue₁ tail₁ marks₂ queue₂ tail₂
      → RunBegun w n code p marks queue tail marks₂ queue₂ tail₂
  run_begun {l} {marks₂ = marks₂} L C D =
      let first = more-reaches none_yet (left_line w p wide L) C in
      record {
        reaches = more-reaches first (inl refl) D;
        begun = record {
          own = D.closed;
          before = λ m M.
              subst (Clear w n code marks₂) (one_left L M) (still-clear first (inl refl) D l C.closed);
        };
      }

  -- then the column of the pixel right of p was
  module _ {r tail₁ tail₂ : ℕ} {marks₁ queue₁ marks₂ queue₂ : List ℕ}
      (B : RunBegun w n code p marks queue tail marks₁ queue₁ tail₁) (R : Right (row_end w p) p r)
      (C : ColumnReached w n code r marks₁ queue₁ tail₁ marks₂ queue₂ tail₂) where
    line : (r ≡ p) ⊎ NextTo w (p % w) p r
    line = right_line w p wide R

    all-reaches : Reaches (eight w) (eight w) w n code p marks queue tail marks₂ queue₂ tail₂
    all-reaches = more-reaches B.reaches line C

    own-clear : Clear w n code marks₂ p
    own-clear = still-clear B.reaches line C p B.begun.own

    left-clear : (l : ℕ) → Left (p / w * w) p l → Clear w n code marks₂ l
    left-clear l L = still-clear B.reaches line C l (B.begun.before l L)

    -- p is clear, and so are the pixels next to it in its row
    line_clear : (s : ℕ) → (s ≡ p) ⊎ NextTo w (p % w) p s → Clear w n code marks₂ s
    line_clear s (inl e) = subst (Clear w n code marks₂) (sym e) own-clear
    line_clear s (inr (inl (d, h))) =
        let is : r ≡ s = R.1 (omega (arith, div-add-mod' p w)) ∙ sym d in
        subst (Clear w n code marks₂) is C.closed
    line_clear s (inr (inr (d, h))) = left-clear s (is-left w p wide s d h)

    across-column : (q : ℕ) (a : Across w (p % w) p q) → column w a.middle q ≡ true
    across-column q a = elim a.beyond [
      | inl f ↦ column_below w a.middle q f
      | inr f ↦ column_above w a.middle q f
    ]

    -- the pixel left of r is p, or that left of p
    before-right : (l : ℕ) → Left (r / w * w) r l → Clear w n code marks₂ l
    before-right l L = elim (less_or_not (p + 1) (row_end w p)) [
      | inl h ↦
          let next = R.1 h in
          let row : r / w ≡ p / w = row-of-next h next in
          let is : p ≡ l = omega (arith, L.1 (omega (arith, ap (◌* w) row, div-add-mod' p w))) in
          subst (Clear w n code marks₂) is own-clear
      | inr h ↦ left-clear l (subst (λ (x : ℕ). Left (x / w * w) x l) (R.0 h) L)
    ]
      where
        row-of-next : p + 1 < row_end w p → r ≡ p + 1 → r / w ≡ p / w
        row-of-next h e =
            let x : r ≡ p / w * w + (p % w + 1) = omega (arith, div-add-mod' p w) in
            ap (◌/ w) x ∙ digits_div (p / w) (omega (arith, div-add-mod' p w))

    pub spread_on : SpreadOn w n code p marks queue tail marks₂ queue₂ (record { tail = tail₂; reached = r })
    spread_on = record {
      spread = record {
        reaches = all-reaches;
        closed = λ q h e d. elim (around w p wide q e) [
          | inl f ↦ S.shut q (next-in-row w wide p q f) (taken_was S.reachable.room all-reaches.taken q d)
          | inr a ↦ line_clear a.middle a.line q h (across-column q a) d
        ];
      };
      begun = record { own = C.closed; before = before-right };
    }
