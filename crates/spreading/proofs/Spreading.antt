-- What is next to a pixel p is taken, run by run, by any relation `beside` and over any neighbour relation that has the
-- neighbours in a row. Each pixel that is reached from p is next to p, or p itself, which is taken already and so
-- reaches nothing. What was taken above and below pixels that are p or beside it in its row may be put together.
-- Assumes nothing.
use Prim.Native.Nat.{ℕ, ◌≤◌, ◌<◌}
use mathlib.Core.Path.{◌≡◌, sym, ap, subst, ◌∙◌}
use mathlib.Core.Logic.{◌⊎◌, inl, inr}
use mathlib.Core.Bool.{true}
use mathlib.Core.List.{List}
use native.Mathlib.Nat.{mul-mod_right}
use native.Mathlib.Omega.{arith}
use Rattle.planes.specs.Lists.{at}
use Rattle.planes.specs.Neighbours.{Near, here}
use Rattle.planes.specs.Shapes.{pixels, SizedShape, Narrower}
use Rattle.planes.specs.declared.Shape.{Shape}
use Rattle.planes.proofs.Tests.{less_or_not}
use Rattle.rows.specs.Rows.{in_row, row_end}
use Rattle.rows.specs.Codes.{Joined, Shut}
use Rattle.rows.specs.Runs.{Room, Taken, none, Reached}
use Rattle.rows.proofs.Rows.{row_end_le}
use Rattle.rows.proofs.Codes.{alike_on}
use Rattle.rows.proofs.Taken.{room_less, taken_kept, taken_room, taken_was, taken_map, taken_join}
use Rattle.spreading.specs.Spreads.{column, JoinedBeyond, Reaches, ColumnReached, Reachable}

-- q is next to p, or p itself
pub record Side (beside : Near) (n p q : ℕ) : Type 0 where
  pub below : q < n
  pub at_side : (q ≡ p) ⊎ (beside p q ≡ true)

pub none_yet : {beside near : Near} {w n code p tail : ℕ} {marks queue : List ℕ}
    → Reaches beside near w n code p marks queue tail marks queue tail
none_yet = record { taken = none; rows = λ k a b. absurd (omega arith) }

-- further pixels beyond p were taken
further : {beside near : Near} {w n code p tail tail' tail'' : ℕ} {marks queue marks' queue' marks'' queue'' : List ℕ}
    → Room marks queue n code tail → Reaches beside near w n code p marks queue tail marks' queue' tail'
    → Taken (JoinedBeyond beside near n marks code p) n code marks' queue' tail' marks'' queue'' tail''
    → ((k : ℕ) → tail' ≤ k → k < tail'' → Shut (in_row w) code marks'' (at queue'' k))
    → Reaches beside near w n code p marks queue tail marks'' queue'' tail''
further {w = w} {tail' = tail'} R K more rows = record {
  taken = taken_join K.taken more;
  rows = λ k a b x. elim (less_or_not k tail') [
    | inl h ↦
        let same = (taken_kept more).1 k h in
        let was = taken_was (taken_room R K.taken) more in
        λ e d. K.rows k a h x (subst (λ (y : ℕ). in_row w y x ≡ true) same e) (was x d)
    | inr h ↦ rows k h b x
  ];
}

-- a row ends within the plane
pub row_ends : (z : Shape) → SizedShape z → (q : ℕ) → q < pixels z → row_end z.w q ≤ pixels z
row_ends z size q h = row_end_le z.w (pixels z) q size.wide (mul-mod_right z.w z.h) h

module _ {beside near : Near} {z : Shape} {code p tail : ℕ} {marks queue : List ℕ}
    (size : SizedShape z) (rows-near : Narrower (in_row z.w) near) (P : Reachable marks queue z code p tail) where
  -- what `reach` requires
  pub may_reach : {q tail' : ℕ} {marks' queue' : List ℕ}
      → Reaches beside near z.w (pixels z) code p marks queue tail marks' queue' tail'
      → Side beside (pixels z) p q → Room marks' queue' (row_end z.w q) code tail'
  may_reach {q} K S = room_less (taken_room P.room K.taken) (row_end z.w q) (row_ends z size q S.below)

  -- ## A pixel was reached

  module _ {q tail' tail'' : ℕ} {marks' queue' marks'' queue'' : List ℕ}
      (K : Reaches beside near z.w (pixels z) code p marks queue tail marks' queue' tail')
      (S : Side beside (pixels z) p q)
      (T : Reached z.w code q marks' queue' tail' marks'' queue'' tail'') where
    was : (x : ℕ) → at marks' x ≡ code → at marks x ≡ code
    was = taken_was P.room K.taken

    nearby : at marks' q ≡ code → beside p q ≡ true
    nearby e = elim S.at_side [
      | inl d ↦ absurd (P.off (was p (sym (ap (at marks') d) ∙ e)))
      | inr d ↦ d
    ]

    -- what is joined to q in its row is beyond p
    beyond : (x : ℕ) → Joined (in_row z.w) (row_end z.w q) marks' code q x
        → JoinedBeyond beside near (pixels z) marks code p x
    beyond x j = record {
      next = q;
      below = S.below;
      nearby = nearby j.has;
      joined = record {
        has = was q j.has;
        chain = alike_on (in_row z.w) near (row_end z.w q) (pixels z) code marks' marks
            (row_ends z size q S.below) rows-near was here j.chain;
      };
    }

    now-taken : Taken (JoinedBeyond beside near (pixels z) marks code p) (pixels z) code marks' queue' tail'
        marks'' queue'' tail''
    now-taken = taken_map (row_ends z size q S.below) beyond T.taken

    pub now_was : (x : ℕ) → at marks'' x ≡ code → at marks' x ≡ code
    now_was = taken_was (taken_room P.room K.taken) now-taken

    pub next_reach : Reaches beside near z.w (pixels z) code p marks queue tail marks'' queue'' tail''
    next_reach = further P.room K now-taken T.rows

-- ## The pixels above and below a pixel s were reached

module _ {near : Near} {z : Shape} {code p tail : ℕ} {marks queue : List ℕ}
    (rows-near : Narrower (in_row z.w) near) (P : Reachable marks queue z code p tail)
    {s tail' tail'' : ℕ} {marks' queue' marks'' queue'' : List ℕ}
    (K : Reaches near near z.w (pixels z) code p marks queue tail marks' queue' tail')
    (beyond : (x : ℕ) → column z.w s x ≡ true → near p x ≡ true)
    (C : ColumnReached z.w (pixels z) code s marks' queue' tail' marks'' queue'' tail'') where
  had : (x : ℕ) → at marks' x ≡ code → at marks x ≡ code
  had = taken_was P.room K.taken

  -- what was reached from s is beyond p
  from-p : (x : ℕ) → JoinedBeyond (column z.w) (in_row z.w) (pixels z) marks' code s x
      → JoinedBeyond near near (pixels z) marks code p x
  from-p x b = record {
    next = b.next;
    below = b.below;
    nearby = beyond b.next b.nearby;
    joined = record {
      has = had b.next b.joined.has;
      chain = alike_on (in_row z.w) near (pixels z) (pixels z) code marks' marks (omega arith) rows-near had here
          b.joined.chain;
    };
  }

  more-taken : Taken (JoinedBeyond near near (pixels z) marks code p) (pixels z) code marks' queue' tail'
      marks'' queue'' tail''
  more-taken = taken_map (omega arith) from-p C.reaches.taken

  pub next_column : Reaches near near z.w (pixels z) code p marks queue tail marks'' queue'' tail''
  next_column = further P.room K more-taken C.reaches.rows
