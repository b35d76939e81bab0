-- The invariant of a flood, from its first pixel to its last, over any neighbour relation that has the neighbours in a
-- row. The entries in use are pixels of the component, each once, and all that has changed is that they lost their
-- marks; no pixel beside them in their rows has the code, and no neighbour of those already spread from. When all have
-- been spread from, the entries are closed under neighbours, so they are the whole component. Assumes nothing.
use Prim.Native.Nat.{ℕ, zero, suc, ◌+◌, ◌≤◌, ◌<◌}
use mathlib.Core.Path.{◌≡◌, refl, sym, ap, ap₂, subst, ◌∙◌}
use mathlib.Core.Logic.{◌⊎◌, inl, inr}
use mathlib.Core.Bool.{Bool, true, false, cond, ◌&&◌, ◌||◌, true≢false, or-false}
use mathlib.Core.List.{List}
use mathlib.Mathlib.Data.Bool.Basic.{or_inr}
use native.Mathlib.Nat.{eq-or-lt_of_le, mul-mod_right}
use native.Mathlib.Numerals.{add-one}
use native.Mathlib.Omega.{arith}
use lib.Dec.{eqb}
use lib.ListN.{length, take, set, length-set}
use lib.Seq.{get_or-set_same, get_or-set_other, length-take-le}
use borrow.Author.Tests.{eq-eqb, ne_eqb}
use Rattle.planes.specs.Lists.{at, from}
use Rattle.planes.specs.Neighbours.{Near, Chain, here, step}
use Rattle.planes.specs.Enumerations.{among, Enumerates}
use Rattle.planes.specs.Shapes.{pixels, SizedShape, Narrower}
use Rattle.planes.specs.declared.Shape.{Shape}
use Rattle.planes.proofs.Tests.{same_test, less_or_not}
use Rattle.planes.proofs.Counts.{count_all, count_le, length_from}
use Rattle.planes.proofs.Stores.{at_set}
use Rattle.planes.proofs.Neighbours.{filled}
use Rattle.planes.proofs.Enumerations.{among_at, among_place, count_among, entries_size}
use Rattle.rows.specs.Rows.{in_row, row_end}
use Rattle.rows.specs.Codes.{alike, Joined, Shut}
use Rattle.rows.specs.Runs.{Room, Taken, none, one, Reached}
use Rattle.rows.proofs.Rows.{row_end_le}
use Rattle.rows.proofs.Codes.{alike_of, alike_to, alike_near, alike_on}
use Rattle.rows.proofs.Taken.{room_for, room_less, room_whole, taken_kept, taken_room, taken_was, taken_map}
use Rattle.components.specs.Regions.{region}
use Rattle.spreading.specs.Spreads.{JoinedBeyond, Spread}
use Rattle.components.specs.Floods.{Floodable, Flooded}
use Rattle.components.proofs.Regions.{region_below, region_linked}

-- the first `tail` entries are pixels of the component of `start`, each once; they lost their marks, and nothing else
-- has changed since marks₀ and queue₀
pub record Searched (near : Near) (n code start : ℕ) (marks₀ queue₀ marks queue : List ℕ) (tail : ℕ) : Type 0 where
  pub below : (k : ℕ) → k < tail → at queue k < n
  pub fresh : (k : ℕ) → k < tail → among queue k (at queue k) ≡ false
  pub reached : (k : ℕ) → k < tail → Chain (alike near marks₀ code) n start (at queue k)
  pub had : (k : ℕ) → k < tail → at marks₀ (at queue k) ≡ code
  pub marks_are : (p : ℕ) → at marks p ≡ cond (among queue tail p) 0 (at marks₀ p)
  pub rest : (k : ℕ) → tail ≤ k → at queue k ≡ at queue₀ k
  pub marks_length : length marks ≡ length marks₀
  pub queue_length : length queue ≡ length queue₀

-- no pixel beside them in their rows has the code, and no neighbour of the first `head`
pub record Flooding (near : Near) (w n code start : ℕ) (marks₀ queue₀ marks queue : List ℕ) (head tail : ℕ)
    : Type 0 where
  pub searched : Searched near n code start marks₀ queue₀ marks queue tail
  pub room : Room marks queue n code tail
  pub begun : at marks start ≡ code → ⊥
  pub order : head ≤ tail
  pub rows : (k : ℕ) → k < tail → Shut (in_row w) code marks (at queue k)
  pub closed : (k q : ℕ) → k < head → q < n → near (at queue k) q ≡ true → at marks q ≡ code → ⊥

-- ## A pixel q that has the code is taken

module _ {near : Near} {n code start : ℕ} {marks₀ queue₀ marks queue : List ℕ} {tail : ℕ}
    (I : Searched near n code start marks₀ queue₀ marks queue tail) (R : Room marks queue n code tail)
    (q : ℕ) (h : q < n) (e : at marks q ≡ code) where
  abbrev marks' : List ℕ
  marks' = set marks q 0

  abbrev queue' : List ℕ
  queue' = set queue tail q

  space : tail < length queue
  space = room_for R q h e

  mark-by : (t : Bool) → among queue tail q ≡ t → at marks q ≡ cond t 0 (at marks₀ q)
  mark-by t d = I.marks_are q ∙ ap (λ (t : Bool). cond t 0 (at marks₀ q)) d

  free : among queue tail q ≡ false
  free = go (among queue tail q) refl
    where
      go : (t : Bool) → among queue tail q ≡ t → t ≡ false
      go true d = absurd (omega (arith, R.real, sym e ∙ mark-by true d))
      go false d = refl

  had-it : at marks₀ q ≡ code
  had-it = sym (mark-by false free) ∙ e

  other : (k : ℕ) → (k ≡ tail → ⊥) → at queue' k ≡ at queue k
  other k d = get_or-set_other queue tail k q 0 d

  among-old : (k p : ℕ) → k ≤ tail → among queue' k p ≡ among queue k p
  unfolding among
  among-old zero p l = refl
  among-old (suc k) p l =
      ap₂ ◌||◌ (among-old k p (omega arith)) (ap (eqb p) (other k (λ z. absurd (omega arith))))

  among-new : (p : ℕ) → among queue' (tail + 1) p ≡ (among queue tail p || eqb p q)
  unfolding among
  among-new p =
      rw add-one (ap₂ ◌||◌ (among-old tail p (omega arith)) (ap (eqb p) (get_or-set_same queue tail q 0 space)))

  new-marks : (p : ℕ) → at marks' p ≡ cond (among queue' (tail + 1) p) 0 (at marks₀ p)
  new-marks p = at_set (λ (x : ℕ). x ≡ Mark (among queue' (tail + 1) p)) marks q p 0 (omega (arith, R.covered))
      (λ d. sym (ap Mark (among-new p ∙ or_inr (among queue tail p) (eqb p q) (eq-eqb p q d))))
      (λ d. I.marks_are p
      ∙ sym (ap Mark (among-new p ∙ ap (among queue tail p ||◌) (ne_eqb p q d) ∙ or-false (among queue tail p))))
    where
      Mark : Bool → ℕ
      Mark t = cond t 0 (at marks₀ p)

  new-fresh : (k : ℕ) → (k ≡ tail) ⊎ (k < tail) → among queue' k (at queue' k) ≡ false
  new-fresh k (inl d) = rw (d, get_or-set_same queue tail q 0 space, among-old tail q (omega arith)) free
  new-fresh k (inr l) =
      ap (among queue' k) (other k (λ z. absurd (omega arith))) ∙ among-old k (at queue k) (omega arith) ∙ I.fresh k l

  -- what holds of the entries in use and of q holds of the entries in use afterwards
  entries : (P : ℕ → Type 0) → ((k : ℕ) → k < tail → P (at queue k)) → P q
      → (k : ℕ) → k < tail + 1 → P (at queue' k)
  entries P f p k l = at_set P queue tail k q space (λ _. p) (λ o. f k (omega arith))

  push : Chain (alike near marks₀ code) n start q → Searched near n code start marks₀ queue₀ marks' queue' (tail + 1)
  push chain = record {
    below = entries (◌< n) I.below h;
    fresh = λ k l. let m : k ≤ tail = omega arith in new-fresh k (eq-or-lt_of_le m);
    reached = entries (Chain (alike near marks₀ code) n start) I.reached chain;
    had = entries (λ x. at marks₀ x ≡ code) I.had had-it;
    marks_are = new-marks;
    rest = λ k l. other k (λ z. absurd (omega arith)) ∙ I.rest k (omega arith);
    marks_length = rw length-set I.marks_length;
    queue_length = rw length-set I.queue_length;
  }

-- pixels to which a chain leads are taken
take_all : {near : Near} {n code start tail : ℕ} {marks₀ queue₀ marks queue : List ℕ} {tail' : ℕ}
    {marks' queue' : List ℕ} → Searched near n code start marks₀ queue₀ marks queue tail → Room marks queue n code tail
    → Taken (Chain (alike near marks₀ code) n start) n code marks queue tail marks' queue' tail'
    → Searched near n code start marks₀ queue₀ marks' queue' tail'
take_all I R none = I
take_all I R (one {q} t c h e) = push (take_all I R t) (taken_room R t) q h e c

-- ## The first run

nothing_yet : (near : Near) (n code start : ℕ) (marks queue : List ℕ)
    → Searched near n code start marks queue marks queue 0
unfolding among
nothing_yet near n code start marks queue = record {
  below = λ k l. absurd (omega arith);
  fresh = λ k l. absurd (omega arith);
  reached = λ k l. absurd (omega arith);
  had = λ k l. absurd (omega arith);
  marks_are = λ p. refl;
  rest = λ k l. refl;
  marks_length = refl;
  queue_length = refl;
}

module _ {marks queue : List ℕ} {z : Shape} {code start : ℕ} (size : SizedShape z)
    (F : Floodable marks queue z code start) where
  abbrev n : ℕ
  n = pixels z

  ends : row_end z.w start ≤ n
  ends = row_end_le z.w n start size.wide (mul-mod_right z.w z.h) F.inside

  whole : Room marks queue n code 0
  whole = room_whole marks queue n code size.few F.real F.covered F.spare

  -- what `reach` requires of the first pixel
  pub may_begin : Room marks queue (row_end z.w start) code 0
  may_begin = room_less whole (row_end z.w start) ends

  module _ {near : Near} (rows-near : Narrower (in_row z.w) near) where
    -- a chain leads to what is joined to `start` in its row
    first-chain : (x : ℕ) → Joined (in_row z.w) (row_end z.w start) marks code start x
        → Chain (alike near marks code) n start x
    first-chain x j =
        alike_on (in_row z.w) near (row_end z.w start) n code marks marks ends rows-near (λ u e. e) here j.chain

    pub flood_begin : {tail' : ℕ} {marks' queue' : List ℕ}
        → Reached z.w code start marks queue 0 marks' queue' tail'
        → Flooding near z.w n code start marks queue marks' queue' 0 tail'
    flood_begin T =
        let taken = taken_map ends first-chain T.taken in
        record {
          searched = take_all (nothing_yet near n code start marks queue) whole taken;
          room = taken_room whole taken;
          begun = T.off;
          order = omega arith;
          rows = λ k l. T.rows k (omega arith) l;
          closed = λ k q l. absurd (omega arith);
        }

-- ## One turn of the loop

-- no more entries are in use than there are pixels
pub few_entries : {near : Near} {w n code start head tail : ℕ} {marks₀ queue₀ marks queue : List ℕ}
    → Flooding near w n code start marks₀ queue₀ marks queue head tail → tail ≤ n
few_entries {n = n} {tail = tail} {queue = queue} F =
    let fits : tail ≤ length queue = omega (arith, F.room.spare) in
    omega (
      arith,
      length-take-le tail queue fits,
      count_all (take tail queue),
      count_among queue n tail F.searched.below F.searched.fresh fits (λ x. true),
      count_le (λ z. among queue tail z && true) (from 0 n),
      length_from 0 n,
    )

module _ {near : Near} {w n code start head tail : ℕ} {marks₀ queue₀ marks queue : List ℕ}
    (F : Flooding near w n code start marks₀ queue₀ marks queue head tail) (l : head < tail) where
  -- the entries in use have lost their marks
  entry-off : (k : ℕ) → k < tail → at marks (at queue k) ≡ 0
  entry-off k h =
      F.searched.marks_are (at queue k)
      ∙ ap (λ (t : Bool). cond t 0 (at marks₀ (at queue k))) (among_at queue tail k h)

  -- the one at the head has not the code
  pub head_off : at marks (at queue head) ≡ code → ⊥
  head_off e = absurd (omega (arith, F.room.real, sym (entry-off head l) ∙ e))

  -- a pixel that has the code had it at the beginning
  first-had : (x : ℕ) → at marks x ≡ code → at marks₀ x ≡ code
  first-had x e = go (among queue tail x) refl
    where
      go : (t : Bool) → among queue tail x ≡ t → at marks₀ x ≡ code
      go true d = absurd (omega (
        arith,
        F.room.real,
        sym e ∙ F.searched.marks_are x ∙ ap (λ (t : Bool). cond t 0 (at marks₀ x)) d,
      ))
      go false d = sym (F.searched.marks_are x ∙ ap (λ (t : Bool). cond t 0 (at marks₀ x)) d) ∙ e

  -- a chain leads to what is beyond the entry at the head
  from_start : (x : ℕ) → JoinedBeyond near near n marks code (at queue head) x
      → Chain (alike near marks₀ code) n start x
  from_start x b =
      let had = F.searched.had head l in
      let first = first-had b.next b.joined.has in
      let link = alike_of near code marks₀ had first b.nearby in
      alike_on near near n n code marks marks₀ (omega arith) (λ u v e. e) first-had
      (step (F.searched.reached head l) link b.below) b.joined.chain

  pub turn : {tail' : ℕ} {marks' queue' : List ℕ}
      → Spread near near w n code (at queue head) marks queue tail marks' queue' tail'
      → Flooding near w n code start marks₀ queue₀ marks' queue' (head + 1) tail'
  turn S =
      let kept = taken_kept S.reaches.taken in
      let was = taken_was F.room S.reaches.taken in
      record {
        searched = take_all F.searched F.room (taken_map (omega arith) from_start S.reaches.taken);
        room = taken_room F.room S.reaches.taken;
        begun = λ e. F.begun (was start e);
        order = omega (arith, kept.0);
        rows = λ k h x. elim (less_or_not k tail) [
          | inl d ↦ λ e c. F.rows k d x (subst (λ (y : ℕ). in_row w y x ≡ true) (kept.1 k d) e) (was x c)
          | inr d ↦ S.reaches.rows k d h x
        ];
        closed = λ k q m hq b d.
            let m' : k ≤ head = omega arith in
            let b' = subst (λ (x : ℕ). near x q ≡ true) (kept.1 k (omega arith)) b in
            elim (eq-or-lt_of_le m') [
              | inl c ↦ S.closed q hq (subst (λ (x : ℕ). near (at queue x) q ≡ true) c b') d
              | inr c ↦ F.closed k q c hq b' (was q d)
            ];
      }

-- ## The last pixel

module _ {near : Near} {w n code start : ℕ} {marks₀ queue₀ marks queue : List ℕ} {head tail : ℕ}
    (F : Flooding near w n code start marks₀ queue₀ marks queue head tail) (inside : start < n)
    (has : at marks₀ start ≡ code) (empty : tail ≤ head) where
  abbrev Link : Near
  Link = alike near marks₀ code

  -- a pixel that had the code and has it no longer is an entry
  gone : (x : ℕ) → at marks₀ x ≡ code → (at marks x ≡ code → ⊥) → among queue tail x ≡ true
  gone x e f = go (among queue tail x) refl
    where
      go : (t : Bool) → among queue tail x ≡ t → t ≡ true
      go true d = refl
      go false d = absurd (f (F.searched.marks_are x ∙ ap (λ (t : Bool). cond t 0 (at marks₀ x)) d ∙ e))

  -- the entries are closed under neighbours
  shut : (u v : ℕ) → u < n → v < n → among queue tail u ≡ true → Link u v ≡ true → among queue tail v ≡ true
  shut u v hu hv m e =
      let r = among_place queue tail u m in
      let nearby = alike_near near code marks₀ u v e in
      gone v (alike_to near code marks₀ u v e) (λ d. F.closed r.index v (omega (arith, r.below)) hv
      (subst (λ (x : ℕ). near x v ≡ true) (sym r.holds) nearby) d)

  -- and a chain leads to each
  come : (u : ℕ) → u < n → among queue tail u ≡ true → Chain Link n start u
  come u h m =
      let r = among_place queue tail u m in
      subst (Chain Link n start) r.holds (F.searched.reached r.index r.below)

  is-region : (x : ℕ) → among queue tail x ≡ region near n marks₀ code start x
  is-region x = elim (less_or_not x n) [
    | inl h ↦ filled Link n start (among queue tail) inside (gone start has F.begun) shut come x h
        ∙ sym (region_linked near n code marks₀ start x h)
    | inr h ↦ same_test (among queue tail x) (region near n marks₀ code start x)
        (λ m. let r = among_place queue tail x m in
        absurd (omega (arith, F.searched.below r.index r.below, r.holds)))
        (λ m. absurd (omega (arith, region_below near n code marks₀ start x m)))
  ]

  the-region : Enumerates queue tail n (region near n marks₀ code start)
  the-region = record {
    fits = omega (arith, F.room.spare);
    below = F.searched.below;
    inside = λ k l. sym (is-region (at queue k)) ∙ among_at queue tail k l;
    distinct = λ j k l m e.
        true≢false (sym (subst (λ (x : ℕ). among queue k x ≡ true) e (among_at queue k j l)) ∙ F.searched.fresh k m);
    every = λ p h e. among_place queue tail p (is-region p ∙ e);
  }

  pub finish : Flooded near n code start marks₀ queue₀ marks queue tail
  finish = record {
    size = entries_size the-region;
    enumerates = the-region;
    marks_are = λ p. F.searched.marks_are p ∙ ap (λ (t : Bool). cond t 0 (at marks₀ p)) (is-region p);
    rest = F.searched.rest;
    marks_length = F.searched.marks_length;
    queue_length = F.searched.queue_length;
  }
