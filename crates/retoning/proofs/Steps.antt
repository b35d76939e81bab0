-- What becomes of one component: it is left as it is, or retoned; and which components are small or lone. Assumes
-- nothing.
use Prim.Native.Nat.{ℕ, ◌≤◌}
use mathlib.Core.Path.{◌≡◌, refl, sym, ap, subst, ◌∙◌}
use mathlib.Core.Logic.{inl, inr}
use mathlib.Core.Bool.{Bool, true, false, cond, not, ◌&&◌, true≢false}
use mathlib.Core.List.{List}
use native.Mathlib.Omega.{arith}
use lib.ListN.{length}
use lib.Dec.{leb, ltb}
use borrow.Author.Tests.{le-leb, lt-leb, ltb-true, ltb-false}
use mir.Val.{bool_byte}
use Rattle.planes.specs.Lists.{at}
use Rattle.planes.proofs.Tests.{decide, or_none}
use Rattle.tones.specs.Tones.{kept, tone}
use Rattle.histograms.specs.declared.Measures.{Measures}
use Rattle.histograms.specs.Histograms.{values, Alike, Gathered}
use Rattle.histograms.proofs.Components.{queue_size}
use Rattle.tones.specs.Tables.{ToneTable}
use Rattle.tones.specs.Lone.{lone}
use Rattle.model.specs.declared.Pass.{Pass}
use Rattle.model.specs.Passes.{sufficient, changes, kept_back, retone}
use Rattle.painting.specs.Painting.{number, On, Painted}
use Rattle.painting.specs.declared.Next.{Next}
use Rattle.painting.specs.declared.Sides.{Sides}
use Rattle.retoning.specs.Retoning.{small, inert, one_if, alone_by, Toned, Done}
use Rattle.retoning.specs.declared.Treatment.{Treatment}
use Rattle.retoning.proofs.Inert.{inert_still, inert_leaves, inert_kept, lively_stays, inert_alike}

-- ## One component

cond_not : (t : Bool) (x y : ℕ) → cond t x y ≡ cond (not t) y x
cond_not true x y = refl
cond_not false x y = refl

-- the number that a flag is converted to
as_number : (t : Bool) → bool_byte t ≡ one_if t
as_number true = refl
as_number false = refl

twice : (t : Bool) → not (not t) ≡ t
twice true = refl
twice false = refl

not_less : (m k : ℕ) → cond (ltb m k) 0 1 ≡ one_if (leb k m)
not_less m k = elim (decide (ltb m k)) [
  | inl d ↦ rw d (sym (ap one_if (lt-leb k m (ltb-true m k d))))
  | inr d ↦ rw d (sym (ap one_if (le-leb k m (ltb-false m k d))))
]

module _ (s : Pass) (vs : List ℕ) {m : ℕ} (size : length vs ≡ m) where
  large : s.area ≤ m → changes s vs ≡ not (kept s.rule s.a s.b vs)
  unfolding changes
  large h = ap (◌&& not (kept s.rule s.a s.b vs)) (ap (leb s.area) size ∙ le-leb s.area m h)

  kept-large : s.area ≤ m → kept_back s vs ≡ kept s.rule s.a s.b vs
  unfolding kept_back
  kept-large h = ap (◌&& kept s.rule s.a s.b vs) (ap (leb s.area) size ∙ le-leb s.area m h)

  -- a component of the least area that has the values of the rule's table
  toned : {plane marks queue plane' marks' table : List ℕ} {t : Next} {r : Sides} {c : Bool} → s.area ≤ m
      → ToneTable s.rule s.a s.b vs plane queue table m c
      → Painted (at table) t plane marks queue plane' marks' m r → Toned s vs plane queue plane' m
  unfolding retone
  toned {plane} {queue = queue} h T P = record {
    size = P.size;
    drawn = λ i l. P.drawn i l ∙ T.entry i l ∙ cond_not (kept s.rule s.a s.b vs) _ _
        ∙ ap (λ (t : Bool). cond t (tone s.rule s.a s.b vs (at plane (at queue i))) (at plane (at queue i)))
        (sym (large h));
    stays = λ p f. (P.stays p f).0;
  }

module _ (s : Pass) (t : Next) {vs ws : List ℕ} (A : Alike vs ws) where
  -- an inert component is left as it is, and kept back unless it is too small
  pub left_alone : {plane marks queue : List ℕ} {m : ℕ} (r : Treatment) → length vs ≡ m
      → r ≡ alone_by (ltb m s.area) → inert s ws ≡ true → Done s t vs plane marks queue plane marks m r
  unfolding retone
  left_alone {m = m} r size told e =
      let inert-too : inert s vs ≡ true = inert_alike s vs ws A ∙ e in
      let still : changes s vs ≡ false = inert_still s vs inert-too in
      let many : cond (ltb m s.area) 0 1 ≡ one_if (sufficient s vs) =
      not_less m s.area ∙ ap (λ (k : ℕ). one_if (leb s.area k)) (sym size) in
      record {
        toned = record { size = refl; drawn = λ i l. rw still; stays = λ p f. refl };
        retones = ap (λ (r : Treatment). r.retoned) told ∙ rw still;
        keeps = ap (λ (r : Treatment). r.kept) told ∙ many ∙ ap one_if (sym (inert_kept s vs inert-too));
        leaves_it = ap (λ (r : Treatment). r.left) told ∙ many ∙ ap one_if (sym (inert_leaves s vs inert-too));
        size = refl;
        drawn = λ i l. rw inert-too;
        stays = λ p f. refl;
        none = λ side c f. absurd (true≢false (sym inert-too ∙ f));
      }

  -- another gets its tones and its next marks
  pub done : {plane marks queue plane' marks' table : List ℕ} {m : ℕ} {c : Bool} (r : Treatment)
      → length vs ≡ m → s.area ≤ m → inert s ws ≡ false → ToneTable s.rule s.a s.b vs plane queue table m c
      → Painted (at table) t plane marks queue plane' marks' m r.sides
      → r.retoned ≡ bool_byte c → r.kept ≡ bool_byte (not c) → r.left ≡ 0
      → Done s t vs plane marks queue plane' marks' m r
  done {c = c} r size h e T P retoned kept left =
      let not-inert : inert s vs ≡ false = inert_alike s vs ws A ∙ e in
      record {
        toned = toned s vs size h T P;
        retones = retoned ∙ as_number c ∙ ap one_if (T.answer ∙ sym (large s vs size h));
        keeps = kept ∙ as_number (not c) ∙ ap (λ (u : Bool). one_if (not u)) T.answer
            ∙ ap one_if (twice _ ∙ sym (kept-large s vs size h));
        leaves_it = left ∙ ap one_if (sym (lively_stays s vs not-inert));
        size = P.marks_size;
        drawn = λ i l. rw not-inert (P.numbered i l ∙ ap (number t) (sym (P.drawn i l)));
        stays = λ p f. (P.stays p f).1;
        none = λ side c _ i l o. P.none side c i l (subst (On t side) (P.drawn i l) o);
      }

-- ## Small and lone components

-- one that is not inert has the least area
pub lively_large : (s : Pass) (vs : List ℕ) → inert s vs ≡ false → s.area ≤ length vs
unfolding inert small
lively_large s vs e = ltb-false (length vs) s.area (or_none (ltb (length vs) s.area) (lone s.rule vs) e).0

-- ## A gathered component

module _ {plane queue counts : List ℕ} {c : Measures} {a b : ℕ} (G : Gathered plane queue counts c a b) where
  pub gathered_some : 1 ≤ length (values plane queue c.size)
  gathered_some = omega (arith, G.component.some, G.measured.size)

  pub gathered_size : {vs : List ℕ} → Alike vs (values plane queue c.size) → length vs ≡ c.size
  gathered_size A = queue_size plane queue G.component.room A
