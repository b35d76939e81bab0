-- Effect on a set of pixels that does to it what a run of passes does: nothing, work after work, and the equalising of
-- a connected set, which is the pass on its section. For any symmetric neighbour relation. Assumes nothing.
use Prim.Native.Nat.{ℕ, ◌+◌, ◌≤◌, ◌<◌}
use mathlib.Core.Path.{◌≡◌, refl, sym, ap, ap₂, subst, ◌∙◌}
use mathlib.Core.Logic.{inl, inr}
use mathlib.Core.Bool.{Bool, true, false, cond, not, ◌&&◌}
use mathlib.Core.List.{List, [], ◌∷◌, ◌++◌, map}
use mathlib.Mathlib.Data.Bool.Basic.{and_elim_left, and_elim_right, and_intro}
use native.Mathlib.Omega.{arith}
use lib.ListN.{length, length-map}
use borrow.Author.Tests.{le-leb}
use Rattle.planes.specs.Lists.{from, count, at}
use Rattle.planes.specs.Shapes.{Symmetric}
use Rattle.planes.specs.Neighbours.{Near, linked, component, first}
use Rattle.planes.proofs.Tests.{decide, and_middle, same_test}
use Rattle.planes.proofs.Lists.{all_at, length_all, map_same}
use Rattle.planes.proofs.Counts.{keep_same, count_same, count_none, count_one}
use Rattle.planes.proofs.Links.{link_sym}
use Rattle.planes.proofs.Fewer.{first_one, first_of}
use Rattle.tones.specs.Tones.{tone, kept}
use Rattle.model.specs.declared.Pass.{Pass}
use Rattle.model.specs.Passes.{within, inside, component_values, sufficient, changes, kept_back, retone, passed}
use Rattle.model.specs.Passes.{counted, component_count, pass_count, pass_kept}
use Rattle.model.specs.Runs.{run, run_count, run_kept, All}
use Rattle.model.specs.Effects.{Effect, always, run_effect}
use Rattle.model.specs.Published.{between, amid, painted, histogram_equalization}
use Rattle.model.proofs.Components.{in_tone, inside_sym}
use Rattle.model.proofs.Order.{passed_at}
use Rattle.model.proofs.Apart.{linked_same}
use Rattle.model.proofs.Recursion.{run_append}
use Rattle.model.proofs.Sets.{member_keep, pixels_of, amid_is, linked_to}
use Rattle.model.proofs.Parts.{InRange, Shows, small_run, run_outside, length_run}

-- ## What work does

-- from t to t' the pixels of A become what the passes make of them in m, all others stay, and the counts are added
pub record Does (near : Near) (n : ℕ) (A : ℕ → Bool) (ss : List Pass) (m : List ℕ) (t t' : Effect) : Type 0 where
  pub size : length t'.plane ≡ n
  pub on : (x : ℕ) → x < n → A x ≡ true → at t'.plane x ≡ at (run (always near) ss m) x
  pub off : (x : ℕ) → x < n → A x ≡ false → at t'.plane x ≡ at t.plane x
  pub sum : t'.retoned ≡ t.retoned + run_count (always near) ss m
  pub kept_sum : t'.kept ≡ t.kept + run_kept (always near) ss m

pub does_same : {near : Near} {n : ℕ} {A B : ℕ → Bool} {ss : List Pass} {m : List ℕ} {t t' : Effect}
    → ((x : ℕ) → x < n → A x ≡ B x) → Does near n A ss m t t' → Does near n B ss m t t'
does_same same D = record {
  size = D.size;
  on = λ x hx b. D.on x hx (same x hx ∙ b);
  off = λ x hx b. D.off x hx (same x hx ∙ b);
  sum = D.sum;
  kept_sum = D.kept_sum;
}

module _ (near : Near) (symm : Symmetric near) (n : ℕ) (A : ℕ → Bool) where
  -- nothing is done to a set that has less than the least area
  pub idle_does : {lo hi area : ℕ} {t : Effect} {m : List ℕ} → Shows n lo hi A t.plane m
      → ((x : ℕ) → x < n → A x ≡ true → count A (from 0 n) < area)
      → (ss : List Pass) → All (InRange lo hi area) ss → Does near n A ss m t t
  idle_does {lo} {hi} {area} {t} {m} S few ss fits =
      let idle = small_run near symm n lo hi area A few m S.size S.off ss fits in
      record {
        size = S.whole;
        on = λ x hx a. sym (ap (λ (e : Effect). at e.plane x) idle ∙ S.on x hx a);
        off = λ x hx a. refl;
        sum = omega (arith, ap (λ (e : Effect). e.retoned) idle);
        kept_sum = omega (arith, ap (λ (e : Effect). e.kept) idle);
      }

  -- work after work is the run after the run
  pub does_append : {xs ys : List Pass} {m : List ℕ} {t t₁ t₂ : Effect} → Does near n A xs m t t₁
      → Does near n A ys (run (always near) xs m) t₁ t₂ → Does near n A (xs ++ ys) m t t₂
  does_append {xs} {ys} {m} D E = record {
    size = E.size;
    on = λ x hx a. E.on x hx a ∙ sym (ap (λ (e : Effect). at e.plane x) (run_append (always near) xs ys m));
    off = λ x hx a. E.off x hx a ∙ D.off x hx a;
    sum = omega (arith, D.sum, E.sum, ap (λ (e : Effect). e.retoned) (run_append (always near) xs ys m));
    kept_sum = omega (arith, D.kept_sum, E.kept_sum, ap (λ (e : Effect). e.kept) (run_append (always near) xs ys m));
  }

  pub does_shows : {lo hi area : ℕ} {ss : List Pass} {m : List ℕ} {t t' : Effect} → Shows n lo hi A t.plane m
      → All (InRange lo hi area) ss → Does near n A ss m t t' → Shows n lo hi A t'.plane (run (always near) ss m)
  does_shows {lo} {hi} {area} {ss} {m} S fits D = record {
    whole = D.size;
    size = length_run (always near) ss m ∙ S.size;
    on = λ x hx a. sym (D.on x hx a);
    off = λ x hx a.
        ap (between lo hi) (run_outside near symm n lo hi area ss fits m x (omega (arith, S.size)) (S.off x hx a))
        ∙ S.off x hx a;
  }

-- ## Equalising a piece is the pass

-- a connected set of pixels in [a, b], not empty
pub record Piece (near : Near) (n a b : ℕ) (A : ℕ → Bool) (p : List ℕ) : Type 0 where
  pub among : (x : ℕ) → x < n → A x ≡ true → between a b (at p x) ≡ true
  pub joined : (x y : ℕ) → x < n → y < n → A x ≡ true → A y ≡ true → linked (amid near (pixels_of n A)) n x y ≡ true
  pub pixel : ℕ
  pub below : pixel < n
  pub holds : A pixel ≡ true

-- the same pixels, by another test
pub piece_same : {near : Near} {n a b : ℕ} {A B : ℕ → Bool} {p : List ℕ} → ((x : ℕ) → x < n → A x ≡ B x)
    → Piece near n a b A p → Piece near n a b B p
piece_same {near} {n} {A = A} {B} same P =
    let list : pixels_of n A ≡ pixels_of n B = keep_same A B 0 n (λ x _ h. same x (omega arith)) in
    record {
      among = λ x hx e. P.among x hx (same x hx ∙ e);
      joined = λ x y hx hy d e.
          subst (λ (S : List ℕ). linked (amid near S) n x y ≡ true) list
          (P.joined x y hx hy (same x hx ∙ d) (same y hy ∙ e));
      pixel = P.pixel;
      below = P.below;
      holds = sym (same P.pixel P.below) ∙ P.holds;
    }

module _ (near : Near) (symm : Symmetric near) (n : ℕ) (A : ℕ → Bool) (s : Pass) (t : Effect)
    (m : List ℕ) (S : Shows n s.a s.b A t.plane m)
    (P : Piece near n s.a s.b A t.plane) (large : s.area ≤ count A (from 0 n)) where
  abbrev vs : List ℕ
  vs = map (at t.plane) (pixels_of n A)

  -- whether the old values are kept back
  abbrev back : Bool
  back = kept s.rule s.a s.b vs

  -- a pixel's new value, or else its old one
  abbrev value : ℕ → Bool → ℕ
  value x u = cond u (tone s.rule s.a s.b vs (at t.plane x)) (at t.plane x)

  abbrev In : Near
  In = inside near s m

  -- in m the section is the piece, and it is one component
  in-section : (x : ℕ) → x < n → within s (at m x) ≡ A x
  in-section x hx = elim (decide (A x)) [
    | inl a ↦ ap (within s) (S.on x hx a) ∙ P.among x hx a ∙ sym a
    | inr a ↦ S.off x hx a ∙ sym a
  ]

  links : (x y : ℕ) → x < n → y < n → linked In n x y ≡ linked (amid near (pixels_of n A)) n x y
  unfolding inside
  links x y hx hy = linked_same n In (amid near (pixels_of n A)) (λ u v hu hv.
      ap₂ (λ (x y : Bool). x && y && near u v) (in-section u hu) (in-section v hv) ∙ sym (amid_is near n A u v hu hv))
      n x y (omega arith) hx hy

  values_are : (x : ℕ) → x < n → A x ≡ true → component_values near s m x ≡ vs
  unfolding component_values component
  values_are x hx a =
      rw S.size (ap (map (at m)) (keep_same _ A 0 n (λ y _ h. all y (omega arith)))
      ∙ map_same A (at m) (at t.plane) 0 n (λ y _ h b. S.on y (omega arith) b))
    where
      all : (y : ℕ) → y < n → linked In n x y ≡ A y
      all y hy = links x y hx hy ∙ same_test (linked (amid near (pixels_of n A)) n x y) (A y)
          (λ d. linked_to near n A x y hx hy a d)
          (λ b. P.joined x y hx hy a b)

  many : sufficient s vs ≡ true
  many = le-leb s.area (length vs) (omega (arith, length-map (pixels_of n A) (at t.plane), large))

  changes-are : changes s vs ≡ not back
  unfolding changes
  changes-are = ap (◌&& not back) many

  kept-are : kept_back s vs ≡ back
  unfolding kept_back
  kept-are = ap (◌&& back) many

  tone-is : (x : ℕ) → x < n → A x ≡ true → at (passed near s m) x ≡ value x (not back)
  unfolding retone
  tone-is x hx a =
      passed_at near s m x (omega (arith, S.size))
      ∙ in_tone near s m x (in-section x hx ∙ a)
      ∙ rw (values_are x hx a, changes-are, S.on x hx a)

  counted_is : (f : List ℕ → Bool) (x : ℕ) → x < n → counted f near s m x ≡ (A x && f vs && first n In x)
  counted_is f x hx = elim (decide (A x)) [
    | inl a ↦ rw (in-section x hx, values_are x hx a, S.size) refl
    | inr a ↦ rw (in-section x hx, a) refl
  ]

  -- a piece counts once, at its first pixel, where its values pass the test
  count-is : (f : List ℕ → Bool) → component_count f near s m ≡ cond (f vs) 1 0
  unfolding component_count
  count-is f = rw S.size (count_same (counted f near s m) _ n (counted_is f) ∙ go (f vs))
    where
      turn : (i j : ℕ) → In i j ≡ In j i
      turn = inside_sym near symm s m

      go : (k : Bool) → count (λ x. A x && k && first n In x) (from 0 n) ≡ cond k 1 0
      go false =
          count_same _ (λ x. false) n (λ x hx. and_middle (A x) false (first n In x) refl) ∙ count_none (from 0 n)
      go true =
          let y = first_of In turn n P.pixel P.below in
          let d = sym (links P.pixel y.0 P.below y.1) ∙ link_sym In turn n P.pixel y.0 ∙ y.2 in
          let a = linked_to near n A P.pixel y.0 P.below y.1 P.holds d in
          count_one _ n y.0 y.1 (and_intro (and_intro a refl) y.3) (λ x hx e.
          let b = and_elim_left (A x) true (and_elim_left (A x && true) (first n In x) e) in
          first_one In turn n x y.0 (and_elim_right (A x && true) (first n In x) e) y.3
          (links x y.0 hx y.1 ∙ P.joined x y.0 hx y.1 b a))

  pub equalization_does : Does near n A (s ∷ []) m t (histogram_equalization s.rule s.a s.b (pixels_of n A) t)
  unfolding histogram_equalization run_effect painted
  equalization_does = go back refl
    where
      after : Effect
      after = record {
        plane = painted (tone s.rule s.a s.b vs) (pixels_of n A) t.plane;
        retoned = t.retoned + 1;
        kept = t.kept;
      }

      same : Effect
      same = record { plane = t.plane; retoned = t.retoned; kept = t.kept + 1 }

      after-at : (x : ℕ) → x < n → at after.plane x ≡ value x (A x)
      after-at x hx = all_at _ (length t.plane) x (omega (arith, S.whole)) ∙ ap (value x) (member_keep A n x hx)

      -- how many it counts for, where it is kept back and where it is not
      retones : (k : Bool) → back ≡ k → pass_count near s m ≡ cond k 0 1
      retones k e = count-is (changes s) ∙ ap (λ (c : Bool). cond c 1 0) (changes-are ∙ ap not e) ∙ turned k
        where
          turned : (c : Bool) → ◌≡◌ {A = ℕ} (cond (not c) 1 0) (cond c 0 1)
          turned true = refl
          turned false = refl

      keeps : (k : Bool) → back ≡ k → pass_kept near s m ≡ cond k 1 0
      keeps k e = count-is (kept_back s) ∙ ap (λ (c : Bool). cond c 1 0) (kept-are ∙ e)

      go : (k : Bool) → back ≡ k → Does near n A (s ∷ []) m t (cond k same after)
      go true e = record {
        size = S.whole;
        on = λ x hx a. sym (tone-is x hx a ∙ ap (λ (k : Bool). value x (not k)) e);
        off = λ x hx a. refl;
        sum = omega (arith, retones true e);
        kept_sum = omega (arith, keeps true e);
      }
      go false e = record {
        size = length_all _ (length t.plane) ∙ S.whole;
        on = λ x hx a.
            after-at x hx ∙ ap (value x) a ∙ sym (tone-is x hx a ∙ ap (λ (k : Bool). value x (not k)) e);
        off = λ x hx a. after-at x hx ∙ ap (value x) a;
        sum = omega (arith, retones false e);
        kept_sum = omega (arith, keeps false e);
      }
