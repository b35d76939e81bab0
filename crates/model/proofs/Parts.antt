-- Passes on sections in [lo, hi], on a plane and on planes that show parts of it: a part with no neighbour in [lo, hi]
-- fares alone as it does in the plane; two such parts make up the whole, in plane and count; nothing happens to a part
-- smaller than the least area, or outside [lo, hi]. For any symmetric neighbour relation. Assumes nothing.
use Prim.Native.Nat.{ℕ, ◌+◌, ◌≤◌, ◌<◌}
use mathlib.Core.Path.{◌≡◌, refl, sym, ap, ap₂, ◌∙◌}
use mathlib.Core.Logic.{◌⊎◌, inl, inr}
use mathlib.Core.Bool.{Bool, true, false, cond, not, ◌&&◌, true≢false, and-false}
use mathlib.Core.List.{List, [], ◌∷◌, map}
use mathlib.Mathlib.Data.Bool.Basic.{and_elim_left, and_elim_right, and_intro}
use native.Mathlib.Omega.{arith}
use lib.ListN.{length}
use lib.Seq.{ext_get_or}
use lib.Dec.{leb}
use borrow.Author.Tests.{leb-true, le-leb, lt-leb}
use Rattle.planes.specs.Lists.{from, count, at}
use Rattle.planes.specs.Shapes.{Symmetric}
use Rattle.planes.specs.Neighbours.{Near, linked, component, first}
use Rattle.planes.proofs.Tests.{decide, and_middle, and_last, never, contra}
use Rattle.planes.proofs.Lists.{all_at, length_all, every_same, map_same}
use Rattle.planes.proofs.Counts.{keep_same, count_same, count_none, count_mono_from, count_sum}
use Rattle.planes.proofs.Links.{linked_iff, link_sym}
use Rattle.tones.specs.Tones.{kept}
use Rattle.model.specs.declared.Pass.{Pass}
use Rattle.model.specs.Passes.{within, inside, component_values, sufficient, changes, kept_back, new_tone, passed}
use Rattle.model.specs.Passes.{counted, component_count}
use Rattle.model.specs.Effects.{Effect, nothing, then, always, pass_effect, run_effect}
use Rattle.model.specs.Runs.{run, run_count, run_kept, All, none, more}
use Rattle.model.specs.Published.{between}
use Rattle.model.proofs.Components.{values_length, out_tone, still_tone, inside_sym}
use Rattle.model.proofs.Order.{length_passed, passed_at}
use Rattle.model.proofs.Apart.{stays}
use Rattle.model.proofs.Recursion.{all_map, effect_same, nothing_then}
use Rattle.model.proofs.Sets.{linked_in, linked_stays, Separate, separate_turn}

-- ## Passes on sections in [lo, hi]

-- a pass on a section in [lo, hi] that has the given least area
pub record InRange (lo hi area : ℕ) (s : Pass) : Type 0 where
  pub low : lo ≤ s.a
  pub high : s.b ≤ hi
  pub least : s.area ≡ area

pub range_wider : {lo hi a b area : ℕ} {ss : List Pass} → a ≤ lo → hi ≤ b → All (InRange lo hi area) ss
    → All (InRange a b area) ss
range_wider {lo} {hi} {area = area} la hb fits = all_map (λ s (F : InRange lo hi area s). record {
  low = omega (arith, F.low);
  high = omega (arith, F.high);
  least = F.least;
}) fits

-- what is in an interval is in a wider one
pub between_wider : (lo hi a b v : ℕ) → a ≤ lo → hi ≤ b → between lo hi v ≡ true → between a b v ≡ true
between_wider lo hi a b v la hb e =
    let low = leb-true lo v (and_elim_left (leb lo v) (leb v hi) e) in
    let high = leb-true v hi (and_elim_right (leb lo v) (leb v hi) e) in
    and_intro (le-leb a v (omega arith)) (le-leb v b (omega arith))

range_out : {lo hi area : ℕ} {s : Pass} → InRange lo hi area s → (v : ℕ) → between lo hi v ≡ false → within s v ≡ false
range_out {lo} {hi} {s = s} F v e = contra (between_wider s.a s.b lo hi v F.low F.high) e

-- no neighbours in the section: one of them is outside it, or they are no neighbours at all
inside_out : (near : Near) (s : Pass) (p : List ℕ) (x y : ℕ) → within s (at p y) ≡ false → inside near s p x y ≡ false
unfolding inside
inside_out near s p x y e = and_middle (within s (at p x)) (within s (at p y)) (near x y) e

inside_far : (near : Near) (s : Pass) (p : List ℕ) (x y : ℕ) → near x y ≡ false → inside near s p x y ≡ false
unfolding inside
inside_far near s p x y e = and_last (within s (at p x)) (within s (at p y)) (near x y) e

-- ## Planes that show a part

-- of n pixels, m shows those of A as they are in p, and all others outside [lo, hi]
pub record Shows (n lo hi : ℕ) (A : ℕ → Bool) (p m : List ℕ) : Type 0 where
  pub whole : length p ≡ n
  pub size : length m ≡ n
  pub on : (x : ℕ) → x < n → A x ≡ true → at m x ≡ at p x
  pub off : (x : ℕ) → x < n → A x ≡ false → between lo hi (at m x) ≡ false

pub shows_same : {n lo hi : ℕ} {A B : ℕ → Bool} {p m : List ℕ} → ((x : ℕ) → x < n → A x ≡ B x) → Shows n lo hi A p m
    → Shows n lo hi B p m
shows_same same S = record {
  whole = S.whole;
  size = S.size;
  on = λ x hx b. S.on x hx (same x hx ∙ b);
  off = λ x hx b. S.off x hx (same x hx ∙ b);
}

-- one such plane: all other pixels have the value hi + 1
pub shown : ℕ → ℕ → (ℕ → Bool) → List ℕ → List ℕ
shown n hi A p = map (λ x. cond (A x) (at p x) (hi + 1)) (from 0 n)

pub shown_shows : (n lo hi : ℕ) (A : ℕ → Bool) (p : List ℕ) → length p ≡ n → Shows n lo hi A p (shown n hi A p)
unfolding shown
shown_shows n lo hi A p e = record {
  whole = e;
  size = length_all _ n;
  on = λ x hx a. all_at _ n x hx ∙ ap (λ (t : Bool). cond t (at p x) (hi + 1)) a;
  off = λ x hx a.
      ap (between lo hi) (all_at _ n x hx ∙ ap (λ (t : Bool). cond t (at p x) (hi + 1)) a)
      ∙ ap (leb lo (hi + 1) &&◌) (lt-leb (hi + 1) hi (omega arith))
      ∙ and-false (leb lo (hi + 1));
}

-- it shows the same part of another plane that shows more of p
pub shown_part : {n lo hi : ℕ} {A B : ℕ → Bool} {p q : List ℕ} → ((x : ℕ) → x < n → A x ≡ true → B x ≡ true)
    → Shows n lo hi B p q → Shows n lo hi A q (shown n hi A p)
shown_part {n} {lo} {hi} {A} {p = p} sub S =
    let T = shown_shows n lo hi A p S.whole in
    record {
      whole = S.size;
      size = T.size;
      on = λ x hx a. T.on x hx a ∙ sym (S.on x hx (sub x hx a));
      off = T.off;
    }

-- no neighbour of a pixel of A is in [lo, hi] but not in A
abbrev pub Isolated : Near → ℕ → ℕ → ℕ → (ℕ → Bool) → List ℕ → Type 0
Isolated near n lo hi A p =
    (x y : ℕ) → x < n → y < n → A x ≡ true → A y ≡ false → near x y ≡ true → between lo hi (at p y) ≡ false

-- q and r show A and B alone, and all that p has in [lo, hi] is in A or B
pub record TwoParts (n lo hi : ℕ) (A B : ℕ → Bool) (p q r : List ℕ) : Type 0 where
  pub one : Shows n lo hi A p q
  pub other : Shows n lo hi B p r
  pub rest : (x : ℕ) → x < n → A x ≡ false → B x ≡ false → between lo hi (at p x) ≡ false

parts_turn : {n lo hi : ℕ} {A B : ℕ → Bool} {p q r : List ℕ} → TwoParts n lo hi A B p q r → TwoParts n lo hi B A p r q
parts_turn T = record { one = T.other; other = T.one; rest = λ x hx b a. T.rest x hx a b }

isolated_one : {near : Near} {n lo hi : ℕ} {A B : ℕ → Bool} {p q r : List ℕ} → Separate near n A B
    → TwoParts n lo hi A B p q r → Isolated near n lo hi A p
isolated_one w T x y hx hy a b e = T.rest y hy b (never (λ d. true≢false (sym e ∙ w.far x y hx hy a d)))

-- what is retoned or kept back has a sufficient area
changes_area : (s : Pass) (vs : List ℕ) → sufficient s vs ≡ false → changes s vs ≡ false
unfolding changes
changes_area s vs e = ap (◌&& not (kept s.rule s.a s.b vs)) e

kept_area : (s : Pass) (vs : List ℕ) → sufficient s vs ≡ false → kept_back s vs ≡ false
unfolding kept_back
kept_area s vs e = ap (◌&& kept s.rule s.a s.b vs) e

abbrev unit : Bool → ℕ
unit t = cond t 1 0

module _ (near : Near) (symm : Symmetric near) (n lo hi area : ℕ) where
  -- ## One part

  module _ (A : ℕ → Bool) (p m : List ℕ) (S : Shows n lo hi A p m) (lone : Isolated near n lo hi A p) (s : Pass)
      (F : InRange lo hi area s) where
    inside_part : (x y : ℕ) → x < n → y < n → A x ≡ true → inside near s p x y ≡ inside near s m x y
    unfolding inside
    inside_part x y hx hy a = elim (decide (A y)) [
      | inl b ↦ ap₂ (λ (v w : ℕ). within s v && within s w && near x y) (sym (S.on x hx a)) (sym (S.on y hy b))
      | inr b ↦ outside b (decide (near x y)) ∙ sym (inside_out near s m x y (range_out F (at m y) (S.off y hy b)))
    ]
      where
        outside : A y ≡ false → (near x y ≡ true) ⊎ (near x y ≡ false) → inside near s p x y ≡ false
        outside b (inl e) = inside_out near s p x y (range_out F (at p y) (lone x y hx hy a b e))
        outside b (inr e) = inside_far near s p x y e

    closed : (x y : ℕ) → x < n → y < n → A x ≡ true → inside near s m x y ≡ true → A y ≡ true
    closed x y hx hy a e = elim (decide (A y)) [
      | inl b ↦ b
      | inr b ↦ absurd (true≢false (sym e ∙ inside_out near s m x y (range_out F (at m y) (S.off y hy b))))
    ]

    link-part : (x y : ℕ) → x < n → y < n → A x ≡ true
        → linked (inside near s p) n x y ≡ linked (inside near s m) n x y
    link-part = linked_in n (inside near s p) (inside near s m) A inside_part closed

    values-part : (x : ℕ) → x < n → A x ≡ true → component_values near s p x ≡ component_values near s m x
    unfolding component_values component
    values-part x hx a =
        rw (S.whole, S.size) (ap (map (at p)) (keep_same _ _ 0 n (λ y _ h. link-part x y hx (omega arith) a))
        ∙ map_same (linked (inside near s m) n x) (at p) (at m) 0 n (λ y _ h d.
        let hy : y < n = omega arith in
        sym (S.on y hy (linked_stays n (inside near s p) (inside near s m) A inside_part closed x y hx hy a d))))

    -- a pixel of the part becomes what it becomes in the plane, and counts as it does there
    tone-part : (x : ℕ) → x < n → A x ≡ true → new_tone near s m x ≡ new_tone near s p x
    unfolding new_tone
    tone-part x hx a = rw (values-part x hx a, S.on x hx a)

    counted-part : (f : List ℕ → Bool) (x : ℕ) → x < n → A x ≡ true → counted f near s m x ≡ counted f near s p x
    unfolding first
    counted-part f x hx a = rw (values-part x hx a, S.on x hx a, S.whole, S.size)
        (ap (within s (at p x) && f (component_values near s m x) &&◌) (every_same _ _ 0 x (λ y _ h.
        ap not (link_sym (inside near s m) (inside_sym near symm s m) n y x
        ∙ sym (link-part x y hx (omega arith) a)
        ∙ link_sym (inside near s p) (inside_sym near symm s p) n x y))))

    -- the other pixels of m stay, and are not counted
    still-rest : (x : ℕ) → x < n → A x ≡ false → new_tone near s m x ≡ at m x
    still-rest x hx a = out_tone near s m x (range_out F (at m x) (S.off x hx a))

    none_rest : (f : List ℕ → Bool) (x : ℕ) → x < n → A x ≡ false → counted f near s m x ≡ false
    none_rest f x hx a = rw (range_out F (at m x) (S.off x hx a))

    shows-passed : Shows n lo hi A (passed near s p) (passed near s m)
    shows-passed = record {
      whole = length_passed near s p ∙ S.whole;
      size = length_passed near s m ∙ S.size;
      on = λ x hx a. at_passed m S.size x hx ∙ tone-part x hx a ∙ sym (at_passed p S.whole x hx);
      off = λ x hx a. ap (between lo hi) (at_passed m S.size x hx ∙ still-rest x hx a) ∙ S.off x hx a;
    }
      where
        at_passed : (q : List ℕ) → length q ≡ n → (x : ℕ) → x < n → at (passed near s q) x ≡ new_tone near s q x
        at_passed q e x hx = passed_at near s q x (omega arith)

  -- ## Two parts

  module _ (A B : ℕ → Bool) (w : Separate near n A B) (p q r : List ℕ) (T : TwoParts n lo hi A B p q r) (s : Pass)
      (F : InRange lo hi area s) where
    lone-A : Isolated near n lo hi A p
    lone-A = isolated_one w T

    lone-B : Isolated near n lo hi B p
    lone-B = isolated_one (separate_turn symm w) (parts_turn T)

    parts-passed : TwoParts n lo hi A B (passed near s p) (passed near s q) (passed near s r)
    parts-passed = record {
      one = shows-passed A p q T.one lone-A s F;
      other = shows-passed B p r T.other lone-B s F;
      rest = λ x hx a b.
          let out = T.rest x hx a b in
          let hx' : x < length p = omega (arith, T.one.whole) in
          ap (between lo hi) (passed_at near s p x hx' ∙ out_tone near s p x (range_out F (at p x) out)) ∙ out;
    }

    counts-join : (f : List ℕ → Bool)
        → component_count f near s p ≡ component_count f near s q + component_count f near s r
    unfolding component_count
    counts-join f = rw (T.one.whole, T.one.size, T.other.size)
        (count_sum (counted f near s p) (counted f near s q) (counted f near s r) 0 n
        (λ x _ h. at-pixel x (omega arith) (decide (A x)) (decide (B x))))
      where
        at-pixel : (x : ℕ) → x < n → (A x ≡ true) ⊎ (A x ≡ false) → (B x ≡ true) ⊎ (B x ≡ false)
            → unit (counted f near s p x) ≡ unit (counted f near s q x) + unit (counted f near s r x)
        at-pixel x hx (inl a) d =
            let in-A = ap unit (counted-part A p q T.one lone-A s F f x hx a) in
            let not-B = ap unit (none_rest B p r T.other lone-B s F f x hx (w.disjoint x hx a)) in
            omega arith
        at-pixel x hx (inr a) (inl b) =
            let not-A = ap unit (none_rest A p q T.one lone-A s F f x hx a) in
            let in-B = ap unit (counted-part B p r T.other lone-B s F f x hx b) in
            omega arith
        at-pixel x hx (inr a) (inr b) =
            let nowhere : counted f near s p x ≡ false = rw (range_out F (at p x) (T.rest x hx a b)) in
            let outside = ap unit nowhere in
            let not-A = ap unit (none_rest A p q T.one lone-A s F f x hx a) in
            let not-B = ap unit (none_rest B p r T.other lone-B s F f x hx b) in
            omega arith

  -- what a run makes of two parts, it makes of each alone, and the counts add up
  pub parts_run : (A B : ℕ → Bool) → Separate near n A B → (ss : List Pass) → All (InRange lo hi area) ss
      → (p q r : List ℕ) → TwoParts n lo hi A B p q r
      → TwoParts n lo hi A B (run (always near) ss p) (run (always near) ss q) (run (always near) ss r)
      × ((run_count (always near) ss p ≡ run_count (always near) ss q + run_count (always near) ss r)
      × (run_kept (always near) ss p ≡ run_kept (always near) ss q + run_kept (always near) ss r))
  unfolding run_effect
  parts_run A B w [] none p q r T = (T, (refl, refl))
  parts_run A B w (s ∷ ss) (more F fits) p q r T =
      let rest = parts_run A B w ss fits _ _ _ (parts-passed A B w p q r T s F) in
      let join = counts-join A B w p q r T s F in (
        rest.0,
        (omega (arith, rest.1.0, join (changes s)), omega (arith, rest.1.1, join (kept_back s))),
      )

  -- ## A part that is too small

  module _ (A : ℕ → Bool) (few : (x : ℕ) → x < n → A x ≡ true → count A (from 0 n) < area) (m : List ℕ)
      (size : length m ≡ n) (off : (x : ℕ) → x < n → A x ≡ false → between lo hi (at m x) ≡ false) where
    -- a pixel in a section is in A
    in-part : (s : Pass) → InRange lo hi area s → (x : ℕ) → x < n → within s (at m x) ≡ true → A x ≡ true
    in-part s F x hx e = elim (decide (A x)) [
      | inl a ↦ a
      | inr a ↦ absurd (true≢false (sym e ∙ range_out F (at m x) (off x hx a)))
    ]

    insufficient : (s : Pass) → InRange lo hi area s → (x : ℕ) → x < n → within s (at m x) ≡ true
        → sufficient s (component_values near s m x) ≡ false
    insufficient s F x hx e =
        let C : ℕ → Bool = linked (inside near s m) n x in
        let all : length (component_values near s m x) ≡ count C (from 0 n) =
        values_length near s m x ∙ ap (λ (k : ℕ). count (linked (inside near s m) k x) (from 0 k)) size in
        let fewer : count C (from 0 n) ≤ count A (from 0 n) =
        count_mono_from C A 0 n (λ y _ h d.
        let hy : y < n = omega arith in
        in-part s F y hy (stays near s m n e ((linked_iff (inside near s m) n x y hx hy).0 d))) in
        let small : length (component_values near s m x) < s.area =
        omega (arith, F.least, few x hx (in-part s F x hx e)) in
        lt-leb s.area _ small

    small-pass : (s : Pass) → InRange lo hi area s → passed near s m ≡ m
    small-pass s F =
        ext_get_or 0 _ _ (length_passed near s m) (λ x h.
        let hx : x < length m = omega (arith, length_passed near s m) in
        passed_at near s m x hx ∙ still x (omega (arith, size)) (decide (within s (at m x))))
      where
        still : (x : ℕ) → x < n → (within s (at m x) ≡ true) ⊎ (within s (at m x) ≡ false)
            → new_tone near s m x ≡ at m x
        still x hx (inl e) = still_tone near s m x (changes_area s _ (insufficient s F x hx e))
        still x hx (inr e) = out_tone near s m x e

    -- no test that asks for a sufficient area counts a component
    small_count : (s : Pass) → InRange lo hi area s → (f : List ℕ → Bool)
        → ((vs : List ℕ) → sufficient s vs ≡ false → f vs ≡ false) → component_count f near s m ≡ 0
    unfolding component_count
    small_count s F f asks =
        rw size (count_same (counted f near s m) (λ x. false) n (λ x hx. uncounted x hx (decide (within s (at m x))))
        ∙ count_none (from 0 n))
      where
        uncounted : (x : ℕ) → x < n → (within s (at m x) ≡ true) ⊎ (within s (at m x) ≡ false)
            → counted f near s m x ≡ false
        uncounted x hx (inl e) =
            and_middle (within s (at m x)) (f (component_values near s m x)) _ (asks _ (insufficient s F x hx e))
        uncounted x hx (inr e) = rw e

    pub small_run : (ss : List Pass) → All (InRange lo hi area) ss → run_effect (always near) ss m ≡ nothing m
    unfolding run_effect
    small_run [] none = refl
    small_run (s ∷ ss) (more F fits) =
        let now : pass_effect (always near) s m ≡ nothing m = effect_same (small-pass s F)
        (small_count s F (changes s) (changes_area s)) (small_count s F (kept_back s) (kept_area s)) in
        ap (λ (e : Effect). then e (run_effect (always near) ss e.plane)) now
        ∙ ap (then (nothing m)) (small_run ss fits)
        ∙ nothing_then m (nothing m)

  -- ## Pixels outside [lo, hi]

  pub run_outside : (ss : List Pass) → All (InRange lo hi area) ss → (m : List ℕ) (x : ℕ) → x < length m
      → between lo hi (at m x) ≡ false → at (run (always near) ss m) x ≡ at m x
  unfolding run_effect
  run_outside [] none m x h e = refl
  run_outside (s ∷ ss) (more F fits) m x h e =
      let same = passed_at near s m x h ∙ out_tone near s m x (range_out F (at m x) e) in
      run_outside ss fits (passed near s m) x (omega (arith, length_passed near s m))
      (ap (between lo hi) same ∙ e)
      ∙ same

pub length_run : (by : Pass → Near) (ss : List Pass) (m : List ℕ) → length (run by ss m) ≡ length m
unfolding run_effect
length_run by [] m = refl
length_run by (s ∷ ss) m = length_run by ss (passed (by s) s m) ∙ length_passed (by s) s m
