-- The invariant of the treatment of a section, component by component from the first pixel to the last. A component
-- has its first values when its turn comes, and the next pixel that has the code is the first of its component. For any
-- symmetric neighbour relation. Assumes nothing.
use Prim.Native.Nat.{ℕ, suc, ◌+◌, ◌≤◌, ◌<◌}
use mathlib.Core.Path.{◌≡◌, refl, sym, ap, ap₂, subst, ◌∙◌}
use mathlib.Core.Logic.{◌⊎◌, inl, inr}
use mathlib.Core.Bool.{Bool, true, false, cond, not, ◌&&◌, ◌||◌, true≢false, false≢true, or-false, and-false}
use mathlib.Core.List.{List, map}
use mathlib.Mathlib.Data.Bool.Basic.{or_inr}
use native.Mathlib.Nat.{zero-add, add-zero}
use native.Mathlib.Numerals.{add-one}
use native.Mathlib.Omega.{arith}
use lib.ListN.{length, length-map}
use lib.Seq.{ext_get_or}
use lib.Dec.{eqb, leb}
use borrow.Author.Tests.{eq-eqb, ne_eqb}
use Rattle.planes.specs.Lists.{at, from, keep, count, Beyond}
use Rattle.planes.specs.Shapes.{pixels, adjacency, Symmetric}
use Rattle.planes.specs.Neighbours.{Near, first}
use Rattle.planes.specs.declared.Shape.{Shape}
use Rattle.planes.specs.Enumerations.{Enumerates}
use Rattle.planes.proofs.Tests.{eq_or_not, decide, and_middle}
use Rattle.planes.proofs.Counts.{count_le, count_upto, count_over, count_same, count_none, count_sum, count_all}
use Rattle.planes.proofs.Counts.{keep_same, length_from}
use Rattle.planes.proofs.Lists.{map_same, beyond_refl}
use Rattle.components.specs.Regions.{region}
use Rattle.rows.specs.Stretches.{None}
use Rattle.components.specs.Floods.{Flooded, region_values, Gauged}
use Rattle.components.proofs.Regions.{region_below, region_self}
use Rattle.components.proofs.Whole.{plane_region}
use Rattle.histograms.specs.declared.Measures.{Measures}
use Rattle.histograms.specs.Histograms.{Component, Alike, Measured, Tally, Gathered}
use Rattle.histograms.specs.Histograms as histograms
use Rattle.histograms.proofs.Components.{component_of, alike_of}
use Rattle.histograms.proofs.Measured.{measured_alike, tally_alike}
use Rattle.model.specs.declared.Pass.{Pass}
use Rattle.model.specs.Neighbourhoods.{pass_neighbours}
use Rattle.model.proofs.Neighbourhoods.{pass_sym}
use Rattle.model.specs.Passes.{within, inside, component_values, sufficient, changes, kept_back, retone, new_tone}
use Rattle.model.specs.Passes.{passed}
use Rattle.model.specs.Passes.{counted, component_count, pass_count}
use Rattle.model.proofs.Components.{in_tone, out_tone, still_tone}
use Rattle.model.proofs.Order.{in-of, length_passed, passed_at}
use Rattle.painting.specs.Painting.{number, joined, On, Clear, Listed}
use Rattle.sections.specs.Sections.{gone, Coded, Section, Treated, Treats}
use Rattle.retoning.specs.Retoning.{inert, leaves, one_if, untold, together, Done}
use Rattle.painting.specs.declared.Next.{Next}
use Rattle.retoning.specs.declared.Treatment.{Treatment}
use Rattle.retoning.proofs.Inert.{inert_still, inert_leaves, inert_kept}
use Rattle.painting.proofs.Painting.{clear_both}
use Rattle.sections.proofs.Regions.{region_values_lem, same_region, counted_leads}
use Rattle.sections.proofs.Sweep.{Sweeping, sweep_begin, none_leads, ahead, sweep_end, beyond}
use Rattle.sections.proofs.Sweep.{had, mine_is, mine_left, mine_coded, it_leads, take_it}

-- what the treatment requires, over any symmetric neighbour relation
pub record Treatable (near : Near) (n code : ℕ) (s : Pass) (t : Next) (plane marks : List ℕ) : Type 0 where
  pub symm : Symmetric near
  pub real : 1 ≤ code
  pub next : (v : ℕ) → number t v ≡ code → ⊥
  pub few : n ≤ 1048576
  pub order : s.a ≤ s.b
  pub whole : length plane ≡ n
  pub coded : Coded near n code s plane marks

-- the mark that a pixel of the section gets
abbrev later : Near → Pass → Next → List ℕ → ℕ → ℕ
later near s t plane p = cond (inert s (component_values near s plane p)) 0 (number t (new_tone near s plane p))

-- pixel p is the first of a component that has the code, and whose values pass the test
abbrev led : (List ℕ → Bool) → Near → ℕ → Pass → List ℕ → List ℕ → ℕ → Bool
led f near code s plane marks p = eqb (at marks p) code && counted f near s plane p

-- the components with a pixel before `low` are gone from the marks, retoned and counted:
--
--   taken                  the pixels of these components
--   swept                  what became of the marks
--   plane_are              what became of the plane
--   retones, keeps, lefts  how many were retoned, were kept back, leave
--   none                   where a side's flag is false, none of their pixels is on that side
--   size_is .. queue_rest  lengths, and the queue from n on, are as they were
pub record Passing (near : Near) (n code : ℕ) (s : Pass) (t : Next)
    (plane₀ marks₀ queue₀ plane marks queue : List ℕ) (low : ℕ) (q : Treatment) : Type 0 where
  pub taken : ℕ → Bool
  pub swept : Sweeping near n code marks₀ marks taken (later near s t plane₀) low
  pub plane_are : (p : ℕ) → p < n → at plane p ≡ cond (taken p) (new_tone near s plane₀ p) (at plane₀ p)
  pub retones : q.retoned ≡ count (led (changes s) near code s plane₀ marks₀) (from 0 low)
  pub keeps : q.kept ≡ count (led (kept_back s) near code s plane₀ marks₀) (from 0 low)
  pub lefts : q.left ≡ count (led (leaves s) near code s plane₀ marks₀) (from 0 low)
  pub none : (side : Bool) → Clear side q.sides → (p : ℕ) → taken p ≡ true
      → inert s (component_values near s plane₀ p) ≡ false → On t side (new_tone near s plane₀ p) → ⊥
  pub size_is : length plane ≡ length plane₀
  pub marks_size : length marks ≡ length marks₀
  pub queue_rest : Beyond n queue₀ queue

pub pass_begin : (near : Near) (n code : ℕ) (s : Pass) (t : Next) (plane marks queue : List ℕ)
    → Passing near n code s t plane marks queue plane marks queue 0 untold
pass_begin near n code s t plane marks queue = record {
  taken = λ p. false;
  swept = sweep_begin near n code marks (later near s t plane);
  plane_are = λ p h. refl;
  retones = refl;
  keeps = refl;
  lefts = refl;
  none = λ side c p e. absurd (false≢true e);
  size_is = refl;
  marks_size = refl;
  queue_rest = beyond_refl n queue;
}

module _ {near : Near} {n code : ℕ} {s : Pass} {t : Next} {plane₀ marks₀ queue₀ plane marks queue : List ℕ} {low : ℕ}
    {q : Treatment} (D : Treatable near n code s t plane₀ marks₀)
    (W : Passing near n code s t plane₀ marks₀ queue₀ plane marks queue low q) where
  -- no next mark is the code
  real : (p : ℕ) → later near s t plane₀ p ≡ code → ⊥
  real p = go (inert s (component_values near s plane₀ p))
    where
      go : (u : Bool) → cond u 0 (number t (new_tone near s plane₀ p)) ≡ code → ⊥
      go true e = omega (arith, D.real)
      go false e = D.next (new_tone near s plane₀ p) e

  -- the first pixels of components that pass a test
  abbrev Led : (List ℕ → Bool) → ℕ → Bool
  Led f = led f near code s plane₀ marks₀

  few-led : (f : List ℕ → Bool) → count (Led f) (from 0 low) ≤ low
  few-led f = omega (arith, count_le (Led f) (from 0 low), length_from 0 low)

  -- no more components than pixels passed
  pub size_le : (q.retoned ≤ low) × ((q.kept ≤ low) × (q.left ≤ low))
  size_le = (
    omega (arith, W.retones, few-led (changes s)),
    (omega (arith, W.keeps, few-led (kept_back s)), omega (arith, W.lefts, few-led (leaves s))),
  )

  -- the search goes on
  pub go_on : (to : ℕ) → low ≤ to → to ≤ n → None marks code low to
      → Passing near n code s t plane₀ marks₀ queue₀ plane marks queue to q
  go_on to h k f = record {
    taken = W.taken;
    swept = ahead D.symm real W.swept to h k f;
    plane_are = W.plane_are;
    retones = W.retones ∙ over (changes s);
    keeps = W.keeps ∙ over (kept_back s);
    lefts = W.lefts ∙ over (leaves s);
    none = W.none;
    size_is = W.size_is;
    marks_size = W.marks_size;
    queue_rest = W.queue_rest;
  }
    where
      over : (g : List ℕ → Bool) → count (Led g) (from 0 low) ≡ count (Led g) (from 0 to)
      over g = sym (count_over (Led g) low to h (λ p l r.
          counted_leads near D.symm n code s plane₀ marks₀ D.whole D.coded g p (omega arith)
          ∙ ap (◌&& g (component_values near s plane₀ p)) (none_leads D.symm real W.swept to k f p l r)))

  -- the component of the next pixel that has the code
  module _ (h : low < n) (e : at marks low ≡ code) {marks' queue' : List ℕ} {k : ℕ}
      (F : Flooded near n code low marks queue marks' queue' k) where
    abbrev Mine : ℕ → Bool
    Mine = region near n marks₀ code low

    -- as flooded
    abbrev S : ℕ → Bool
    S = region near n marks code low

    mine : (x : ℕ) → S x ≡ true → Mine x ≡ true
    mine x d = sym (mine_is D.symm real W.swept h e x) ∙ d

    below : (x : ℕ) → S x ≡ true → x < n
    below x d = region_below near n code marks low x d

    -- its pixels have their first values
    old_value : (x : ℕ) → S x ≡ true → at plane x ≡ at plane₀ x
    old_value x d =
        let left : W.taken x ≡ false = mine_left D.symm real W.swept h e x (mine x d) in
        W.plane_are x (below x d) ∙ ap (λ (t : Bool). cond t (new_tone near s plane₀ x) (at plane₀ x)) left

    -- which are in the section
    old-within : (x : ℕ) → S x ≡ true → within s (at plane₀ x) ≡ true
    old-within x d = D.coded.coded x (below x d) (mine_coded D.symm real W.swept h e x (mine x d))

    abbrev E : Enumerates queue' k n S
    E = F.enumerates

    size_few : k ≤ n
    size_few = omega (arith, F.size, count_le S (from 0 n), length_from 0 n)

    -- what retoning requires
    pub component : Component plane queue' k s.a s.b
    component = component_of E plane (omega (arith, D.whole, W.size_is)) D.order
        (let r = E.every low h (region_self near n code marks low h) in omega (arith, r.below))
        (omega (arith, size_few, D.few))
        (λ x l d. subst (λ (v : ℕ). (s.a ≤ v) × (v ≤ s.b)) (sym (old_value x d)) (in-of s _ (old-within x d)))

    low-coded : at marks₀ low ≡ code
    low-coded = (had D.symm real W.swept h e).1

    abbrev vs : List ℕ
    vs = component_values near s plane₀ low

    the_values : map (at plane) (keep S (from 0 n)) ≡ vs
    the_values =
        map_same S (at plane) (at plane₀) 0 n (λ x _ _ d. old_value x d)
        ∙ ap (map (at plane₀)) (keep_same S Mine 0 n (λ x _ _. mine_is D.symm real W.swept h e x))
        ∙ region_values_lem near D.symm n code s plane₀ marks₀ D.whole D.coded low h low-coded

    -- the queue has the values that the model gives the component
    pub alike : Alike vs (histograms.values plane queue' k)
    alike = subst (λ (ws : List ℕ). Alike ws (histograms.values plane queue' k)) the_values (alike_of E plane)

    -- what giving next marks requires
    pub listed : n ≤ length marks → Listed marks' plane queue' k
    listed room = record {
      pixels = record { room = E.fits; below = λ i l. omega (arith, E.below i l, D.whole, W.size_is) };
      marked = λ i l. omega (arith, E.below i l, F.marks_length);
    }

    -- it is treated
    module _ {plane' marks'' : List ℕ} {r : Treatment} (R : Done s t vs plane marks' queue' plane' marks'' k r) where
      same-vs : (p : ℕ) → p < n → Mine p ≡ true → vs ≡ component_values near s plane₀ p
      same-vs p l d = same_region near D.symm n code s plane₀ marks₀ D.whole D.coded low p h l low-coded d

      new-value : (p : ℕ) → p < n → Mine p ≡ true → at plane' p ≡ new_tone near s plane₀ p
      new-value p l d =
          let c : S p ≡ true = mine_is D.symm real W.swept h e p ∙ d in
          let i = E.every p l c in
          subst (λ (x : ℕ). at plane' x ≡ retone s vs (at plane x)) i.holds (R.toned.drawn i.index i.below)
          ∙ ap₂ (λ (ws : List ℕ) (v : ℕ). retone s ws v) (same-vs p l d) (old_value p c)
          ∙ sym (in_tone near s plane₀ p (old-within p c))

      -- a pixel of another component is not listed
      unlisted : (p : ℕ) → Mine p ≡ false → (i : ℕ) → i < k → at queue' i ≡ p → ⊥
      unlisted p d i l q = true≢false (sym (subst (λ (x : ℕ). Mine x ≡ true) q (mine _ (E.inside i l))) ∙ d)

      planes : (p : ℕ) → p < n → at plane' p ≡ cond (W.taken p || Mine p) (new_tone near s plane₀ p) (at plane₀ p)
      planes p l = elim (decide (Mine p)) [
        | inl d ↦ new-value p l d
            ∙ sym (ap (λ (t : Bool). cond t (new_tone near s plane₀ p) (at plane₀ p)) (or_inr (W.taken p) (Mine p) d))
        | inr d ↦ R.toned.stays p (unlisted p d) ∙ W.plane_are p l
            ∙ sym (ap (λ (t : Bool). cond t (new_tone near s plane₀ p) (at plane₀ p))
            (ap (W.taken p ||◌) d ∙ or-false (W.taken p)))
      ]

      one_more : (f : List ℕ → Bool) {k x : ℕ} → k ≡ count (Led f) (from 0 low) → x ≡ one_if (f vs)
          → k + x ≡ count (Led f) (from 0 (low + 1))
      one_more f {k} {x} is one =
          let t : Led f low ≡ f vs =
          counted_leads near D.symm n code s plane₀ marks₀ D.whole D.coded f low h
          ∙ ap (◌&& f vs) (it_leads D.symm real W.swept h e) in
          let c : one_if (Led f low) ≡ x = ap one_if t ∙ sym one in
          let sum : k + x ≡ count (Led f) (from 0 (suc low)) = omega (arith, c, is, count_upto (Led f) low) in
          sum ∙ ap (λ (z : ℕ). count (Led f) (from 0 z)) (sym (add-one low))

      new-marks : (p : ℕ) → at marks'' p ≡ cond (Mine p) (later near s t plane₀ p) (at marks p)
      new-marks p = elim (decide (Mine p)) [
        | inl d ↦
            let c : S p ≡ true = mine_is D.symm real W.swept h e p ∙ d in
            let l = below p c in
            let i = E.every p l c in
            let gone : at marks' p ≡ 0 = F.marks_are p ∙ ap (λ (u : Bool). cond u 0 (at marks p)) c in
            subst (λ (x : ℕ). at marks'' x ≡ cond (inert s vs) (at marks' x) (number t (at plane' x))) i.holds
            (R.drawn i.index i.below)
            ∙ ap₂ (λ (x y : ℕ). cond (inert s vs) x (number t y)) gone (new-value p l d)
            ∙ ap (λ (ws : List ℕ). cond (inert s ws) 0 (number t (new_tone near s plane₀ p))) (same-vs p l d)
            ∙ sym (ap (λ (u : Bool). cond u (later near s t plane₀ p) (at marks p)) d)
        | inr d ↦
            R.stays p (unlisted p d)
            ∙ F.marks_are p
            ∙ ap (λ (u : Bool). cond u 0 (at marks p)) (mine_is D.symm real W.swept h e p ∙ d)
            ∙ sym (ap (λ (u : Bool). cond u (later near s t plane₀ p) (at marks p)) d)
      ]

      pub at_most_one : (r.retoned ≤ 1) × ((r.kept ≤ 1) × (r.left ≤ 1))
      at_most_one = (
        go (changes s vs) R.retones,
        (go (kept_back s vs) R.keeps, go (leaves s vs) R.leaves_it),
      )
        where
          go : (u : Bool) {x : ℕ} → x ≡ one_if u → x ≤ 1
          go true q = omega arith
          go false q = omega arith

      -- which sides its pixels are on
      its-sides : (side : Bool) → Clear side r.sides → (p : ℕ) → Mine p ≡ true
          → inert s (component_values near s plane₀ p) ≡ false → On t side (new_tone near s plane₀ p) → ⊥
      its-sides side c p d f o =
          let l : p < n = region_below near n code marks₀ low p d in
          let i = E.every p l (mine_is D.symm real W.swept h e p ∙ d) in
          let at_p : at plane' (at queue' i.index) ≡ new_tone near s plane₀ p =
          ap (at plane') i.holds ∙ new-value p l d in
          R.none side c (ap (inert s) (same-vs p l d) ∙ f) i.index i.below
          (subst (On t side) (sym at_p) o)

      sides : (side : Bool) → Clear side (joined q.sides r.sides)
          → (p : ℕ) → (W.taken p || Mine p) ≡ true
          → inert s (component_values near s plane₀ p) ≡ false → On t side (new_tone near s plane₀ p) → ⊥
      sides side c p g f o =
          let both = clear_both side q.sides r.sides c in
          elim (decide (Mine p)) [
            | inl d ↦ its-sides side both.1 p d f o
            | inr d ↦ W.none side both.0 p (sym (ap (W.taken p ||◌) d ∙ or-false (W.taken p)) ∙ g) f o
          ]

      pub take_one : Passing near n code s t plane₀ marks₀ queue₀ plane' marks'' queue' (low + 1) (together q r)
      take_one = record {
        taken = λ p. W.taken p || Mine p;
        swept = take_it D.symm real W.swept h e new-marks;
        plane_are = planes;
        retones = one_more (changes s) W.retones R.retones;
        keeps = one_more (kept_back s) W.keeps R.keeps;
        lefts = one_more (leaves s) W.lefts R.leaves_it;
        none = sides;
        size_is = R.toned.size ∙ W.size_is;
        marks_size = R.size ∙ F.marks_length ∙ W.marks_size;
        queue_rest = record {
          size = F.queue_length ∙ W.queue_rest.size;
          rest = λ j l. F.rest j (omega (arith, size_few)) ∙ W.queue_rest.rest j l;
        };
      }

  -- all components are done
  module _ (end : n ≤ low) where
    last : (p : ℕ) → p < n → W.taken p ≡ eqb (at marks₀ p) code
    last p h = sweep_end D.symm real W.swept end p h

    -- a pixel that has not the code stays as it is
    other-tone : (p : ℕ) → p < n → (at marks₀ p ≡ code → ⊥) → new_tone near s plane₀ p ≡ at plane₀ p
    other-tone p h f = elim (decide (within s (at plane₀ p))) [
      | inl d ↦ still_tone near s plane₀ p (inert_still s (component_values near s plane₀ p) (D.coded.others p h d f))
      | inr d ↦ out_tone near s plane₀ p d
    ]

    plane-at : (p : ℕ) → p < n → at plane p ≡ new_tone near s plane₀ p
    plane-at p h = elim (eq_or_not (at marks₀ p) code) [
      | inl e ↦ by-gone true (last p h ∙ eq-eqb _ _ e)
      | inr f ↦ by-gone false (last p h ∙ ne_eqb _ _ f) ∙ sym (other-tone p h f)
    ]
      where
        by-gone : (u : Bool) → W.taken p ≡ u → at plane p ≡ cond u (new_tone near s plane₀ p) (at plane₀ p)
        by-gone u d = W.plane_are p h ∙ ap (λ (u : Bool). cond u (new_tone near s plane₀ p) (at plane₀ p)) d

    -- the components that pass a test are those that have the code, and those that left before where they pass it
    all-counted : (f g : List ℕ → Bool) → ((vs : List ℕ) → inert s vs ≡ true → f vs ≡ g vs)
        → count (Led f) (from 0 low) + count (λ p. not (eqb (at marks₀ p) code) && counted g near s plane₀ p) (from 0 n)
        ≡ component_count f near s plane₀
    unfolding component_count
    all-counted f g same =
        let ends : low ≡ n = omega (arith, W.swept.order) in
        let Left : ℕ → Bool = λ p. not (eqb (at marks₀ p) code) && counted g near s plane₀ p in
        ap (λ (k : ℕ). count (Led f) (from 0 k) + count Left (from 0 n)) ends
        ∙ sym (count_sum (counted f near s plane₀) (Led f) Left 0 n (λ p _ h. at-pixel p (omega arith)))
        ∙ ap (λ (k : ℕ). count (counted f near s plane₀) (from 0 k)) (sym D.whole)
      where
        at-pixel : (p : ℕ) → p < n → one_if (counted f near s plane₀ p)
            ≡ one_if (Led f p) + one_if (not (eqb (at marks₀ p) code) && counted g near s plane₀ p)
        at-pixel p h = elim (eq_or_not (at marks₀ p) code) [
          | inl e ↦ rw (eq-eqb _ _ e) (sym (add-zero _))
          | inr e ↦ rw (ne_eqb _ _ e) (ap one_if (uncoded (decide (within s (at plane₀ p))) e) ∙ sym (zero-add _))
        ]
          where
            uncoded : (within s (at plane₀ p) ≡ true) ⊎ (within s (at plane₀ p) ≡ false) → (at marks₀ p ≡ code → ⊥)
                → counted f near s plane₀ p ≡ counted g near s plane₀ p
            uncoded (inl d) e =
                ap (λ (u : Bool). within s (at plane₀ p) && u && first (length plane₀) (inside near s plane₀) p)
                (same (component_values near s plane₀ p) (D.coded.others p h d e))
            uncoded (inr d) e = rw d

    -- no component that left before is retoned
    all-retoned : count (Led (changes s)) (from 0 low) ≡ pass_count near s plane₀
    all-retoned =
        let no : ℕ → Bool = λ p. not (eqb (at marks₀ p) code) && counted (λ vs. false) near s plane₀ p in
        let none = count_same no (λ p. false) n (λ p h. ap (not (eqb (at marks₀ p) code) &&◌)
        (and_middle (within s (at plane₀ p)) false (first (length plane₀) (inside near s plane₀) p) refl)
        ∙ and-false (not (eqb (at marks₀ p) code))) ∙ count_none (from 0 n) in
        omega (arith, all-counted (changes s) (λ vs. false) (inert_still s), none)

    treated : (r : Treatment) → r.retoned ≡ q.retoned → r.kept ≡ q.kept → r.left ≡ q.left
        → Treated near n code s t plane₀ marks₀ queue₀ plane marks queue r
    unfolding gone
    treated r retoned kept left = record {
      plane_is = ext_get_or 0 plane (passed near s plane₀) (W.size_is ∙ sym (length_passed near s plane₀))
          (λ i h. let l : i < n = omega (arith, D.whole, W.size_is) in
          plane-at i l ∙ sym (passed_at near s plane₀ i (omega (arith, D.whole))));
      retoned_is = retoned ∙ W.retones ∙ all-retoned;
      kept_is = ap (◌+ gone near n code s plane₀ marks₀) (kept ∙ W.keeps)
          ∙ all-counted (kept_back s) (sufficient s) (inert_kept s);
      left_is = ap (◌+ gone near n code s plane₀ marks₀) (left ∙ W.lefts)
          ∙ all-counted (leaves s) (sufficient s) (inert_leaves s);
      numbered = λ p h. W.swept.marks_are p
          ∙ ap₂ (λ (u : Bool) (x : ℕ). cond u (cond (inert s (component_values near s plane₀ p)) 0 (number t x))
          (at marks₀ p)) (last p h) (sym (plane-at p h));
      marks_rest = record {
        size = W.marks_size;
        rest = λ p h. W.swept.marks_are p
            ∙ ap (λ (u : Bool). cond u (later near s t plane₀ p) (at marks₀ p)) (beyond D.symm real W.swept p h);
      };
      queue_rest = W.queue_rest;
    }

    pub pass_end : (r : Treatment) → r.retoned ≡ q.retoned → r.kept ≡ q.kept → r.left ≡ q.left
        → r.sides ≡ q.sides → Treats near n code s t plane₀ marks₀ queue₀ plane marks queue r
    pass_end r retoned kept left l = record {
      treated = treated r retoned kept left;
      none = λ side c p h e f o. W.none side (subst (Clear side) l c) p
          (last p h ∙ eq-eqb _ _ e) f (subst (On t side) (plane-at p h) o);
    }

-- what the flood tells of the component is true of the queue's values
module _ {near : Near} {n code : ℕ} {s : Pass} {t : Next} {plane₀ marks₀ queue₀ plane marks queue : List ℕ} {low : ℕ}
    {q : Treatment} (D : Treatable near n code s t plane₀ marks₀)
    (W : Passing near n code s t plane₀ marks₀ queue₀ plane marks queue low q)
    (h : low < n) (e : at marks low ≡ code) {marks' queue' counts' : List ℕ} {c : Measures}
    (F : Flooded near n code low marks queue marks' queue' c.size)
    (G : Gauged near n code low plane marks c counts') where
  pub gathered : Gathered plane queue' counts' c s.a s.b
  unfolding region_values
  gathered =
      let one = component D W h e F in
      let same = alike_of F.enumerates plane in
      record {
        component = one;
        measured = measured_alike (omega (arith, one.some, G.measured.size)) same G.measured;
        tally = tally_alike same G.tally;
      }

-- a plane that is one component is done once that is treated
module _ {near : Near} {n code : ℕ} {s : Pass} {t : Next} {plane marks queue marks' queue' : List ℕ} {k : ℕ}
    (D : Treatable near n code s t plane marks) (h : 0 < n) (e : at marks 0 ≡ code)
    (all : (p : ℕ) → p < n → region near n marks code 0 p ≡ true)
    (F : Flooded near n code 0 marks queue marks' queue' k) where
  abbrev begun : Passing near n code s t plane marks queue plane marks queue 0 untold
  begun = pass_begin near n code s t plane marks queue

  pub one_component : {plane' marks'' : List ℕ} {r : Treatment}
      → Done s t (component_values near s plane 0) plane marks' queue' plane' marks'' k r
      → Treats near n code s t plane marks queue plane' marks'' queue' r
  one_component {marks'' = marks''} {r} R =
      let none : None marks'' code 1 n = λ p _ l d.
      real D begun p (sym (new-marks D begun h e F R p
      ∙ ap (λ (u : Bool). cond u (later near s t plane p) (at marks p)) (all p l)) ∙ d) in
      let W = go_on D (take_one D begun h e F R) n (omega arith) (omega arith) none in
      pass_end D W (omega arith) r (omega arith) (omega arith) (omega arith) refl

-- its component has all its pixels
pub whole_size : {near : Near} {n code : ℕ} {s : Pass} {plane marks : List ℕ} → Symmetric near → length plane ≡ n
    → Coded near n code s plane marks → 0 < n → at marks 0 ≡ code
    → ((p : ℕ) → p < n → region near n marks code 0 p ≡ true) → (p : ℕ) → p < n
    → length (component_values near s plane p) ≡ n
whole_size {near} {n} {code} {s} {plane} {marks} symm whole K some e all p h =
    let Mine : ℕ → Bool = region near n marks code 0 in
    ap length (sym (same_region near symm n code s plane marks whole K 0 p some h e (all p h))
    ∙ sym (region_values_lem near symm n code s plane marks whole K 0 some e))
    ∙ length-map (keep Mine (from 0 n)) (at plane)
    ∙ count_same Mine (λ x. true) n all
    ∙ count_all (from 0 n)
    ∙ length_from 0 n

-- its values are those of the plane
module _ {near : Near} {n code : ℕ} {s : Pass} {t : Next} {plane marks queue marks' queue' : List ℕ} (c : Measures)
    (D : Treatable near n code s t plane marks) (h : 0 < n) (e : at marks 0 ≡ code)
    (F : Flooded near n code 0 marks queue marks' queue' c.size)
    (is : histograms.values plane queue' c.size ≡ plane) where
  pub plane_alike : Alike (component_values near s plane 0) plane
  plane_alike = subst (Alike (component_values near s plane 0)) is
      (alike D (pass_begin near n code s t plane marks queue) h e F)

  pub plane_gathered : {counts : List ℕ} → Measured plane c → Tally plane counts
      → Gathered plane queue' counts c s.a s.b
  plane_gathered {counts} M T = record {
    component = component D (pass_begin near n code s t plane marks queue) h e F;
    measured = subst (λ (vs : List ℕ). Measured vs c) (sym is) M;
    tally = subst (λ (vs : List ℕ). Tally vs counts) (sym is) T;
  }

-- what the treatment requires, for the neighbours of the pass
pub treatable : {plane marks queue : List ℕ} {z : Shape} {code : ℕ} {due : Bool} {s : Pass} {t : Next}
    → Section plane marks queue z code due s t → Treatable (pass_neighbours z s) (pixels z) code s t plane marks
treatable {z = z} {code} {s = s} {t} P = record {
  symm = pass_sym z s;
  real = P.real;
  next = λ v. go (leb v t.mid);
  few = P.lent.size.few;
  order = P.order;
  whole = P.lent.whole;
  coded = P.coded;
}
  where
    go : (u : Bool) → cond u t.low t.high ≡ code → ⊥
    go true e = P.low e
    go false e = P.high e

-- a flood by the number of neighbours that the pass carries takes its components
pub by_pass : (z : Shape) (s : Pass) {n code start m : ℕ} {marks queue marks' queue' : List ℕ}
    → Flooded (adjacency z s.neighbours) n code start marks queue marks' queue' m
    → Flooded (pass_neighbours z s) n code start marks queue marks' queue' m
unfolding pass_neighbours
by_pass z s F = F

pub gauged_by_pass : (z : Shape) (s : Pass) {n code start : ℕ} {plane marks counts : List ℕ} {c : Measures}
    → Gauged (adjacency z s.neighbours) n code start plane marks c counts
    → Gauged (pass_neighbours z s) n code start plane marks c counts
unfolding pass_neighbours
gauged_by_pass z s G = G

-- a plane whose pixels all have the code is one of them
pub whole_plane : (z : Shape) (s : Pass) (code : ℕ) (marks : List ℕ) → 1 ≤ z.w
    → ((p : ℕ) → p < pixels z → at marks p ≡ code) → (p : ℕ) → p < pixels z
    → region (pass_neighbours z s) (pixels z) marks code 0 p ≡ true
unfolding pass_neighbours
whole_plane z s = plane_region z s.neighbours

-- where the section is not due, no pixel has the code, and nothing is to be done
pub pass_over : {z : Shape} {code : ℕ} {due : Bool} {s : Pass} {t : Next} {plane marks queue : List ℕ} {r : Treatment}
    → Section plane marks queue z code due s t → due ≡ false → r ≡ untold
    → Treats (pass_neighbours z s) (pixels z) code s t plane marks queue plane marks queue r
pass_over {z} {code} {s = s} {t} {plane} {marks} {queue} {r} P e f =
    let D = treatable P in
    let W = go_on D (pass_begin (pass_neighbours z s) (pixels z) code s t plane marks queue) (pixels z)
    (omega arith) (omega arith) (P.found e) in
    rw f (pass_end D W (omega arith) untold refl refl refl refl)
