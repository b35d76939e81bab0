-- What a pass does depends on its own section alone; so passes on disjoint intervals change places, with the same
-- planes and counts. For any sound rules and any neighbour relations, of each pass its own. Assumes nothing.
use Prim.Native.Nat.{ℕ, zero, suc, ◌≤◌, ◌<◌}
use mathlib.Core.Path.{◌≡◌, refl, sym, ap, ap₂, subst, ◌∙◌}
use mathlib.Core.Logic.{inl, inr}
use mathlib.Core.Bool.{Bool, true, false, not, ◌&&◌, ◌||◌}
use mathlib.Core.List.{List, map}
use mathlib.Mathlib.Data.Bool.Basic.{and_elim_left, and_elim_right}
use native.Mathlib.Nat.{le_refl}
use native.Mathlib.Omega.{arith}
use lib.ListN.{length}
use lib.Seq.{ext_get_or}
use lib.Dec.{eqb}
use Rattle.planes.specs.Lists.{from, count, at}
use Rattle.planes.specs.Neighbours.{Near, Chain, here, step, linked, component, first}
use Rattle.planes.proofs.Tests.{decide}
use Rattle.planes.proofs.Lists.{every_same, map_same}
use Rattle.planes.proofs.Counts.{keep_same}
use Rattle.planes.proofs.Links.{linked_iff}
use Rattle.model.specs.declared.Pass.{Pass}
use Rattle.model.specs.Passes.{within, inside, component_values, retone, new_tone, passed, counted}
use Rattle.model.specs.Passes.{component_count}
use Rattle.model.specs.Runs.{Disjoint}
use Rattle.model.proofs.Components.{in_tone, out_tone}
use Rattle.model.proofs.Order.{in-of, in-to, retone_sound, length_passed, passed_at}

-- ## Relations that agree on the pixels below n

module _ (n : ℕ) (near near' : Near) (same : (u v : ℕ) → u < n → v < n → near u v ≡ near' u v) where
  pub linked_same : (k i j : ℕ) → k ≤ n → i < n → j < n → linked near k i j ≡ linked near' k i j
  unfolding linked
  linked_same zero i j h hi hj = ap (eqb i j ||◌) (same i j hi hj)
  linked_same (suc k) i j h hi hj =
      ap₂ ◌||◌ (linked_same k i j (omega arith) hi hj)
      (ap₂ ◌&&◌ (linked_same k i k (omega arith) hi h) (linked_same k k j (omega arith) h hj))

  pub component_alike : (i : ℕ) → i < n → component n near i ≡ component n near' i
  unfolding component
  component_alike i hi = keep_same _ _ 0 n (λ x _ h. linked_same n i x (le_refl n) hi (omega arith))

  pub first_alike : (i : ℕ) → i < n → first n near i ≡ first n near' i
  unfolding first
  first_alike i hi = every_same _ _ 0 i (λ x _ h. ap not (linked_same n x i (le_refl n) (omega arith) hi))

-- ## A pass looks at its own section only

-- p and r are alike on the section of s
pub record Alike (s : Pass) (p r : List ℕ) : Type 0 where
  pub size : length r ≡ length p
  pub section : (i : ℕ) → i < length p → within s (at r i) ≡ within s (at p i)
  pub same : (i : ℕ) → i < length p → within s (at p i) ≡ true → at r i ≡ at p i

module _ (near : Near) (s : Pass) where
  -- a pixel in the component of one in the section is in the section
  pub stays : (p : List ℕ) (n : ℕ) {i j : ℕ} → within s (at p i) ≡ true → Chain (inside near s p) n i j
      → within s (at p j) ≡ true
  unfolding inside
  stays p n w here = w
  stays p n w (step {j = j} {k = k} c e h) =
      let both = and_elim_left (within s (at p j) && within s (at p k)) (near j k) e in
      and_elim_right (within s (at p j)) (within s (at p k)) both

  module _ (p r : List ℕ) (A : Alike s p r) where
    pub inside_alike : (u v : ℕ) → u < length p → v < length p → inside near s r u v ≡ inside near s p u v
    unfolding inside
    inside_alike u v hu hv = ap₂ (λ (x y : Bool). x && y && near u v) (A.section u hu) (A.section v hv)

    pub values_alike : (i : ℕ) → i < length p → within s (at p i) ≡ true
        → component_values near s r i ≡ component_values near s p i
    unfolding component_values component
    values_alike i hi w =
        rw A.size (ap (map (at r)) (component_alike (length p) (inside near s r) (inside near s p) inside_alike i hi)
        ∙ map_same (linked (inside near s p) (length p) i) (at r) (at p) 0 (length p) (λ x _ h d.
        let c = (linked_iff (inside near s p) (length p) i x hi (omega arith)).0 d in
        A.same x (omega arith) (stays p (length p) w c)))

    pub tone_alike : (i : ℕ) → i < length p → within s (at p i) ≡ true → new_tone near s r i ≡ new_tone near s p i
    unfolding new_tone
    tone_alike i hi w = rw (A.section i hi, w, values_alike i hi w, A.same i hi w)

    pub counted_alike : (f : List ℕ → Bool) (x : ℕ) → x < length p → counted f near s r x ≡ counted f near s p x
    counted_alike f x hx = go (within s (at p x)) refl
      where
        go : (t : Bool) → within s (at p x) ≡ t → counted f near s r x ≡ counted f near s p x
        go true e = ap₂ ◌&&◌ (ap₂ ◌&&◌ (A.section x hx) (ap f (values_alike x hx e)))
            (ap (λ (k : ℕ). first k (inside near s r) x) A.size
            ∙ first_alike (length p) (inside near s r) (inside near s p) inside_alike x hx)
        go false e = rw (A.section x hx, e)

    pub count_alike : (f : List ℕ → Bool) → component_count f near s r ≡ component_count f near s p
    unfolding component_count
    count_alike f =
        ap (λ (k : ℕ). count (counted f near s r) (from 0 k)) A.size
        ∙ ap length (keep_same (counted f near s r) (counted f near s p) 0 (length p)
        (λ x _ h. counted_alike f x (omega arith)))

-- ## Disjoint intervals

-- what is in the one section is not in the other
pub not_both : (s t : Pass) → Disjoint s t → (v : ℕ) → within s v ≡ true → within t v ≡ false
not_both s t d v w = elim (decide (within t v)) [
  | inl e ↦ absurd (elim d [
    | inl h ↦ omega (arith, in-of s v w, in-of t v e, h)
    | inr h ↦ omega (arith, in-of s v w, in-of t v e, h)
  ])
  | inr e ↦ e
]

pub turn : (s t : Pass) → Disjoint s t → Disjoint t s
turn s t (inl h) = inr h
turn s t (inr h) = inl h

module _ (near : Near) where
  -- a pixel stays in its section
  pub section_stays : (s : Pass) → s.a ≤ s.b → (p : List ℕ) (i : ℕ) → within s (at p i) ≡ true
      → within s (new_tone near s p i) ≡ true
  section_stays s ab p i w =
      let S = retone_sound s (component_values near s p i) ab in
      let bounds = in-of s (at p i) w in
      let above = S.above (at p i) bounds.0 bounds.1 in
      let below = S.below (at p i) bounds.0 bounds.1 in
      rw (in_tone near s p i w) (in-to s (retone s (component_values near s p i) (at p i)) above below)

  -- a pass on another interval leaves the section of s alike
  pub other_alike : (s t : Pass) → Disjoint s t → t.a ≤ t.b → (p : List ℕ) → Alike s p (passed near t p)
  other_alike s t d tb p = record {
    size = length_passed near t p;
    section = λ i hi. rw (passed_at near t p i hi) (go i (within t (at p i)) refl);
    same = λ i hi w. passed_at near t p i hi ∙ out_tone near t p i (not_both s t d (at p i) w);
  }
    where
      none : (v : ℕ) → within t v ≡ true → within s v ≡ false
      none = not_both t s (turn s t d)

      go : (i : ℕ) (u : Bool) → within t (at p i) ≡ u → within s (new_tone near t p i) ≡ within s (at p i)
      go i true e = none (new_tone near t p i) (section_stays t tb p i e) ∙ sym (none (at p i) e)
      go i false e = ap (within s) (out_tone near t p i e)

-- two passes, each by a relation of its own
module _ (by : Pass → Near) where
  -- the plane after a pass, and what a pixel becomes
  abbrev P : Pass → List ℕ → List ℕ
  P s = passed (by s) s

  abbrev T : Pass → List ℕ → ℕ → ℕ
  T s = new_tone (by s) s

  -- a pixel of the section of u, or of neither, after both passes
  in-first : (u v : Pass) → Disjoint u v → u.a ≤ u.b → v.a ≤ v.b → (p : List ℕ) (i : ℕ) → i < length p
      → within u (at p i) ≡ true → T u (P v p) i ≡ T v (P u p) i
  in-first u v d ub vb p i h w =
      let new = passed_at (by u) u p i h in
      let outside : within v (at (P u p) i) ≡ false = rw new (not_both u v d _ (section_stays (by u) u ub p i w)) in
      tone_alike (by u) u p (P v p) (other_alike (by v) u v d vb p) i h w
      ∙ sym (out_tone (by v) v (P u p) i outside ∙ new)

  in-none : (u v : Pass) (p : List ℕ) (i : ℕ) → i < length p → within u (at p i) ≡ false
      → within v (at p i) ≡ false → T u (P v p) i ≡ at p i
  in-none u v p i h e f =
      let q : at (P v p) i ≡ at p i = passed_at (by v) v p i h ∙ out_tone (by v) v p i f in
      out_tone (by u) u (P v p) i (ap (within u) q ∙ e) ∙ q

  module _ (s t : Pass) (d : Disjoint s t) (sb : s.a ≤ s.b) (tb : t.a ≤ t.b) (p : List ℕ) where
    pub counts_stay : (f : List ℕ → Bool) → component_count f (by s) s (P t p) ≡ component_count f (by s) s p
    counts_stay = count_alike (by s) s p (P t p) (other_alike (by t) s t d tb p)

    pub commute : P s (P t p) ≡ P t (P s p)
    commute = ext_get_or 0 _ _ (len s t ∙ sym (len t s)) (λ i h. at_same i (subst (i <◌) (len s t) h))
      where
        len : (u v : Pass) → length (P u (P v p)) ≡ length p
        len u v = length_passed (by u) u (P v p) ∙ length_passed (by v) v p

        at-two : (u v : Pass) (i : ℕ) → i < length p → at (P u (P v p)) i ≡ T u (P v p) i
        at-two u v i h = passed_at (by u) u (P v p) i (subst (i <◌) (sym (length_passed (by v) v p)) h)

        at_same : (i : ℕ) → i < length p → at (P s (P t p)) i ≡ at (P t (P s p)) i
        at_same i h = at-two s t i h ∙ mid (within s (at p i)) (within t (at p i)) refl refl ∙ sym (at-two t s i h)
          where
            mid : (x y : Bool) → within s (at p i) ≡ x → within t (at p i) ≡ y → T s (P t p) i ≡ T t (P s p) i
            mid true y e f = in-first s t d sb tb p i h e
            mid false true e f = sym (in-first t s (turn s t d) tb sb p i h f)
            mid false false e f = in-none s t p i h e f ∙ sym (in-none t s p i h f e)
