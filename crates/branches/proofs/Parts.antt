-- A section that was treated: what it leaves of values and marks, and that a part of it whose values the next marks
-- pick by one number has that number in whole components, all but inert ones; of those, the ones of sufficient area are
-- the lone components of the section. For any neighbour relation, symmetric where components are asked for. Assumes
-- nothing.
use Prim.Native.Nat.{ℕ, ◌≤◌, ◌<◌}
use mathlib.Core.Path.{◌≡◌, refl, sym, ap, ap₂, subst, ◌∙◌}
use mathlib.Core.Logic.{◌⊎◌, inl, inr}
use mathlib.Core.Bool.{Bool, true, false, cond, not, ◌&&◌, true≢false, and-true, and-false}
use mathlib.Core.List.{List}
use mathlib.Mathlib.Data.Bool.Basic.{and_elim_left, and_elim_right}
use native.Mathlib.Omega.{arith}
use lib.ListN.{length}
use lib.Dec.{leb, ltb, eqb}
use borrow.Author.Tests.{eq-eqb, ne_eqb, eqb-true, ltb-true, lt-leb}
use Rattle.planes.specs.Lists.{at}
use Rattle.planes.specs.Neighbours.{Near, first}
use Rattle.planes.specs.Shapes.{Symmetric}
use Rattle.planes.proofs.Tests.{decide, eq_or_not, less_or_not, or_cases, or_none, and_middle}
use Rattle.planes.proofs.Links.{link_near}
use Rattle.rows.specs.Stretches.{None}
use Rattle.model.specs.declared.Pass.{Pass}
use Rattle.tones.specs.declared.Rule.{Rule}
use Rattle.tones.specs.Lone.{lone}
use Rattle.model.specs.Passes.{within, inside, component_values, sufficient, new_tone, passed, counted}
use Rattle.model.proofs.Components.{out_tone, linked_values}
use Rattle.model.proofs.Order.{in-of, in-to, passed_at}
use Rattle.model.proofs.Apart.{section_stays}
use Rattle.painting.specs.Painting.{number}
use Rattle.sections.specs.Sections.{Coded, Treated}
use Rattle.retoning.specs.Retoning.{small, inert, leaves}
use Rattle.painting.specs.declared.Next.{Next}
use Rattle.retoning.specs.declared.Treatment.{Treatment}
use Rattle.retoning.proofs.Inert.{Part, part_within, was_within, inside_part, inert_part, no_larger}
use Rattle.retoning.proofs.Inert.{lone_values, lone_first}

-- ## Values

abbrev pub Inside : ℕ → ℕ → ℕ → Type 0
Inside a b v = (a ≤ v) × (v ≤ b)

abbrev pub Outside : ℕ → ℕ → ℕ → Type 0
Outside a b v = (v < a) ⊎ (b < v)

pub where-is : (a b v : ℕ) → Inside a b v ⊎ Outside a b v
where-is a b v = elim (less_or_not v a) [
  | inl h ↦ inr (inl h)
  | inr h ↦ elim (less_or_not b v) [ inl k ↦ inr (inr k) | inr k ↦ inl (h, k) ]
]

pub not_within : (s : Pass) (v : ℕ) → Outside s.a s.b v → within s v ≡ false
not_within s v o = elim (decide (within s v)) [
  | inl e ↦ absurd (elim o [ inl h ↦ omega (arith, in-of s v e, h) | inr h ↦ omega (arith, in-of s v e, h) ])
  | inr e ↦ e
]

-- ## A part

-- of the section s, the next marks give the number x to the values of its part t, and to no others; x is new
pub record Picks (n : ℕ) (marks : List ℕ) (u : Next) (s t : Pass) (x : ℕ) : Type 0 where
  pub part : Part s t
  pub real : 1 ≤ x
  pub fresh : (p : ℕ) → p < n → at marks p ≡ x → ⊥
  pub given : (v : ℕ) → within t v ≡ true → number u v ≡ x
  pub only : (v : ℕ) → within s v ≡ true → number u v ≡ x → within t v ≡ true

-- ## A treated section

module _ {near : Near} {n code : ℕ} {r : Treatment} {s : Pass} {u : Next}
    {plane marks queue plane' marks' queue' : List ℕ}
    (ab : s.a ≤ s.b) (whole : length plane ≡ n)
    (T : Treated near n code s u plane marks queue plane' marks' queue' r) where
  new-at : (p : ℕ) → p < n → at plane' p ≡ new_tone near s plane p
  new-at p l = ap (λ (q : List ℕ). at q p) T.plane_is ∙ passed_at near s plane p (omega arith)

  pub stays_within : (p : ℕ) → p < n → within s (at plane p) ≡ true → within s (at plane' p) ≡ true
  stays_within p l e = ap (within s) (new-at p l) ∙ section_stays near s ab plane p e

  pub in_stays : (p : ℕ) → p < n → Inside s.a s.b (at plane p) → Inside s.a s.b (at plane' p)
  in_stays p l i = in-of s (at plane' p) (stays_within p l (in-to s (at plane p) i.0 i.1))

  pub out_stays : (p : ℕ) → p < n → Outside s.a s.b (at plane p) → at plane' p ≡ at plane p
  out_stays p l o = new-at p l ∙ out_tone near s plane p (not_within s (at plane p) o)

  abbrev still : ℕ → Bool
  still p = inert s (component_values near s plane p)

  -- a pixel's mark, by whether it had the code, and whether its component is inert
  by-mark : (p : ℕ) → p < n → (x y : Bool) → eqb (at marks p) code ≡ x → still p ≡ y
      → at marks' p ≡ cond x (cond y 0 (number u (at plane' p))) (at marks p)
  by-mark p l x y e f =
      T.numbered p l ∙ ap₂ (λ (x y : Bool). cond x (cond y 0 (number u (at plane' p))) (at marks p)) e f

  -- a pixel without the code keeps its mark; one with it gets 0 or its next mark
  pub mark_stays : (p : ℕ) → p < n → (at marks p ≡ code → ⊥) → at marks' p ≡ at marks p
  mark_stays p l f = by-mark p l false (still p) (ne_eqb (at marks p) code f) refl

  pub mark_next : (p : ℕ) → p < n → at marks p ≡ code
      → (at marks' p ≡ 0) ⊎ ((at marks' p ≡ u.low) ⊎ (at marks' p ≡ u.high))
  mark_next p l e = go (still p) (leb (at plane' p) u.mid) refl refl
    where
      go : (x y : Bool) → still p ≡ x → leb (at plane' p) u.mid ≡ y
          → (at marks' p ≡ 0) ⊎ ((at marks' p ≡ u.low) ⊎ (at marks' p ≡ u.high))
      go true y d f = inl (by-mark p l true true (eq-eqb _ _ e) d)
      go false true d f =
          inr (inl (by-mark p l true false (eq-eqb _ _ e) d ∙ ap (λ (y : Bool). cond y u.low u.high) f))
      go false false d f =
          inr (inr (by-mark p l true false (eq-eqb _ _ e) d ∙ ap (λ (y : Bool). cond y u.low u.high) f))

  -- its part t, with the number x
  module _ {t : Pass} {x : ℕ} (P : Picks n marks u s t x) where
    -- a pixel that has the part's number had the section's, and is of no inert component
    had-code : (p : ℕ) → p < n → at marks' p ≡ x
        → (at marks p ≡ code) × ((still p ≡ false) × (number u (at plane' p) ≡ x))
    had-code p h e = go (eqb (at marks p) code) (still p) refl refl
      where
        go : (y z : Bool) → eqb (at marks p) code ≡ y → still p ≡ z
            → (at marks p ≡ code) × ((still p ≡ false) × (number u (at plane' p) ≡ x))
        go true true d f = absurd (omega (arith, sym (by-mark p h true true d f) ∙ e, P.real))
        go true false d f = (eqb-true _ _ d, (f, sym (by-mark p h true false d f) ∙ e))
        go false y d f = absurd (P.fresh p h (sym (by-mark p h false y d f) ∙ e))

    -- where the treatment gave none the part's number, no pixel has it
    pub part_none : ((p : ℕ) → p < n → at marks p ≡ code → still p ≡ false → number u (at plane' p) ≡ x → ⊥)
        → None marks' x 0 n
    part_none unmet p _ h e = let c = had-code p h e in unmet p h c.0 c.1.0 c.1.1

    gets_code : (p : ℕ) → p < n → at marks p ≡ code → still p ≡ false → within t (at plane' p) ≡ true → at marks' p ≡ x
    gets_code p h e f d = by-mark p h true false (eq-eqb _ _ e) f ∙ P.given (at plane' p) d

    -- components are alike from both of their pixels
    module _ (symm : Symmetric near) (K : Coded near n code s plane marks) where
      -- what the laws of a pass say of its plane, they say of the plane that is left
      abbrev q : List ℕ
      q = passed near s plane

      as_passed : (p : ℕ) {y : Bool} → within t (at plane' p) ≡ y → within t (at q p) ≡ y
      as_passed p {y} d = subst (λ (m : List ℕ). within t (at m p) ≡ y) T.plane_is d

      was-in : (p : ℕ) → p < n → within t (at plane' p) ≡ true → within s (at plane p) ≡ true
      was-in p h d =
          was_within near symm s t P.part plane p (omega arith) (part_within P.part (at q p) (as_passed p d))

      is-still : (p : ℕ) → p < n → within t (at plane' p) ≡ true → (at marks' p ≡ x → ⊥) → still p ≡ true
      is-still p h d f = elim (decide (still p)) [
        | inl e ↦ e
        | inr e ↦ elim (eq_or_not (at marks p) code) [
          | inl c ↦ absurd (f (gets_code p h c e d))
          | inr c ↦ K.others p h (was-in p h d) c
        ]
      ]

      -- a neighbour in the part gets the part's number too
      whole_part : (i j : ℕ) → i < n → j < n → inside near t plane' i j ≡ true → at marks' i ≡ x → at marks' j ≡ x
      unfolding inside
      whole_part i j hi hj e c =
          let had = had-code i hi c in
          let was = inside_part near symm s t P.part plane i j (omega arith) (omega arith)
          (subst (λ (m : List ℕ). inside near t m i j ≡ true) T.plane_is e) in
          let same = linked_values near symm s plane i j (omega arith) (omega arith)
          (link_near (inside near s plane) (length plane) was) in
          let both = and_elim_left (within t (at plane' i) && within t (at plane' j)) (near i j) e in
          gets_code j hj (K.whole i j hi hj was had.0) (ap (inert s) (sym same) ∙ had.1.0)
          (and_elim_right (within t (at plane' i)) (within t (at plane' j)) both)

      pub part_coded : Coded near n x t plane' marks'
      part_coded = record {
        coded = λ p h e.
            let had = had-code p h e in
            P.only (at plane' p) (stays_within p h (K.coded p h had.0)) had.1.1;
        whole = whole_part;
        others = λ p h d f.
            subst (λ (m : List ℕ). inert t (component_values near t m p) ≡ true) (sym T.plane_is)
            (inert_part near symm s t P.part plane p (omega arith) (is-still p h d f));
      }

      -- ## The part's components of sufficient area that have not its number

      abbrev vs : ℕ → List ℕ
      vs p = component_values near s plane p

      abbrev leader : ℕ → Bool
      leader p = first (length plane) (inside near s plane) p

      has-number : (p : ℕ) → p < n → within t (at plane' p) ≡ true → still p ≡ false → at marks' p ≡ x
      has-number p h d e = elim (eq_or_not (at marks' p) x) [
        | inl c ↦ c
        | inr c ↦ absurd (true≢false (sym (is-still p h d c) ∙ e))
      ]

      -- a component that is not lone does not count
      not_left : (p : ℕ) → lone s.rule (vs p) ≡ false → counted (leaves t) near s plane p ≡ false
      unfolding leaves
      not_left p e =
          let alone : lone t.rule (vs p) ≡ false = ap (λ (r : Rule). lone r (vs p)) P.part.rule ∙ e in
          ap (λ (u : Bool). within s (at plane p) && (sufficient t (vs p) && u) && leader p) alone
          ∙ ap (λ (u : Bool). within s (at plane p) && u && leader p) (and-false (sufficient t (vs p)))
          ∙ and_middle (within s (at plane p)) false (leader p) refl

      lively-shared : (p : ℕ) → still p ≡ false → lone s.rule (vs p) ≡ false
      unfolding inert
      lively-shared p e = (or_none (small s (vs p)) (lone s.rule (vs p)) e).1

      inert-few : (p : ℕ) → still p ≡ true → lone s.rule (vs p) ≡ false → length (vs p) < s.area
      unfolding inert small
      inert-few p e shared = elim (or_cases (ltb (length (vs p)) s.area) (lone s.rule (vs p)) e) [
        | inl c ↦ ltb-true (length (vs p)) s.area c
        | inr c ↦ absurd (true≢false (sym c ∙ shared))
      ]

      -- an inert component counts in the part where it is lone, as it did in the section
      inert-at : (p : ℕ) → p < n → within t (at plane' p) ≡ true → still p ≡ true
          → (lone s.rule (vs p) ≡ true) ⊎ (lone s.rule (vs p) ≡ false)
          → counted (sufficient t) near t q p ≡ counted (leaves t) near s plane p
      unfolding leaves
      inert-at p h d e (inl alone) =
          let here = as_passed p d in
          let lp : p < length plane = omega (arith, whole) in
          let values = lone_values near symm s t P.part plane p lp e alone here in
          let firsts = lone_first near symm s t P.part plane p lp e alone here in
          let too : lone t.rule (vs p) ≡ true = ap (λ (r : Rule). lone r (vs p)) P.part.rule ∙ alone in
          ap₂ (λ (ws : List ℕ) (f : Bool). within t (at q p) && sufficient t ws && f) values firsts
          ∙ ap₂ (λ (u v : Bool). u && v && leader p) (here ∙ sym (was-in p h d))
          (sym (and-true (sufficient t (vs p))) ∙ ap (sufficient t (vs p) &&◌) (sym too))
      inert-at p h d e (inr shared) =
          let few = inert-few p e shared in
          let larger = no_larger near symm s t P.part plane p (omega (arith, whole)) in
          let fewer : length (component_values near t q p) < t.area = omega (arith, P.part.area) in
          ap (λ (u : Bool). within t (at q p) && u && first (length q) (inside near t q) p)
          (lt-leb t.area (length (component_values near t q p)) fewer)
          ∙ and_middle (within t (at q p)) false (first (length q) (inside near t q) p) refl
          ∙ sym (not_left p shared)

      -- they are the lone components of the section that are in the part
      pub gone_at : (p : ℕ) → p < n
          → (not (eqb (at marks' p) x) && counted (sufficient t) near t plane' p)
          ≡ (within t (at plane' p) && counted (leaves t) near s plane p)
      gone_at p h = elim (decide (within t (at plane' p))) [
        | inl d ↦ elim (decide (still p)) [
          | inl e ↦
              ap (λ (u : Bool). not u && counted (sufficient t) near t plane' p)
              (ne_eqb _ _ (λ c. true≢false (sym e ∙ (had-code p h c).1.0)))
              ∙ ap (λ (m : List ℕ). counted (sufficient t) near t m p) T.plane_is
              ∙ inert-at p h d e (decide (lone s.rule (vs p)))
              ∙ sym (ap (◌&& counted (leaves t) near s plane p) d)
          | inr e ↦
              ap (λ (u : Bool). not u && counted (sufficient t) near t plane' p) (eq-eqb _ _ (has-number p h d e))
              ∙ sym (ap₂ ◌&&◌ d (not_left p (lively-shared p e)))
        ]
        | inr d ↦
            ap (λ (u : Bool). not (eqb (at marks' p) x) && (u && sufficient t (component_values near t plane' p)
            && first (length plane') (inside near t plane') p)) d
            ∙ and-false (not (eqb (at marks' p) x))
            ∙ sym (ap (◌&& counted (leaves t) near s plane p) d)
      ]
