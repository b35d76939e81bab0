-- An inert component stays as it is: neither the pass changes it, nor a later pass with the same rule and no smaller
-- least area on a part of its section. The components of the part lie in those of the section, so they are no larger,
-- and have no other values. For any symmetric neighbour relation. Assumes nothing.
use Prim.Native.Nat.{ℕ, ◌≤◌, ◌<◌}
use mathlib.Core.Path.{◌≡◌, refl, sym, ap, ap₂, subst, ◌∙◌}
use mathlib.Core.Logic.{inl, inr}
use mathlib.Core.Bool.{Bool, true, false, not, ◌&&◌, ◌||◌, true≢false, and-false}
use mathlib.Core.List.{List, map}
use mathlib.Mathlib.Data.Bool.Basic.{or_inl, or_inr, and_elim_left, and_elim_right, and_intro}
use native.Mathlib.Omega.{arith}
use lib.ListN.{length}
use lib.Dec.{leb, ltb, eqb}
use borrow.Author.Tests.{eqb-true, ltb-true, lt-ltb, lt-leb}
use Rattle.planes.specs.Lists.{from, every, count, at}
use Rattle.planes.specs.Shapes.{Symmetric}
use Rattle.planes.specs.Neighbours.{Near, linked, component, first}
use Rattle.planes.proofs.Tests.{decide, same_test, or_cases, or_none}
use Rattle.planes.proofs.Counts.{keep_same, count_mono_from}
use Rattle.planes.proofs.Lists.{every_same, map_same}
use Rattle.planes.proofs.Links.{link_refl, link_near, link_trans, link_sym, chain_map, linked_iff}
use Rattle.tones.specs.declared.Rule.{Rule}
use Rattle.histograms.specs.Histograms.{Alike}
use Rattle.tones.specs.Tones.{kept}
use Rattle.tones.specs.Lone.{lone}
use Rattle.tones.proofs.Lone.{lone_kept, lone_alike, lone_part, lone_one}
use Rattle.model.specs.declared.Pass.{Pass}
use Rattle.model.specs.Passes.{within, inside, component_values, sufficient, changes, kept_back, passed}
use Rattle.model.proofs.Components.{values_length, every_value, value_every, inside_sym, out_tone, linked_values}
use Rattle.model.proofs.Components.{still_tone}
use Rattle.model.proofs.Sets.{linked_in}
use Rattle.model.proofs.Order.{in-of, in-to, length_passed, passed_at}
use Rattle.retoning.specs.Retoning.{small, inert, leaves}

-- ## An inert component is not changed

pub inert_still : (s : Pass) (vs : List ℕ) → inert s vs ≡ true → changes s vs ≡ false
unfolding inert small changes
inert_still s vs e = elim (or_cases (ltb (length vs) s.area) (lone s.rule vs) e) [
  | inl d ↦ ap (◌&& not (kept s.rule s.a s.b vs)) (lt-leb s.area (length vs) (ltb-true _ _ d))
  | inr d ↦ ap (λ (t : Bool). leb s.area (length vs) && not t) (lone_kept s.rule s.a s.b vs d)
      ∙ and-false (leb s.area (length vs))
]

-- one of sufficient area is lone, and so kept back

pub inert_lone : (s : Pass) (vs : List ℕ) → inert s vs ≡ true → sufficient s vs ≡ true → lone s.rule vs ≡ true
unfolding inert small
inert_lone s vs e many = elim (or_cases (ltb (length vs) s.area) (lone s.rule vs) e) [
  | inl d ↦ absurd (true≢false (sym many ∙ lt-leb s.area (length vs) (ltb-true _ _ d)))
  | inr d ↦ d
]

pub inert_leaves : (s : Pass) (vs : List ℕ) → inert s vs ≡ true → leaves s vs ≡ sufficient s vs
unfolding leaves
inert_leaves s vs e = elim (decide (sufficient s vs)) [
  | inl d ↦ ap₂ ◌&&◌ d (inert_lone s vs e d) ∙ sym d
  | inr d ↦ ap (◌&& lone s.rule vs) d ∙ sym d
]

pub inert_kept : (s : Pass) (vs : List ℕ) → inert s vs ≡ true → kept_back s vs ≡ sufficient s vs
unfolding kept_back
inert_kept s vs e = elim (decide (sufficient s vs)) [
  | inl d ↦ ap₂ ◌&&◌ d (lone_kept s.rule s.a s.b vs (inert_lone s vs e d)) ∙ sym d
  | inr d ↦ ap (◌&& kept s.rule s.a s.b vs) d ∙ sym d
]

-- a component that is not inert does not leave
pub lively_stays : (s : Pass) (vs : List ℕ) → inert s vs ≡ false → leaves s vs ≡ false
unfolding inert leaves
lively_stays s vs e =
    let alone = (or_none (small s vs) (lone s.rule vs) e).1 in
    ap (sufficient s vs &&◌) alone ∙ and-false (sufficient s vs)

-- ## The same values in another order

pub inert_alike : (s : Pass) (vs ws : List ℕ) → Alike vs ws → inert s vs ≡ inert s ws
unfolding inert small
inert_alike s vs ws A = ap₂ ◌||◌ (ap (λ (k : ℕ). ltb k s.area) A.size) (lone_alike s.rule A)

-- ## A part of the section

-- t is a pass on a part of the section of s, with the same rule and neighbours and no smaller least area
pub record Part (s t : Pass) : Type 0 where
  pub low : s.a ≤ t.a
  pub high : t.b ≤ s.b
  pub area : s.area ≤ t.area
  pub rule : t.rule ≡ s.rule
  pub neighbours : t.neighbours ≡ s.neighbours

pub part_within : {s t : Pass} → Part s t → (v : ℕ) → within t v ≡ true → within s v ≡ true
part_within {s} {t} P v e =
    let i = in-of t v e in
    in-to s v (omega (arith, P.low)) (omega (arith, P.high))

module _ (near : Near) (symm : Symmetric near) (s t : Pass) (P : Part s t) (p : List ℕ) where
  abbrev n : ℕ
  n = length p

  -- the plane after the pass on s
  abbrev q : List ℕ
  q = passed near s p

  pub was_within : (i : ℕ) → i < n → within s (at q i) ≡ true → within s (at p i) ≡ true
  was_within i h e = go (within s (at p i)) refl
    where
      go : (b : Bool) → within s (at p i) ≡ b → within s (at p i) ≡ true
      go true d = d
      go false d = ap (within s) (sym (passed_at near s p i h ∙ out_tone near s p i d)) ∙ e

  pub inside_part : (u v : ℕ) → u < n → v < n → inside near t q u v ≡ true → inside near s p u v ≡ true
  unfolding inside
  inside_part u v hu hv e =
      let both = and_elim_left (within t (at q u) && within t (at q v)) (near u v) e in
      let wu = part_within P (at q u) (and_elim_left (within t (at q u)) (within t (at q v)) both) in
      let wv = part_within P (at q v) (and_elim_right (within t (at q u)) (within t (at q v)) both) in
      let e' = and_elim_right (within t (at q u) && within t (at q v)) (near u v) e in
      and_intro (and_intro (was_within u hu wu) (was_within v hv wv)) e'

  -- a component of the part lies in one of the section
  pub linked_part : (i x : ℕ) → i < n → x < n → linked (inside near t q) n i x ≡ true
      → linked (inside near s p) n i x ≡ true
  linked_part i x hi hx e =
      let c = (linked_iff (inside near t q) n i x hi hx).0 e in
      (linked_iff (inside near s p) n i x hi hx).1 (chain_map n (inside near t q) (inside near s p) inside_part hi c).1

  same_size : length q ≡ n
  same_size = length_passed near s p

  pub no_larger : (i : ℕ) → i < n → length (component_values near t q i) ≤ length (component_values near s p i)
  no_larger i hi =
      let larger = values_length near s p i in
      let smaller =
      values_length near t q i
      ∙ ap (λ (k : ℕ). count (linked (inside near t q) k i) (from 0 k)) same_size in
      let fewer = count_mono_from (linked (inside near t q) n i) (linked (inside near s p) n i) 0 n
      (λ x _ h d. linked_part i x hi (omega arith) d) in
      omega arith

  -- a component of the part has no other values
  one-part : (i : ℕ) → i < n → inert s (component_values near s p i) ≡ true
      → (v : ℕ) → every (eqb v) (component_values near s p i) ≡ true
      → every (eqb v) (component_values near t q i) ≡ true
  one-part i hi e v one = every_value near t q i (eqb v) (λ x hx d.
      let hx' : x < n = omega (arith, same_size) in
      let d' = subst (λ (k : ℕ). linked (inside near t q) k i x ≡ true) same_size d in
      let l = linked_part i x hi hx' d' in
      let still : changes s (component_values near s p x) ≡ false =
      ap (changes s) (sym (linked_values near symm s p i x hi hx' l)) ∙ inert_still s (component_values near s p i) e in
      let old : at q x ≡ at p x = passed_at near s p x hx' ∙ still_tone near s p x still in
      ap (eqb v) old ∙ value_every near s p i (eqb v) one x hx' l)

  -- an inert component of the section: the components of the part in it are inert
  pub inert_part : (i : ℕ) → i < n → inert s (component_values near s p i) ≡ true
      → inert t (component_values near t q i) ≡ true
  unfolding inert small
  inert_part i hi e = elim (or_cases (ltb (length vs) s.area) (lone s.rule vs) e) [
    | inl d ↦
        let few = ltb-true (length vs) s.area d in
        let small : length ws < t.area = omega (arith, no_larger i hi, P.area) in
        or_inl _ _ (lt-ltb (length ws) t.area small)
    | inr d ↦
        let one = lone_part s.rule vs ws (one-part i hi e) d in
        or_inr (ltb (length ws) t.area) _ (subst (λ (rule : Rule). lone rule ws ≡ true) (sym P.rule) one)
  ]
    where
      vs : List ℕ
      vs = component_values near s p i

      ws : List ℕ
      ws = component_values near t q i

  -- ## A lone component of the section is a component of the part

  module _ (i : ℕ) (hi : i < n) (e : inert s (component_values near s p i) ≡ true)
      (alone : lone s.rule (component_values near s p i) ≡ true) (held : within t (at q i) ≡ true) where
    -- its pixels
    abbrev Mine : ℕ → Bool
    Mine = linked (inside near s p) n i

    -- they stay as they are
    old_value : (x : ℕ) → x < n → Mine x ≡ true → at q x ≡ at p x
    old_value x hx d =
        let still : changes s (component_values near s p x) ≡ false =
        ap (changes s) (sym (linked_values near symm s p i x hi hx d))
        ∙ inert_still s (component_values near s p i) e in
        passed_at near s p x hx ∙ still_tone near s p x still

    -- and have one value, which is in the part
    in-part : (x : ℕ) → x < n → Mine x ≡ true → within t (at q x) ≡ true
    in-part x hx d =
        let v : ℕ = at (component_values near s p i) 0 in
        let all = lone_one s.rule (component_values near s p i) alone in
        let self = link_refl (inside near s p) n i in
        let one : at q x ≡ at q i = old_value x hx d
        ∙ sym (eqb-true v (at p x) (value_every near s p i (eqb v) all x hx d))
        ∙ eqb-true v (at p i) (value_every near s p i (eqb v) all i hi self)
        ∙ sym (old_value i hi self) in
        ap (within t) one ∙ held

    closed : (x y : ℕ) → x < n → y < n → Mine x ≡ true → inside near s p x y ≡ true → Mine y ≡ true
    closed x y hx hy d c = link_trans (inside near s p) n i x y hx d (link_near (inside near s p) n c)

    both-in : (x y : ℕ) → inside near s p x y ≡ true → within t (at q x) ≡ true → within t (at q y) ≡ true
        → inside near t q x y ≡ true
    unfolding inside
    both-in x y c wx wy =
        and_intro (and_intro wx wy) (and_elim_right (within s (at p x) && within s (at p y)) (near x y) c)

    inside-same : (x y : ℕ) → x < n → y < n → Mine x ≡ true → inside near t q x y ≡ inside near s p x y
    inside-same x y hx hy d = same_test (inside near t q x y) (inside near s p x y)
        (λ c. inside_part x y hx hy c)
        (λ c. both-in x y c (in-part x hx d) (in-part y hy (closed x y hx hy d c)))

    links-same : (x : ℕ) → x < n → linked (inside near t q) n i x ≡ linked (inside near s p) n i x
    links-same x hx = linked_in n (inside near t q) (inside near s p) Mine inside-same closed i x hi hx
        (link_refl (inside near s p) n i)

    pub lone_values : component_values near t q i ≡ component_values near s p i
    unfolding component_values component
    lone_values = rw same_size (ap (map (at q)) (keep_same _ _ 0 n (λ x _ h. links-same x (omega arith)))
        ∙ map_same Mine (at q) (at p) 0 n (λ x _ h d. old_value x (omega arith) d))

    pub lone_first : first (length q) (inside near t q) i ≡ first n (inside near s p) i
    unfolding first
    lone_first = rw same_size (every_same _ _ 0 i (λ x _ h. ap not
        (link_sym (inside near t q) (inside_sym near symm t q) n x i
        ∙ links-same x (omega arith)
        ∙ link_sym (inside near s p) (inside_sym near symm s p) n i x)))
