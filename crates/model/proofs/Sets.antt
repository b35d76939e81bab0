-- Sets of pixels as lists in reading order: members, links that stay in a set, components by their first pixels, and
-- several sets together. Assumes nothing.
use Prim.Native.Nat.{ℕ, zero, suc, ◌+◌, ◌≤◌, ◌<◌, zero-le}
use mathlib.Core.Path.{◌≡◌, refl, sym, ap, ap₂, ◌∙◌}
use mathlib.Core.Logic.{◌⊎◌, inl, inr}
use mathlib.Core.Bool.{Bool, true, false, cond, ◌&&◌, ◌||◌, true≢false, false≢true, and_comm}
use mathlib.Core.List.{List, [], ◌∷◌, map}
use mathlib.Mathlib.Data.Bool.Basic.{or_inl, or_inr, and_elim_left, and_elim_right, and_intro}
use native.Mathlib.Nat.{le_refl, eq-or-lt_of_le}
use native.Mathlib.Omega.{arith}
use borrow.Author.Tests.{eq-eqb, ne_eqb}
use Rattle.planes.specs.Lists.{from, keep}
use Rattle.planes.specs.Permutations.{Permutation, empty, behind, swap, twice}
use Rattle.planes.specs.Shapes.{Symmetric}
use Rattle.planes.specs.Neighbours.{Near, Chain, here, step, linked, first}
use Rattle.planes.proofs.Tests.{or_cases, same_test, never, contra}
use Rattle.planes.proofs.Links.{linked_iff, link_near, link_refl, link_trans, link_sym}
use Rattle.planes.proofs.Fewer.{first_out, first_of}
use Rattle.model.specs.Published.{member, amid}

-- ## Members

-- no pixel before the stretch is kept
member_before : (f : ℕ → Bool) (i m x : ℕ) → x < i → member (keep f (from i m)) x ≡ false
unfolding member
member_before f i zero x h = refl
member_before f i (suc m) x h = go (f i) (member_before f (suc i) m x (omega arith))
  where
    rest : List ℕ
    rest = keep f (from (suc i) m)

    go : (t : Bool) → member rest x ≡ false → member (cond t (i ∷ rest) rest) x ≡ false
    go true e = ap₂ ◌||◌ (ne_eqb x i (λ q. absurd (omega arith))) e
    go false e = e

member_stretch : (f : ℕ → Bool) (i m x : ℕ) → i ≤ x → x < i + m → member (keep f (from i m)) x ≡ f x
unfolding member
member_stretch f i zero x l h = absurd (omega arith)
member_stretch f i (suc m) x l h = go (eq-or-lt_of_le l) (λ k. member_stretch f (suc i) m x k (omega arith)) (f i) refl
  where
    rest : List ℕ
    rest = keep f (from (suc i) m)

    go : (i ≡ x) ⊎ (i < x) → (i < x → member rest x ≡ f x) → (t : Bool) → f i ≡ t
        → member (cond t (i ∷ rest) rest) x ≡ f x
    go (inl q) ih true e = ap (◌|| member rest x) (eq-eqb x i (sym q)) ∙ sym (sym (ap f q) ∙ e)
    go (inl q) ih false e = member_before f (suc i) m x (omega arith) ∙ sym (sym (ap f q) ∙ e)
    go (inr k) ih true e = ap (◌|| member rest x) (ne_eqb x i (λ q. absurd (omega arith))) ∙ ih k
    go (inr k) ih false e = ih k

-- the members of a kept list are the pixels that pass the test
pub member_keep : (f : ℕ → Bool) (n x : ℕ) → x < n → member (keep f (from 0 n)) x ≡ f x
member_keep f n x h = member_stretch f 0 n x zero-le (omega arith)

-- ## Links that stay in a set

-- relations that agree on pairs that begin in A, and lead from A into A
module _ (n : ℕ) (R R' : Near) (A : ℕ → Bool)
    (same : (u v : ℕ) → u < n → v < n → A u ≡ true → R u v ≡ R' u v)
    (closed : (u v : ℕ) → u < n → v < n → A u ≡ true → R' u v ≡ true → A v ≡ true) where
  chain-to : {i j : ℕ} → i < n → A i ≡ true → Chain R n i j → (j < n) × (A j ≡ true) × Chain R' n i j
  chain-to h a here = (h, a, here)
  chain-to h a (step {j = u} {k = v} c e hv) =
      let r = chain-to h a c in
      let e' = sym (same u v r.0 hv r.1) ∙ e in
      (hv, closed u v r.0 hv r.1 e', step r.2 e' hv)

  chain_back : {i j : ℕ} → i < n → A i ≡ true → Chain R' n i j → (j < n) × (A j ≡ true) × Chain R n i j
  chain_back h a here = (h, a, here)
  chain_back h a (step {j = u} {k = v} c e hv) =
      let r = chain_back h a c in
      (hv, closed u v r.0 hv r.1 e, step r.2 (same u v r.0 hv r.1 ∙ e) hv)

  -- from a pixel of A the two lead to the same pixels, all of A
  pub linked_in : (i j : ℕ) → i < n → j < n → A i ≡ true → linked R n i j ≡ linked R' n i j
  linked_in i j hi hj a = same_test (linked R n i j) (linked R' n i j)
      (λ d. (linked_iff R' n i j hi hj).1 (chain-to hi a ((linked_iff R n i j hi hj).0 d)).2)
      (λ d. (linked_iff R n i j hi hj).1 (chain_back hi a ((linked_iff R' n i j hi hj).0 d)).2)

  pub linked_stays : (i j : ℕ) → i < n → j < n → A i ≡ true → linked R' n i j ≡ true → A j ≡ true
  linked_stays i j hi hj a d = (chain_back hi a ((linked_iff R' n i j hi hj).0 d)).1

-- ## Neighbours in a set

-- of the n pixels those that pass a test, as a list
abbrev pub pixels_of : ℕ → (ℕ → Bool) → List ℕ
pixels_of n A = keep A (from 0 n)

module _ (near : Near) (n : ℕ) (A : ℕ → Bool) where
  abbrev R : Near
  R = amid near (pixels_of n A)

  pub amid_is : (u v : ℕ) → u < n → v < n → R u v ≡ (A u && A v && near u v)
  unfolding amid
  amid_is u v hu hv = ap₂ (λ (s t : Bool). s && t && near u v) (member_keep A n u hu) (member_keep A n v hv)

  pub amid_of : (u v : ℕ) → u < n → v < n → A u ≡ true → A v ≡ true → near u v ≡ true → R u v ≡ true
  amid_of u v hu hv a b e = amid_is u v hu hv ∙ and_intro (and_intro a b) e

  pub amid_to : (u v : ℕ) → u < n → v < n → R u v ≡ true → A v ≡ true
  amid_to u v hu hv e = and_elim_right (A u) (A v) (and_elim_left (A u && A v) (near u v) (sym (amid_is u v hu hv) ∙ e))

  pub amid_near : (u v : ℕ) → u < n → v < n → R u v ≡ true → near u v ≡ true
  amid_near u v hu hv e = and_elim_right (A u && A v) (near u v) (sym (amid_is u v hu hv) ∙ e)

  -- a component of a set lies in the set
  pub linked_to : (i x : ℕ) → i < n → x < n → A i ≡ true → linked R n i x ≡ true → A x ≡ true
  linked_to = linked_stays n R R A (λ u v hu hv a. refl) (λ u v hu hv a e. amid_to u v hu hv e)

  pub amid_sym : ((i j : ℕ) → near i j ≡ near j i) → (u v : ℕ) → R u v ≡ R v u
  unfolding amid
  amid_sym symm u v = ap₂ ◌&&◌ (and_comm (member (pixels_of n A) u) (member (pixels_of n A) v)) (symm u v)

-- ## Components

-- no pixel of one set is in the other, or a neighbour of one of the other
pub record Separate (near : Near) (n : ℕ) (A B : ℕ → Bool) : Type 0 where
  pub disjoint : (x : ℕ) → x < n → A x ≡ true → B x ≡ false
  pub far : (x y : ℕ) → x < n → y < n → A x ≡ true → B y ≡ true → near x y ≡ false

pub separate_turn : {near : Near} {n : ℕ} {A B : ℕ → Bool} → ((i j : ℕ) → near i j ≡ near j i) → Separate near n A B
    → Separate near n B A
separate_turn symm w = record {
  disjoint = λ x hx b. never (λ a. true≢false (sym b ∙ w.disjoint x hx a));
  far = λ x y hx hy b a. symm x y ∙ w.far y x hy hx a b;
}

module _ (near : Near) (symm : Symmetric near) (n : ℕ) (A : ℕ → Bool) where
  -- the pixels that are linked to k in A
  unfoldable pub part : ℕ → ℕ → Bool
  part k = linked (R near n A) n k

  -- k is the first pixel of a component
  abbrev pub heads : ℕ → Bool
  heads k = A k && first n (R near n A) k

  part-turn : (k x : ℕ) → part k x ≡ true → part x k ≡ true
  unfolding part
  part-turn k x c = link_sym (R near n A) (amid_sym near n A symm) n x k ∙ c

  part-trans : (i k x : ℕ) → k < n → part i k ≡ true → part k x ≡ true → part i x ≡ true
  unfolding part
  part-trans = link_trans (R near n A) n

  part-near : (k x y : ℕ) → x < n → part k x ≡ true → R near n A x y ≡ true → part k y ≡ true
  unfolding part
  part-near k x y hx c e = part-trans k x y hx c (link_near (R near n A) n e)

  part_in : (k x : ℕ) → k < n → x < n → A k ≡ true → part k x ≡ true → A x ≡ true
  unfolding part
  part_in = linked_to near n A

  pub part_self : (k : ℕ) → part k k ≡ true
  unfolding part
  part_self k = link_refl (R near n A) n k

  -- every pixel of A is in the part of a first pixel
  pub part_of : (x : ℕ) → x < n → A x ≡ true → (k : ℕ) × (k < n) × (heads k ≡ true) × (part k x ≡ true)
  unfolding part
  part_of x hx a =
      let y = first_of (R near n A) (amid_sym near n A symm) n x hx in
      (y.0, y.1, and_intro (part_in x y.0 hx y.1 a (part-turn y.0 x y.2)) y.3, y.2)

  module _ (k : ℕ) (hk : k < n) (head : heads k ≡ true) where
    pub part_set : (x : ℕ) → x < n → part k x ≡ true → A x ≡ true
    part_set x hx c = part_in k x hk hx (and_elim_left (A k) (first n (R near n A) k) head) c

    -- it is connected in itself
    pub part_joined : (x y : ℕ) → x < n → y < n → part k x ≡ true → part k y ≡ true
        → linked (amid near (pixels_of n (part k))) n x y ≡ true
    unfolding part
    part_joined x y hx hy c d =
        sym (linked_in n (R near n A) (R near n (part k)) (part k) same closed x y hx hy c)
        ∙ part-trans x k y hk (part-turn k x c) d
      where
        closed : (u v : ℕ) → u < n → v < n → part k u ≡ true → R near n (part k) u v ≡ true → part k v ≡ true
        closed u v hu hv c e = amid_to near n (part k) u v hu hv e

        same : (u v : ℕ) → u < n → v < n → part k u ≡ true → R near n A u v ≡ R near n (part k) u v
        same u v hu hv c = same_test (R near n A u v) (R near n (part k) u v)
            (λ e. amid_of near n (part k) u v hu hv c (part-near k u v hu c e) (amid_near near n A u v hu hv e))
            (λ e. amid_of near n A u v hu hv (part_set u hu c) (part_set v hv (closed u v hu hv c e))
            (amid_near near n (part k) u v hu hv e))

  -- the parts of two first pixels are separate
  pub parts_separate : (k l : ℕ) → k < l → l < n → heads k ≡ true → heads l ≡ true → Separate near n (part k) (part l)
  unfolding part
  parts_separate k l kl hl d e = record {
    disjoint = λ x hx c. contra (λ f. part-trans k x l hx c (part-turn l x f)) before;
    far = λ x y hx hy c f. contra (λ g. part-trans k y l hy (onward x y hx hy c f g) (part-turn l y f)) before;
  }
    where
      before : part k l ≡ false
      before = first_out n (R near n A) l (and_elim_right (A l) (first n (R near n A) l) e) k kl

      onward : (x y : ℕ) → x < n → y < n → part k x ≡ true → part l y ≡ true → near x y ≡ true → part k y ≡ true
      onward x y hx hy c f g =
          part-near k x y hx c
          (amid_of near n A x y hx hy (part_set k (omega arith) d x hx c) (part_set l hl e y hy f) g)

-- ## Several sets

-- i is in one of the sets
unfoldable pub any_of : List (List ℕ) → ℕ → Bool
any_of [] i = false
any_of (S ∷ Ss) i = member S i || any_of Ss i

or_swap : (s t u : Bool) → (s || (t || u)) ≡ (t || (s || u))
or_swap true true u = refl
or_swap true false u = refl
or_swap false t u = refl

pub any_reordered : {Ss Ts : List (List ℕ)} → Permutation Ss Ts → (x : ℕ) → any_of Ss x ≡ any_of Ts x
unfolding any_of
any_reordered empty x = refl
any_reordered (behind {x = S} r) x = ap (member S x ||◌) (any_reordered r x)
any_reordered (swap {x = S} {y = T} {xs = Ss}) x = or_swap (member S x) (member T x) (any_of Ss x)
any_reordered (twice r q) x = any_reordered r x ∙ any_reordered q x

-- sets by their numbers, of which those that pass a test are taken
module _ (g : ℕ → List ℕ) (f : ℕ → Bool) (x : ℕ) where
  -- the number of a set that is taken, from i on, and has x
  abbrev Taken : ℕ → ℕ → Type 0
  Taken i m = (l : ℕ) × (i ≤ l) × (l < i + m) × (f l ≡ true) × (member (g l) x ≡ true)

  pub any_out : (i m : ℕ) → any_of (map g (keep f (from i m))) x ≡ true → Taken i m
  unfolding any_of
  any_out i zero e = absurd (false≢true e)
  any_out i (suc m) e = go (f i) refl (any_out (suc i) m) e
    where
      rest : List ℕ
      rest = keep f (from (suc i) m)

      later : Taken (suc i) m → Taken i (suc m)
      later (l, h, k, d, c) = (l, omega arith, omega arith, d, c)

      go : (t : Bool) → f i ≡ t → (any_of (map g rest) x ≡ true → Taken (suc i) m)
          → any_of (map g (cond t (i ∷ rest) rest)) x ≡ true → Taken i (suc m)
      go true d out e = elim (or_cases (member (g i) x) (any_of (map g rest) x) e) [
        | inl c ↦ (i, le_refl i, omega arith, d, c)
        | inr c ↦ later (out c)
      ]
      go false d out e = later (out e)

  pub any_in : (i m l : ℕ) → i ≤ l → l < i + m → f l ≡ true → member (g l) x ≡ true
      → any_of (map g (keep f (from i m))) x ≡ true
  unfolding any_of
  any_in i zero l h k d c = absurd (omega arith)
  any_in i (suc m) l h k d c = go (f i) refl (eq-or-lt_of_le h) (λ q. any_in (suc i) m l q (omega arith) d c)
    where
      rest : List ℕ
      rest = keep f (from (suc i) m)

      go : (t : Bool) → f i ≡ t → (i ≡ l) ⊎ (i < l) → (i < l → any_of (map g rest) x ≡ true)
          → any_of (map g (cond t (i ∷ rest) rest)) x ≡ true
      go true e (inl q) ih = or_inl (member (g i) x) _ (ap (λ (j : ℕ). member (g j) x) q ∙ c)
      go true e (inr q) ih = or_inr (member (g i) x) _ (ih q)
      go false e (inl q) ih = absurd (true≢false (sym d ∙ sym (ap f q) ∙ e))
      go false e (inr q) ih = ih q
