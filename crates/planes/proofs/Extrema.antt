-- Where a plane keeps another's order, each of its regional maxima contains a whole one of the other; minima alike.
-- Over any symmetric neighbour relation, and over any total order of values: `leb` for maxima, `geb` for minima. In a
-- maximum of the second plane, the flat zone of the first plane with the greatest value is a maximum of the first.
-- Assumes nothing.
use Prim.Native.Nat.{ℕ, zero, suc, ◌<◌}
use mathlib.Core.Path.{◌≡◌, refl, sym, ap, ap₂, subst, ◌∙◌}
use mathlib.Core.Logic.{◌⊎◌, inl, inr}
use mathlib.Core.Bool.{Bool, true, false, not, ◌&&◌, true≢false}
use mathlib.Core.List.{List}
use mathlib.Mathlib.Data.Bool.Basic.{and_elim_left, and_elim_right, and_intro}
use native.Mathlib.Nat.{le_refl, le_trans, le_antisymm, not-suc-le-zero, eq-or-lt_of_le, le_of_suc-le-suc}
use native.Mathlib.Omega.{arith}
use lib.ListN.{length}
use lib.Arith.{lt_of_le-ne}
use lib.Dec.{leb, ltb, eqb}
use borrow.Author.Tests.{eqb-true, eq-eqb, leb-true, leb-false, le-leb, ltb-true, lt-ltb, not-true}
use Rattle.planes.specs.Lists.{at}
use Rattle.planes.specs.Neighbours.{Near, Chain, here, step, linked}
use Rattle.planes.specs.Extrema.{flat, extreme, gtb, Contains}
use Rattle.planes.proofs.Tests.{decide, eqb_sym, implies_out, implies_in}
use Rattle.planes.proofs.Lists.{every_out, every_in}
use Rattle.planes.proofs.Links.{chain_map, linked_iff, link_refl, link_near, link_trans}

-- ## The order that makes a maximum or a minimum

abbrev pub geb : ℕ → ℕ → Bool
geb x y = leb y x

-- a total order and its strict part, as tests
pub record Order (le lower : ℕ → ℕ → Bool) : Type 0 where
  pub refl' : (x : ℕ) → le x x ≡ true
  pub trans : (x y z : ℕ) → le x y ≡ true → le y z ≡ true → le x z ≡ true
  pub total : (x y : ℕ) → (le x y ≡ true) ⊎ (le y x ≡ true)
  pub anti : (x y : ℕ) → le x y ≡ true → le y x ≡ true → x ≡ y
  pub down : (x y : ℕ) → lower x y ≡ true → le x y ≡ true
  pub tight : (x y : ℕ) → le x y ≡ true → (x ≡ y → ⊥) → lower x y ≡ true

pub leb_order : Order leb ltb
leb_order = record {
  refl' = λ x. le-leb x x (le_refl x);
  trans = λ x y z e f. le-leb x z (le_trans (leb-true x y e) (leb-true y z f));
  total = λ x y. elim (decide (leb x y)) [ inl e ↦ inl e | inr e ↦ inr (le-leb y x (omega (arith, leb-false x y e))) ];
  anti = λ x y e f. le_antisymm (leb-true x y e) (leb-true y x f);
  down = λ x y e. le-leb x y (omega (arith, ltb-true x y e));
  tight = λ x y e n. lt-ltb x y (lt_of_le-ne (leb-true x y e) n);
}

pub geb_order : Order geb gtb
geb_order = record {
  refl' = leb_order.refl';
  trans = λ x y z e f. leb_order.trans z y x f e;
  total = λ x y. leb_order.total y x;
  anti = λ x y e f. leb_order.anti x y f e;
  down = λ x y e. leb_order.down y x e;
  tight = λ x y e n. leb_order.tight y x e (λ q. n (sym q));
}

-- neighbours in p keep their order in q
abbrev pub Steady : (ℕ → ℕ → Bool) → Near → List ℕ → List ℕ → Type 0
Steady le near p q =
    (i j : ℕ) → i < length p → j < length p → near i j ≡ true
    → le (at p i) (at p j) ≡ true → le (at q i) (at q j) ≡ true

-- ## The greatest value

-- a pixel below n + 1 is n or below n
last_or_less : {x n : ℕ} → x < suc n → (x ≡ n) ⊎ (x < n)
last_or_less h = eq-or-lt_of_le (le_of_suc-le-suc h)

module _ (le lower : ℕ → ℕ → Bool) (O : Order le lower) where
  -- among the pixels below n that pass a test, one with the greatest value
  pub record Best (f : ℕ → ℕ) (P : ℕ → Bool) (n : ℕ) : Type 0 where
    pub pixel : ℕ
    pub within : pixel < n
    pub passes : P pixel ≡ true
    pub tops : (x : ℕ) → x < n → P x ≡ true → le (f x) (f pixel) ≡ true

  module _ (f : ℕ → ℕ) (P : ℕ → Bool) where
    None : ℕ → Type 0
    None n = (x : ℕ) → x < n → P x ≡ true → ⊥

    -- one pixel more
    none_more : (n : ℕ) → None n → (P n ≡ true) ⊎ (P n ≡ false) → None (suc n) ⊎ Best f P (suc n)
    unfolding None
    none_more n none (inl e) = inr (record {
      pixel = n;
      within = le_refl (suc n);
      passes = e;
      tops = λ x h d. elim (last_or_less h) [ inl q ↦ rw q (O.refl' (f n)) | inr q ↦ absurd (none x q d) ];
    })
    none_more n none (inr e) = inl (λ x h d. elim (last_or_less h) [
      | inl q ↦ true≢false (sym d ∙ ap P q ∙ e)
      | inr q ↦ none x q d
    ])

    best-more : (n : ℕ) (b : Best f P n) → (P n ≡ true) ⊎ (P n ≡ false)
        → (le (f n) (f b.pixel) ≡ true) ⊎ (le (f b.pixel) (f n) ≡ true) → Best f P (suc n)
    best-more n b (inl e) (inl l) = record {
      pixel = b.pixel;
      within = omega (arith, b.within);
      passes = b.passes;
      tops = λ x h d. elim (last_or_less h) [ inl q ↦ rw q l | inr q ↦ b.tops x q d ];
    }
    best-more n b (inl e) (inr l) = record {
      pixel = n;
      within = le_refl (suc n);
      passes = e;
      tops = λ x h d. elim (last_or_less h) [
        | inl q ↦ rw q (O.refl' (f n))
        | inr q ↦ O.trans _ _ _ (b.tops x q d) l
      ];
    }
    best-more n b (inr e) l = record {
      pixel = b.pixel;
      within = omega (arith, b.within);
      passes = b.passes;
      tops = λ x h d. elim (last_or_less h) [
        | inl q ↦ absurd (true≢false (sym d ∙ ap P q ∙ e))
        | inr q ↦ b.tops x q d
      ];
    }

    best : (n : ℕ) → None n ⊎ Best f P n
    unfolding None
    best zero = inl (λ x h d. not-suc-le-zero h)
    best (suc n) = elim (best n) [
      | inl none ↦ none_more n none (decide (P n))
      | inr b ↦ inr (best-more n b (decide (P n)) (O.total (f n) (f b.pixel)))
    ]

    pub greatest_at : (n i : ℕ) → i < n → P i ≡ true → Best f P n
    unfolding None
    greatest_at n i h e = elim (best n) [ inl none ↦ absurd (none i h e) | inr b ↦ b ]

-- ## Flat zones

module _ (near : Near) (n : ℕ) where
  -- a chain in a flat zone has one value
  flat-value : (p : List ℕ) {i j : ℕ} → Chain (flat near p) n i j → at p i ≡ at p j
  unfolding flat
  flat-value p here = refl
  flat-value p (step {j = l} {k = k} c e h) = flat-value p c ∙ eqb-true (at p l) (at p k) (and_elim_left _ (near l k) e)

-- the pixels of one zone have one value
pub zone_value : (near : Near) (n : ℕ) (r : List ℕ) (u v : ℕ) → u < n → v < n
    → linked (flat near r) n u v ≡ true → at r u ≡ at r v
zone_value near n r u v hu hv e = flat-value near n r ((linked_iff (flat near r) n u v hu hv).0 e)

pub flat_sym : (near : Near) → ((i j : ℕ) → near i j ≡ near j i) → (p : List ℕ) (i j : ℕ)
    → flat near p i j ≡ flat near p j i
unfolding flat
flat_sym near symm p i j = ap₂ ◌&&◌ (eqb_sym (at p i) (at p j)) (symm i j)

pub flat_in : (near : Near) (p : List ℕ) (i j : ℕ) → at p i ≡ at p j → near i j ≡ true → flat near p i j ≡ true
unfolding flat
flat_in near p i j e f = and_intro (eq-eqb (at p i) (at p j) e) f

-- ## Extreme zones

module _ (le lower : ℕ → ℕ → Bool) (O : Order le lower) (near : Near) (p : List ℕ) (i : ℕ) (hi : i < length p) where
  -- the flat zone of i
  abbrev Zone : ℕ → Bool
  Zone = linked (flat near p) (length p) i

  -- no pixel next to the zone is above it; `extreme_out` and `extreme_in`: this is so exactly where the zone is extreme
  abbrev Bounded : Type 0
  Bounded = (j k : ℕ) → j < length p → k < length p → Zone j ≡ true → near j k ≡ true → le (at p k) (at p i) ≡ true

  pub extreme_out : extreme lower near p i ≡ true → Bounded
  unfolding extreme
  extreme_out e j k hj hk d f = elim (decide (Zone k)) [
    | inl z ↦ subst (λ (v : ℕ). le v (at p i) ≡ true) (zone_value near (length p) p i k hi hk z) (O.refl' (at p i))
    | inr z ↦
        let all = every_out _ (length p) (every_out _ (length p) e j hj) k hk in
        O.down (at p k) (at p i) (implies_out _ (lower (at p k) (at p i)) all (and_intro (and_intro d f) (ap not z)))
  ]

  -- a pixel next to the zone and outside it is lower
  outside-lower : Bounded → (j k : ℕ) → j < length p → k < length p → (Zone j && near j k && not (Zone k)) ≡ true
      → lower (at p k) (at p i) ≡ true
  outside-lower h j k hj hk e =
      let a = and_elim_left (Zone j && near j k) (not (Zone k)) e in
      let d = and_elim_left (Zone j) (near j k) a in
      let f = and_elim_right (Zone j) (near j k) a in
      let outside : Zone k ≡ false = not-true (Zone k) (and_elim_right (Zone j && near j k) (not (Zone k)) e) in
      let joined : at p k ≡ at p i → Zone k ≡ true = λ q.
      let same : at p j ≡ at p k = sym (zone_value near (length p) p i j hi hj d) ∙ sym q in
      link_trans (flat near p) (length p) i j k hj d (link_near (flat near p) (length p) (flat_in near p j k same f)) in
      O.tight (at p k) (at p i) (h j k hj hk d f) (λ q. true≢false (sym (joined q) ∙ outside))

  pub extreme_in : Bounded → extreme lower near p i ≡ true
  unfolding extreme
  extreme_in h =
      every_in _ (length p) (λ j hj.
      every_in _ (length p) (λ k hk.
      implies_in _ (lower (at p k) (at p i)) (outside-lower h j k hj hk)))

-- ## A plane that keeps the order of neighbours

module _ (le lower : ℕ → ℕ → Bool) (O : Order le lower) (near : Near) (symm : (i j : ℕ) → near i j ≡ near j i)
    (p q : List ℕ) (same : length q ≡ length p) (keeps : Steady le near p q) where
  -- neighbours of one value keep one value
  flat-stay : (u v : ℕ) → u < length p → v < length p → flat near p u v ≡ true → flat near q u v ≡ true
  unfolding flat
  flat-stay u v hu hv e =
      let r = and_elim_right (eqb (at p u) (at p v)) (near u v) e in
      let s = eqb-true (at p u) (at p v) (and_elim_left (eqb (at p u) (at p v)) (near u v) e) in
      let level : (x y : ℕ) → x ≡ y → le x y ≡ true = λ x y t. subst (λ (z : ℕ). le x z ≡ true) t (O.refl' x) in
      let up : le (at q u) (at q v) ≡ true = keeps u v hu hv r (level _ _ s) in
      let down : le (at q v) (at q u) ≡ true = keeps v u hv hu (symm v u ∙ r) (level _ _ (sym s)) in
      and_intro (eq-eqb (at q u) (at q v) (O.anti _ _ up down)) r

  pub zone_stay : (u v : ℕ) → u < length p → v < length p → linked (flat near p) (length p) u v ≡ true
      → linked (flat near q) (length p) u v ≡ true
  zone_stay u v hu hv e =
      let c = (linked_iff (flat near p) (length p) u v hu hv).0 e in
      (linked_iff (flat near q) (length p) u v hu hv).1
      (chain_map (length p) (flat near p) (flat near q) flat-stay hu c).1

  -- a regional extremum of q contains one of p: the zone of p that has the greatest value in it
  pub contained : (i : ℕ) → i < length p → extreme lower near q i ≡ true → Contains lower near p q i
  contained i hi e = record {
    pixel = j;
    within = hj;
    extremal = extreme_in le lower O near p j hj extremal;
    held = held;
  }
    where
      Z : ℕ → Bool
      Z = linked (flat near q) (length p) i

      b : Best le lower O (at p) Z (length p)
      b = greatest_at le lower O (at p) Z (length p) i hi (link_refl (flat near q) (length p) i)

      j : ℕ
      j = b.pixel

      hj : j < length p
      hj = b.within

      held : (x : ℕ) → x < length p → linked (flat near p) (length p) j x ≡ true → Z x ≡ true
      held x hx d = link_trans (flat near q) (length p) i j x hj b.passes (zone_stay j x hj hx d)

      extremal : (x k : ℕ) → x < length p → k < length p → linked (flat near p) (length p) j x ≡ true
          → near x k ≡ true → le (at p k) (at p j) ≡ true
      extremal x k hx hk d f = elim (decide (Z k)) [
        | inl z ↦ b.tops k hk z
        | inr z ↦ elim (O.total (at p k) (at p j)) [ inl l ↦ l | inr l ↦ absurd (true≢false (sym (again l) ∙ z)) ]
      ]
        where
          zx : Z x ≡ true
          zx = held x hx d

          -- k is no lower than x in p, so no lower in q, where the zone of x is extreme: k lies in it
          again : le (at p j) (at p k) ≡ true → Z k ≡ true
          again l =
              let l' : le (at p x) (at p k) ≡ true =
              subst (λ (v : ℕ). le v (at p k) ≡ true) (zone_value near (length p) p j x hj hx d) l in
              let up : le (at q x) (at q k) ≡ true = keeps x k hx hk f l' in
              let top : le (at q k) (at q i) ≡ true =
              extreme_out le lower O near q i (rw same hi) e x k (rw same hx) (rw same hk) (rw same zx) f in
              let down : le (at q k) (at q x) ≡ true =
              subst (λ (v : ℕ). le (at q k) v ≡ true) (zone_value near (length p) q i x hi hx zx) top in
              let flat-xk = flat_in near q x k (O.anti _ _ up down) f in
              link_trans (flat near q) (length p) i x k hx zx (link_near (flat near q) (length p) flat-xk)
