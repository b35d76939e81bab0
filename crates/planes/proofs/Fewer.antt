-- Where a plane keeps another's order it has no more regional maxima, and no more regional minima: the first pixels of
-- its extrema have partners among the first pixels of the other's, no two the same. Assumes nothing.
use Prim.Native.Nat.{ℕ, zero, suc, ◌+◌, ◌≤◌, ◌<◌, zero-le}
use mathlib.Core.Path.{◌≡◌, sym, ap, subst, ◌∙◌}
use mathlib.Core.Logic.{◌⊎◌, inl, inr}
use mathlib.Core.Bool.{Bool, true, false, cond, not, ◌&&◌, true≢false, and-false}
use mathlib.Core.List.{List}
use mathlib.Mathlib.Data.Bool.Basic.{and_elim_left, and_elim_right, and_intro}
use native.Mathlib.Nat.{le_refl, eq-or-lt_of_le}
use native.Mathlib.Omega.{arith}
use lib.ListN.{length}
use lib.Dec.{leb, ltb, eqb}
use borrow.Author.Tests.{eq-eqb, ne_eqb, leb-true, leb-false, le-leb, not-true}
use Rattle.planes.specs.Lists.{from, count, at}
use Rattle.planes.specs.Neighbours.{Near, linked, first}
use Rattle.planes.specs.Order.{Keeps}
use Rattle.planes.specs.Extrema.{flat, extreme, extremes, gtb, maxima, minima}
use Rattle.planes.proofs.Tests.{decide}
use Rattle.planes.proofs.Lists.{every_out, every_in}
use Rattle.planes.proofs.Counts.{count_cons, unit_mono, count_mono}
use Rattle.planes.proofs.Links.{link_trans, link_sym, link_refl}
use Rattle.planes.proofs.Extrema.{geb, Order, leb_order, geb_order, Best, greatest_at, Steady}
use Rattle.planes.proofs.Extrema.{extreme_out, extreme_in, contained, zone_value, flat_sym}

-- ## Counting by a relation

-- a test that y fails, and else another
without : (ℕ → Bool) → ℕ → ℕ → Bool
without g y z = g z && not (eqb z y)

count_without : (g : ℕ → Bool) (y i m : ℕ) → i ≤ y → y < i + m → g y ≡ true
    → suc (count (without g y) (from i m)) ≤ count g (from i m)
unfolding without
count_without g y i zero l h e = absurd (omega arith)
count_without g y i (suc m) l h e = rw (count_cons (without g y) i (from (suc i) m), count_cons g i (from (suc i) m))
    (go (eq-or-lt_of_le l) (λ q. count_without g y (suc i) m q (omega arith) e))
  where
    rest : count (without g y) (from (suc i) m) ≤ count g (from (suc i) m)
    rest = count_mono (without g y) g (λ x d. and_elim_left (g x) (not (eqb x y)) d) (from (suc i) m)

    gone : i ≡ y → without g y i ≡ false
    gone q = ap (λ t. g i && not t) (eq-eqb i y q) ∙ and-false (g i)

    go : (i ≡ y) ⊎ (i < y) → (i < y → suc (count (without g y) (from (suc i) m)) ≤ count g (from (suc i) m))
        → suc (cond (without g y i) 1 0 + count (without g y) (from (suc i) m))
        ≤ cond (g i) 1 0 + count g (from (suc i) m)
    go (inl q) ih = rw (gone q, ap g q, e) (omega (arith, rest))
    go (inr q) ih = omega (arith, ih q, unit_mono (without g y i) (g i) (λ d. and_elim_left (g i) (not (eqb i y)) d))

module _ (R : ℕ → ℕ → Type 0) (single : (x x' y : ℕ) → R x y → R x' y → x ≡ x') (n : ℕ) where
  -- a pixel that passes g and to which x is related
  abbrev Partner : (ℕ → Bool) → ℕ → Type 0
  Partner g x = (y : ℕ) × (y < n) × (g y ≡ true) × R x y

  -- each of the m pixels from i on that pass f has one
  abbrev Partners : (ℕ → Bool) → ℕ → ℕ → (ℕ → Bool) → Type 0
  Partners f i m g = (x : ℕ) → i ≤ x → x < i + m → f x ≡ true → Partner g x

  -- then f passes no more often than g, for no two pixels share a partner
  pub pigeon : (f : ℕ → Bool) (i m : ℕ) (g : ℕ → Bool) → Partners f i m g → count f (from i m) ≤ count g (from 0 n)
  unfolding without
  pigeon f i zero g h = zero-le
  pigeon f i (suc m) g h = rw (count_cons f i (from (suc i) m)) (go (decide (f i)) (λ g' h'. pigeon f (suc i) m g' h'))
    where
      go : (f i ≡ true) ⊎ (f i ≡ false)
          → ((g' : ℕ → Bool) → Partners f (suc i) m g' → count f (from (suc i) m) ≤ count g' (from 0 n))
          → cond (f i) 1 0 + count f (from (suc i) m) ≤ count g (from 0 n)
      go (inr e) ih = rw e (omega (arith, ih g (λ x l k d. h x (omega arith) (omega arith) d)))
      go (inl e) ih =
          let y = h i (le_refl i) (omega arith) e in
          let others : Partners f (suc i) m (without g y.0) = λ x l k d.
          let z = h x (omega arith) (omega arith) d in
          let new : z.0 ≡ y.0 → ⊥ = λ q. let c = single i x y.0 y.3 (subst (R x) q z.3) in omega arith in
          (z.0, z.1, and_intro z.2 (ap not (ne_eqb z.0 y.0 new)), z.3) in
          let fewer = count_without g y.0 0 n zero-le (omega (arith, y.1)) y.2 in
          rw e (omega (arith, ih (without g y.0) others, fewer))

-- ## First pixels

pub first_out : (n : ℕ) (near : Near) (i : ℕ) → first n near i ≡ true → (j : ℕ) → j < i → linked near n j i ≡ false
unfolding first
first_out n near i e j h = not-true (linked near n j i) (every_out _ i e j h)

module _ (near : Near) (symm : (i j : ℕ) → near i j ≡ near j i) (n : ℕ) where
  -- two first pixels of one component are one
  pub first_one : (i j : ℕ) → first n near i ≡ true → first n near j ≡ true → linked near n i j ≡ true → i ≡ j
  first_one i j e f d = elim (decide (leb i j)) [
    | inl l ↦ elim (eq-or-lt_of_le (leb-true i j l)) [
      | inl q ↦ q
      | inr h ↦ absurd (true≢false (sym d ∙ first_out n near j f i h))
    ]
    | inr l ↦ absurd (true≢false (sym d ∙ link_sym near symm n i j ∙ first_out n near i e j (leb-false i j l)))
  ]

  -- the first pixel of a component
  pub first_of : (j : ℕ) → j < n → (i : ℕ) × (i < n) × (linked near n i j ≡ true) × (first n near i ≡ true)
  unfolding first
  first_of j h =
      let b = greatest_at geb gtb geb_order (λ x. x) (λ x. linked near n x j) n j h (link_refl near n j) in
      (b.pixel, b.within, b.passes, every_in _ b.pixel (λ x l. ap not (low b x l)))
    where
      low : (b : Best geb gtb geb_order (λ x. x) (λ x. linked near n x j) n) (x : ℕ) → x < b.pixel
          → linked near n x b.pixel ≡ false
      low b x l = elim (decide (linked near n x b.pixel)) [
        | inl d ↦
            let through = link_trans near n x b.pixel j b.within d b.passes in
            let least = b.tops x (omega (arith, b.within)) through in
            absurd (omega (arith, leb-true b.pixel x least))
        | inr d ↦ d
      ]

-- ## No more extremes

module _ (le lower : ℕ → ℕ → Bool) (O : Order le lower) (near : Near) (symm : (i j : ℕ) → near i j ≡ near j i)
    (p q : List ℕ) (same : length q ≡ length p) (keeps : Steady le near p q) where
  -- all pixels of a zone are extreme where one is
  move : (j y : ℕ) → j < length p → y < length p → linked (flat near p) (length p) y j ≡ true
      → extreme lower near p j ≡ true → extreme lower near p y ≡ true
  move j y hj hy d e = extreme_in le lower O near p y hy (λ a k ha hk c f.
      let back : linked (flat near p) (length p) j y ≡ true =
      link_sym (flat near p) (flat_sym near symm p) (length p) j y ∙ d in
      let joined = link_trans (flat near p) (length p) j y a hy back c in
      let bounded = extreme_out le lower O near p j hj e a k ha hk joined f in
      subst (λ (v : ℕ). le (at p k) v ≡ true) (sym (zone_value near (length p) p y j hy hj d)) bounded)

  -- x is the first pixel of a zone of q in which y lies
  abbrev R : ℕ → ℕ → Type 0
  R x y =
      (x < length p) × (y < length p) × (first (length p) (flat near q) x ≡ true)
      × (linked (flat near q) (length p) x y ≡ true)

  single : (x x' y : ℕ) → R x y → R x' y → x ≡ x'
  single x x' y r s =
      let back = link_sym (flat near q) (flat_sym near symm q) (length p) y x' ∙ s.3 in
      first_one (flat near q) (flat_sym near symm q) (length p) x x' r.2 s.2
      (link_trans (flat near q) (length p) x y x' r.1 r.3 back)

  pub no_more : extremes lower near q ≤ extremes lower near p
  unfolding extremes
  no_more = rw same (pigeon R single (length p) _ 0 (length p) _ partner)
    where
      partner : (x : ℕ) → 0 ≤ x → x < 0 + length p → (extreme lower near q x && first (length p) (flat near q) x) ≡ true
          → (y : ℕ) × (y < length p) × ((extreme lower near p y && first (length p) (flat near p) y) ≡ true) × R x y
      partner x _ l e =
          let hx : x < length p = omega arith in
          let ex : extreme lower near q x ≡ true = and_elim_left _ (first (length p) (flat near q) x) e in
          let fx : first (length p) (flat near q) x ≡ true = and_elim_right (extreme lower near q x) _ e in
          let i = contained le lower O near symm p q same keeps x hx ex in
          let y = first_of (flat near p) (flat_sym near symm p) (length p) i.pixel i.within in
          let back = link_sym (flat near p) (flat_sym near symm p) (length p) i.pixel y.0 ∙ y.2 in (
            y.0,
            y.1,
            and_intro (move i.pixel y.0 i.within y.1 y.2 i.extremal) y.3,
            (hx, y.1, fx, i.held y.0 y.1 back),
          )

module _ (near : Near) (symm : (i j : ℕ) → near i j ≡ near j i) (p q : List ℕ) (same : length q ≡ length p)
    (k : Keeps near (length p) p q) where
  pub no_more_maxima : maxima near q ≤ maxima near p
  no_more_maxima =
      no_more leb ltb leb_order near symm p q same
      (λ i j hi hj e l. le-leb _ _ (k.ordered i j hi hj e (leb-true (at p i) (at p j) l)))

  pub no_more_minima : minima near q ≤ minima near p
  no_more_minima =
      no_more geb gtb geb_order near symm p q same
      (λ i j hi hj e l. le-leb _ _ (k.ordered j i hj hi (symm j i ∙ e) (leb-true (at p j) (at p i) l)))
