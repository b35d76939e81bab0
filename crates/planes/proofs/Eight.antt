-- The eight neighbours of a pixel: a symmetric relation that has the four in it; and by index, in a plane of w columns,
-- those that are not in the pixel's row are above or below the pixel itself or one next to it in its row. Assumes
-- nothing.
use Prim.Native.Nat.{ℕ, zero, suc, ◌+◌, ◌-◌, ◌*◌, ◌/◌, ◌%◌, ◌≤◌, ◌<◌}
use mathlib.Core.Path.{◌≡◌, refl, sym, ap, ap₂, subst, ◌∙◌}
use mathlib.Core.Logic.{◌⊎◌, inl, inr}
use mathlib.Core.Bool.{true, false, not, ◌&&◌, ◌||◌, true≢false}
use mathlib.Mathlib.Data.Bool.Basic.{or_inl, or_inr, and_elim_left, and_elim_right, and_intro}
use native.Mathlib.Nat.{div-add-mod', mod-lt, add-mul, one-mul, zero-mul}
use native.Mathlib.Omega.{arith}
use lib.Arith.{digits_div, digits_mod}
use lib.Dec.{eqb}
use borrow.Author.Tests.{eqb-true, eq-eqb}
use Rattle.planes.specs.Neighbours.{apart, close, touching, four, eight}
use Rattle.planes.specs.Shapes.{Symmetric, Narrower}
use Rattle.planes.proofs.Tests.{or_cases, eqb_sym, never}
use Rattle.planes.proofs.Neighbours.{apart_cases, apart_next, apart_sym, beside_cases}

-- ## Coordinates that differ by at most one

close_same : {x u : ℕ} → x ≡ u → close x u ≡ true
close_same {x} {u} e = or_inl (eqb x u) (apart x u) (eq-eqb x u e)

close_next : (x : ℕ) {u : ℕ} → x + 1 ≡ u → close x u ≡ true
close_next x e = subst (λ (u : ℕ). close x u ≡ true) e (or_inr (eqb x (x + 1)) _ (apart_next x))

close_sym : (x u : ℕ) → close x u ≡ close u x
close_sym x u = ap₂ ◌||◌ (eqb_sym x u) (apart_sym x u)

close_before : {x : ℕ} (u : ℕ) → u + 1 ≡ x → close x u ≡ true
close_before {x} u e = close_sym x u ∙ close_next u e

close_cases : (x u : ℕ) → close x u ≡ true → (x ≡ u) ⊎ ((x + 1 ≡ u) ⊎ (u + 1 ≡ x))
close_cases x u e = elim (or_cases (eqb x u) (apart x u) e) [
  | inl d ↦ inl (eqb-true x u d)
  | inr d ↦ inr (apart_cases x u d)
]

-- two pixels, no coordinate of which differs by more than one
touching_of : (y x v u : ℕ) → close y v ≡ true → close x u ≡ true → (y ≡ v → x ≡ u → ⊥) → touching y x v u ≡ true
touching_of y x v u rows columns two =
    let other : (eqb y v && eqb x u) ≡ false = never (λ d. two
    (eqb-true y v (and_elim_left (eqb y v) (eqb x u) d))
    (eqb-true x u (and_elim_right (eqb y v) (eqb x u) d))) in
    and_intro (and_intro rows columns) (ap not other)

pub eight_sym : (w : ℕ) → Symmetric (eight w)
unfolding eight
eight_sym w i j =
    ap₂ ◌&&◌ (ap₂ ◌&&◌ (close_sym (i / w) (j / w)) (close_sym (i % w) (j % w)))
    (ap not (ap₂ ◌&&◌ (eqb_sym (i / w) (j / w)) (eqb_sym (i % w) (j % w))))

-- the four are among the eight
pub four_eight : (w : ℕ) → Narrower (four w) (eight w)
unfolding four eight
four_eight w i j e =
    let touch = touching_of (i / w) (i % w) (j / w) (j % w) in
    elim (beside_cases (i / w) (i % w) (j / w) (j % w) e) [
      | inl (r, inl c) ↦ touch (close_same r) (close_next (i % w) c) (λ a b. omega arith)
      | inl (r, inr c) ↦ touch (close_same r) (close_before (j % w) c) (λ a b. omega arith)
      | inr (inl r, c) ↦ touch (close_next (i / w) r) (close_same c) (λ a b. omega arith)
      | inr (inr r, c) ↦ touch (close_before (j / w) r) (close_same c) (λ a b. omega arith)
    ]

-- ## Neighbours by index

-- neighbours by row and column
eight_at : (w y x v u : ℕ) → x < w → u < w → eight w (y * w + x) (v * w + u) ≡ touching y x v u
unfolding eight
eight_at w y x v u hx hu = rw (digits_div y hx, digits_mod y hx, digits_div v hu, digits_mod v hu)

-- s is next to the pixel i, which is in column x, in its row
abbrev pub NextTo : ℕ → ℕ → ℕ → ℕ → Type 0
NextTo w x i s = ((s ≡ i + 1) × (x + 1 < w)) ⊎ ((s + 1 ≡ i) × (0 < x))

-- j is below or above s, which is the pixel i, in column x, or next to it in its row
pub record Across (w x i j : ℕ) : Type 0 where
  pub middle : ℕ
  pub line : (middle ≡ i) ⊎ NextTo w x i middle
  pub beyond : (j ≡ middle + w) ⊎ (j + w ≡ middle)

module _ (w y x : ℕ) (hx : x < w) where
  -- the pixel in row y and column x
  abbrev i : ℕ
  i = y * w + x

  -- the pixel in column u of its row, if the column differs by at most one
  line_of : (u : ℕ) → u < w → close x u ≡ true → (y * w + u ≡ i) ⊎ NextTo w x i (y * w + u)
  line_of u hu e = elim (close_cases x u e) [
    | inl d ↦ inl (omega arith)
    | inr (inl d) ↦ inr (inl (omega arith, omega arith))
    | inr (inr d) ↦ inr (inr (omega arith, omega arith))
  ]

  -- the parts of a neighbour in row v and column u
  parts : (v u : ℕ) → u < w → eight w i (v * w + u) ≡ true
      → (close y v ≡ true) × ((close x u ≡ true) × (y ≡ v → x ≡ u → ⊥))
  parts v u hu e =
      let t = sym (eight_at w y x v u hx hu) ∙ e in
      let both = and_elim_left (close y v && close x u) (not (eqb y v && eqb x u)) t in
      let other = and_elim_right (close y v && close x u) (not (eqb y v && eqb x u)) t in (
        and_elim_left (close y v) (close x u) both,
        (
          and_elim_right (close y v) (close x u) both,
          λ a b. true≢false (sym other ∙ ap not (and_intro (eq-eqb y v a) (eq-eqb x u b))),
        ),
      )

  -- every neighbour is next to i in its row, or across
  pub eight_cases : (j : ℕ) → eight w i j ≡ true → NextTo w x i j ⊎ Across w x i j
  eight_cases j e =
      let split = div-add-mod' j w in
      go (j / w) (j % w) (mod-lt j (omega arith)) split (subst (λ (k : ℕ). eight w i k ≡ true) (sym split) e)
    where
      go : (v u : ℕ) → u < w → v * w + u ≡ j → eight w i (v * w + u) ≡ true → NextTo w x i j ⊎ Across w x i j
      go v u hu q d =
          let t = parts v u hu d in
          let line = line_of u hu t.1.0 in
          elim (close_cases y v t.0) [
            | inl r ↦ inl (in_row_lem v u hu q (t.1.1 r) r (close_cases x u t.1.0))
            | inr (inl r) ↦ inr (record {
              middle = y * w + u;
              line = line;
              beyond = inl (omega (arith, ap (◌* w) r, add-mul y 1 w, one-mul w));
            })
            | inr (inr r) ↦ inr (record {
              middle = y * w + u;
              line = line;
              beyond = inr (omega (arith, ap (◌* w) r, add-mul v 1 w, one-mul w));
            })
          ]
        where
          in_row_lem : (v u : ℕ) → u < w → v * w + u ≡ j → (x ≡ u → ⊥) → y ≡ v
              → (x ≡ u) ⊎ ((x + 1 ≡ u) ⊎ (u + 1 ≡ x)) → NextTo w x i j
          in_row_lem v u hu q two r (inl c) = absurd (two c)
          in_row_lem v u hu q two r (inr (inl c)) = inl (omega (arith, ap (◌* w) r), omega arith)
          in_row_lem v u hu q two r (inr (inr c)) = inr (omega (arith, ap (◌* w) r), omega arith)

  -- what is below or above the pixel in column u of row y, if that column differs by at most one
  eight-below : (u : ℕ) → u < w → close x u ≡ true → (j : ℕ) → j ≡ y * w + u + w → eight w i j ≡ true
  eight-below u hu c j e =
      let q : j ≡ (y + 1) * w + u = omega (arith, add-mul y 1 w, one-mul w) in
      rw (q, eight_at w y x (y + 1) u hx hu)
      (touching_of y x (y + 1) u (close_next y refl) c (λ a b. omega arith))

eight_above : (w y x : ℕ) (hx : x < w) (u : ℕ) → u < w → close x u ≡ true → (j : ℕ) → j + w ≡ y * w + u
    → eight w (y * w + x) j ≡ true
eight_above w zero x hx u hu c j e = absurd (omega (arith, zero-mul w))
eight_above w (suc v) x hx u hu c j e =
    let q : j ≡ v * w + u = omega (arith, add-mul v 1 w, one-mul w) in
    rw (q, eight_at w (suc v) x v u hx hu)
    (touching_of (suc v) x v u (close_before v (omega arith)) c (λ a b. omega arith))

-- ## Neighbours of a pixel p, in a plane of w columns

module _ (w p : ℕ) (wide : 1 ≤ w) where
  abbrev split : p / w * w + p % w ≡ p
  split = div-add-mod' p w

  pub around : (q : ℕ) → eight w p q ≡ true → NextTo w (p % w) p q ⊎ Across w (p % w) p q
  around q e =
      subst (λ (i : ℕ). NextTo w (p % w) i q ⊎ Across w (p % w) i q) split
      (eight_cases w (p / w) (p % w) (mod-lt p wide) q (subst (λ (i : ℕ). eight w i q ≡ true) (sym split) e))

  -- the column of the pixel itself, or of one next to it
  abbrev column : (s : ℕ) → (s ≡ p) ⊎ NextTo w (p % w) p s → ℕ
  column s (inl e) = p % w
  column s (inr (inl e)) = p % w + 1
  column s (inr (inr e)) = p % w - 1

  column-less : (s : ℕ) (l : (s ≡ p) ⊎ NextTo w (p % w) p s) → column s l < w
  column-less s (inl e) = mod-lt p wide
  column-less s (inr (inl e)) = e.1
  column-less s (inr (inr e)) = omega (arith, mod-lt p wide)

  column-close : (s : ℕ) (l : (s ≡ p) ⊎ NextTo w (p % w) p s) → close (p % w) (column s l) ≡ true
  column-close s (inl e) = close_same {x = p % w} refl
  column-close s (inr (inl e)) = close_next (p % w) refl
  column-close s (inr (inr e)) = let h = e.1 in close_before (p % w - 1) (omega arith)

  column-is : (s : ℕ) (l : (s ≡ p) ⊎ NextTo w (p % w) p s) → p / w * w + column s l ≡ s
  column-is s (inl e) = omega (arith, split)
  column-is s (inr (inl e)) = let h = e.0 in omega (arith, split)
  column-is s (inr (inr e)) = let h = e.0 in let z = e.1 in omega (arith, split)

  -- what is across is a neighbour
  pub across : (q : ℕ) → Across w (p % w) p q → eight w p q ≡ true
  across q a = subst (λ (i : ℕ). eight w i q ≡ true) split (elim a.beyond [
    | inl e ↦ eight-below w (p / w) (p % w) (mod-lt p wide) (column a.middle a.line)
        (column-less a.middle a.line) (column-close a.middle a.line) q
        (e ∙ ap (◌+ w) (sym (column-is a.middle a.line)))
    | inr e ↦ eight_above w (p / w) (p % w) (mod-lt p wide) (column a.middle a.line)
        (column-less a.middle a.line) (column-close a.middle a.line) q
        (e ∙ sym (column-is a.middle a.line))
  ])
