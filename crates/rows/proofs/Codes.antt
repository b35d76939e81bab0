-- Neighbours that both have a code: what links them, and that chains of one relation go on with those of another, by
-- induction over the chain. Assumes nothing.
use Prim.Native.Nat.{ℕ, ◌≤◌}
use mathlib.Core.Path.{◌≡◌, ap₂}
use mathlib.Core.Bool.{true, ◌&&◌, and_comm}
use mathlib.Core.List.{List}
use mathlib.Mathlib.Data.Bool.Basic.{and_elim_left, and_elim_right, and_intro}
use native.Mathlib.Omega.{arith}
use lib.Dec.{eqb}
use borrow.Author.Tests.{eqb-true, eq-eqb}
use Rattle.planes.specs.Lists.{at}
use Rattle.planes.specs.Neighbours.{Near, Chain, here, step}
use Rattle.planes.specs.Shapes.{Symmetric, Narrower}
use Rattle.rows.specs.Codes.{alike}

module _ (near : Near) (code : ℕ) (marks : List ℕ) where
  abbrev Link : Near
  Link = alike near marks code

  pub alike_of : {u v : ℕ} → at marks u ≡ code → at marks v ≡ code → near u v ≡ true → Link u v ≡ true
  unfolding alike
  alike_of a b e = and_intro (and_intro (eq-eqb _ _ a) (eq-eqb _ _ b)) e

  both_coded : (u v : ℕ) → Link u v ≡ true → (eqb (at marks u) code && eqb (at marks v) code) ≡ true
  unfolding alike
  both_coded u v e = and_elim_left (eqb (at marks u) code && eqb (at marks v) code) (near u v) e

  pub alike_from : (u v : ℕ) → Link u v ≡ true → at marks u ≡ code
  alike_from u v e = eqb-true _ _ (and_elim_left (eqb (at marks u) code) (eqb (at marks v) code) (both_coded u v e))

  pub alike_to : (u v : ℕ) → Link u v ≡ true → at marks v ≡ code
  alike_to u v e = eqb-true _ _ (and_elim_right (eqb (at marks u) code) (eqb (at marks v) code) (both_coded u v e))

  pub alike_near : (u v : ℕ) → Link u v ≡ true → near u v ≡ true
  unfolding alike
  alike_near u v e = and_elim_right (eqb (at marks u) code && eqb (at marks v) code) (near u v) e

  pub alike_sym : Symmetric near → Symmetric Link
  unfolding alike
  alike_sym symm u v = ap₂ ◌&&◌ (and_comm (eqb (at marks u) code) (eqb (at marks v) code)) (symm u v)

-- where near₁ holds near does, and what has the code in marks₁ has it in marks
pub alike_on : (near₁ near : Near) (m n code : ℕ) (marks₁ marks : List ℕ) → m ≤ n
    → Narrower near₁ near → ((u : ℕ) → at marks₁ u ≡ code → at marks u ≡ code)
    → {s i j : ℕ} → Chain (alike near marks code) n s i → Chain (alike near₁ marks₁ code) m i j
    → Chain (alike near marks code) n s j
alike_on near₁ near m n code marks₁ marks h f g c here = c
alike_on near₁ near m n code marks₁ marks h f g c (step {j = j} {k = k} d e l) =
    let from-j = g j (alike_from near₁ code marks₁ j k e) in
    let to-k = g k (alike_to near₁ code marks₁ j k e) in
    let nearby = f j k (alike_near near₁ code marks₁ j k e) in
    let link = alike_of near code marks from-j to-k nearby in
    step (alike_on near₁ near m n code marks₁ marks h f g c d) link (omega arith)
