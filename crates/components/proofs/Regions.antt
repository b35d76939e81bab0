-- Regions as sets, over any neighbour relation: a region is what chains of neighbours that have the code reach, it is
-- one for all its pixels where the relation is symmetric, and it stays as it is when the pixels of whole other regions
-- get marks that are not the code. Each law goes by induction over a chain. Assumes nothing.
use Prim.Native.Nat.{ℕ, ◌<◌}
use mathlib.Core.Path.{◌≡◌, refl, sym, ap, ◌∙◌}
use mathlib.Core.Bool.{Bool, true, false, cond, ◌&&◌}
use mathlib.Core.List.{List}
use mathlib.Mathlib.Data.Bool.Basic.{and_elim_left}
use native.Mathlib.Omega.{arith}
use lib.Dec.{ltb}
use borrow.Author.Tests.{lt-ltb, ltb-true}
use Rattle.planes.specs.Lists.{at}
use Rattle.planes.specs.Neighbours.{Near, Chain, here, step, linked}
use Rattle.planes.specs.Shapes.{Symmetric}
use Rattle.planes.proofs.Tests.{same_test}
use Rattle.planes.proofs.Links.{linked_iff, link_near, link_refl, link_trans, link_sym}
use Rattle.rows.specs.Codes.{alike}
use Rattle.rows.proofs.Codes.{alike_of, alike_from, alike_to, alike_near, alike_sym, alike_on}
use Rattle.components.specs.Regions.{region}

-- ## Regions as sets

module _ (near : Near) (n code : ℕ) (marks : List ℕ) where
  abbrev Link : Near
  Link = alike near marks code

  abbrev Region : ℕ → ℕ → Bool
  Region = region near n marks code

  pub region_below : (s x : ℕ) → Region s x ≡ true → x < n
  unfolding region
  region_below s x e = ltb-true x n (and_elim_left (ltb x n) (linked Link n s x) e)

  pub region_linked : (s x : ℕ) → x < n → Region s x ≡ linked Link n s x
  unfolding region
  region_linked s x h = ap (◌&& linked Link n s x) (lt-ltb x n h)

  pub region_self : (s : ℕ) → s < n → Region s s ≡ true
  region_self s h = region_linked s s h ∙ link_refl Link n s

  pub region_chain : (s x : ℕ) → s < n → Region s x ≡ true → Chain Link n s x
  region_chain s x h e =
      let k = region_below s x e in
      (linked_iff Link n s x h k).0 (sym (region_linked s x k) ∙ e)

  pub region_of : (s x : ℕ) → s < n → x < n → Chain Link n s x → Region s x ≡ true
  region_of s x h k c = region_linked s x k ∙ (linked_iff Link n s x h k).1 c

  -- a test that neighbours share is the same along a chain
  pub along : (f : ℕ → Bool) → ((u v : ℕ) → u < n → v < n → Link u v ≡ true → f u ≡ f v)
      → {s x : ℕ} → s < n → Chain Link n s x → (x < n) × (f s ≡ f x)
  along f same h here = (h, refl)
  along f same h (step {j = j} {k = k} c e l) = let r = along f same h c in (l, r.1 ∙ same j k r.0 l e)

  coded-along : {s x : ℕ} → at marks s ≡ code → Chain Link n s x → at marks x ≡ code
  coded-along a here = a
  coded-along a (step {j = j} {k = k} c e l) = alike_to near code marks j k e

  pub region_coded : (s x : ℕ) → s < n → at marks s ≡ code → Region s x ≡ true → at marks x ≡ code
  region_coded s x h a e = coded-along a (region_chain s x h e)

  module _ (symm : Symmetric near) where
    pub region_sym : (s x : ℕ) → s < n → x < n → Region s x ≡ Region x s
    region_sym s x h k =
        region_linked s x k ∙ link_sym Link (alike_sym near code marks symm) n s x ∙ sym (region_linked x s h)

    -- neighbours that have the code are in the same regions
    pub region_whole : (s u v : ℕ) → u < n → v < n → Link u v ≡ true → Region s u ≡ Region s v
    region_whole s u v hu hv e =
        region_linked s u hu
        ∙ same_test (linked Link n s u) (linked Link n s v)
        (λ d. link_trans Link n s u v hu d (link_near Link n e))
        (λ d. link_trans Link n s v u hv d (link_near Link n (alike_sym near code marks symm v u ∙ e)))
        ∙ sym (region_linked s v hv)

-- ## Whole regions get other marks

-- marks' differs from marks in that the pixels that are gone, which are whole regions, have other marks than the code
module _ (near : Near) (n code : ℕ) (marks marks' : List ℕ) (gone : ℕ → Bool) (other : ℕ → ℕ)
    (differs : (p : ℕ) → other p ≡ code → ⊥) (marks_are : (p : ℕ) → at marks' p ≡ cond (gone p) (other p) (at marks p))
    (whole : (u v : ℕ) → u < n → v < n → alike near marks code u v ≡ true → gone u ≡ gone v) where
  mark-by : (p : ℕ) (t : Bool) → gone p ≡ t → at marks' p ≡ cond t (other p) (at marks p)
  mark-by p t d = marks_are p ∙ ap (λ (t : Bool). cond t (other p) (at marks p)) d

  -- a pixel that has the code had it, and is not gone
  pub was : (p : ℕ) → at marks' p ≡ code → (gone p ≡ false) × (at marks p ≡ code)
  was p e = go (gone p) refl
    where
      go : (t : Bool) → gone p ≡ t → (gone p ≡ false) × (at marks p ≡ code)
      go true d = absurd (differs p (sym (mark-by p true d) ∙ e))
      go false d = (d, sym (mark-by p false d) ∙ e)

  -- a pixel that had the code and is not gone has it
  pub is : (p : ℕ) → gone p ≡ false → at marks p ≡ code → at marks' p ≡ code
  is p d e = mark-by p false d ∙ e

  before : {s x : ℕ} → Chain (alike near marks' code) n s x → Chain (alike near marks code) n s x
  before c = alike_on near near n n code marks' marks (omega arith) (λ u v e. e) (λ u e. (was u e).1) here c

  after : {s x : ℕ} → s < n → gone s ≡ false → Chain (alike near marks code) n s x
      → Chain (alike near marks' code) n s x
  after h d here = here
  after {s} h d (step {j = j} {k = k} c e l) =
      let r = along near n code marks gone whole h c in
      let dj : gone j ≡ false = sym r.1 ∙ d in
      let dk : gone k ≡ false = sym (whole j k r.0 l e) ∙ dj in
      let from-j = is j dj (alike_from near code marks j k e) in
      let to-k = is k dk (alike_to near code marks j k e) in
      step (after h d c) (alike_of near code marks' from-j to-k (alike_near near code marks j k e)) l

  -- the region of a pixel that still has the code is what it was
  pub region_stays : (s x : ℕ) → s < n → at marks' s ≡ code
      → region near n marks' code s x ≡ region near n marks code s x
  region_stays s x h e = same_test (region near n marks' code s x) (region near n marks code s x)
      (λ d. region_of near n code marks s x h (region_below near n code marks' s x d)
      (before (region_chain near n code marks' s x h d)))
      (λ d. region_of near n code marks' s x h (region_below near n code marks s x d)
      (after h (was s e).0 (region_chain near n code marks s x h d)))
