-- Pieces that are separate from each other, treated one after the other in any order: together they become what a run
-- of passes makes of them. The components of a set are such pieces. For any symmetric neighbour relation. Assumes
-- nothing.
use Prim.Native.Nat.{ℕ, zero, suc, ◌+◌, ◌≤◌, ◌<◌, zero-le}
use mathlib.Core.Path.{◌≡◌, refl, sym, ap, subst, ◌∙◌}
use mathlib.Core.Logic.{◌⊎◌, inl, inr}
use mathlib.Core.Bool.{Bool, true, false, cond, ◌||◌, true≢false, false≢true}
use mathlib.Core.List.{List, [], ◌∷◌, map}
use mathlib.Mathlib.Data.Bool.Basic.{or_inl, or_inr}
use native.Mathlib.Omega.{arith}
use lib.ListN.{length}
use lib.Dec.{leb}
use borrow.Author.Tests.{leb-true, leb-false}
use Rattle.planes.specs.Lists.{from, keep, count, at}
use Rattle.planes.specs.Permutations.{Permutation, empty, behind, swap, twice}
use Rattle.planes.specs.Shapes.{Symmetric}
use Rattle.planes.specs.Neighbours.{Near, component}
use Rattle.planes.proofs.Tests.{decide, or_cases, or_none, same_test, never}
use Rattle.planes.proofs.Counts.{keep_same}
use Rattle.model.specs.declared.Pass.{Pass}
use Rattle.model.specs.Runs.{run, run_count, run_kept, All}
use Rattle.model.specs.Effects.{Effect, always}
use Rattle.model.specs.Published.{Procedure, member, between, amid, for_each}
use Rattle.model.proofs.Sets.{member_keep, pixels_of, Separate, separate_turn, part, heads, part_self, part_of}
use Rattle.model.proofs.Sets.{part_set, part_joined, parts_separate, any_of, any_reordered, any_out, any_in}
use Rattle.model.proofs.Parts.{InRange, Shows, TwoParts, shown, shown_shows, shown_part, parts_run}
use Rattle.model.proofs.Pieces.{Does, idle_does, Piece, piece_same}

-- what the procedure f does to any piece in [a, b] that has the least area is what the passes do, all of them on
-- sections in [a, b]
pub record Performs (near : Near) (area : ℕ) (f : Procedure) (ss : List Pass) (a b : ℕ) : Type 0 where
  pub fits : All (InRange a b area) ss
  pub does : (n : ℕ) (A : ℕ → Bool) (t : Effect) (m : List ℕ) → Shows n a b A t.plane m
      → Piece near n a b A t.plane → area ≤ count A (from 0 n) → Does near n A ss m t (f a b (pixels_of n A) t)

-- ## Separate pieces

-- a piece that is listed in reading order
pub record Patch (near : Near) (n a b : ℕ) (p S : List ℕ) : Type 0 where
  pub sorted : pixels_of n (member S) ≡ S
  pub piece : Piece near n a b (member S) p

-- sets that are pieces, each separate from all later ones
pub data Patches (near : Near) (n a b : ℕ) (p : List ℕ) : List (List ℕ) → Type 0 where
  none : Patches near n a b p []
  more : {S : List ℕ} {Ss : List (List ℕ)} → Patch near n a b p S → Separate near n (member S) (any_of Ss)
      → Patches near n a b p Ss → Patches near n a b p (S ∷ Ss)

-- they are so in another plane that agrees on them
pub patches_same : {near : Near} {n a b : ℕ} {p p' : List ℕ} {Ss : List (List ℕ)}
    → ((x : ℕ) → x < n → any_of Ss x ≡ true → at p' x ≡ at p x) → Patches near n a b p Ss → Patches near n a b p' Ss
unfolding any_of
patches_same same none = none
patches_same {a = a} {b} same (more {S = S} {Ss = Ss} P w rest) = more (record {
  sorted = P.sorted;
  piece = record {
    among = λ x hx e. ap (between a b) (same x hx (or_inl (member S x) (any_of Ss x) e)) ∙ P.piece.among x hx e;
    joined = P.piece.joined;
    pixel = P.piece.pixel;
    below = P.piece.below;
    holds = P.piece.holds;
  };
}) w (patches_same (λ x hx e. same x hx (or_inr (member S x) (any_of Ss x) e)) rest)

-- and in another order
pub patches_reordered : {near : Near} → ((i j : ℕ) → near i j ≡ near j i) → {n a b : ℕ} {p : List ℕ}
    {Ss Ts : List (List ℕ)} → Permutation Ss Ts → Patches near n a b p Ss → Patches near n a b p Ts
unfolding any_of
patches_reordered symm empty none = none
patches_reordered symm (behind r) (more P w rest) = more P (record {
  disjoint = λ x hx e. sym (any_reordered r x) ∙ w.disjoint x hx e;
  far = λ x y hx hy e d. w.far x y hx hy e (any_reordered r y ∙ d);
}) (patches_reordered symm r rest)
patches_reordered symm (swap {x = S} {y = T} {xs = Ss}) (more P w (more Q v rest)) =
    let turned = separate_turn symm w in
    more Q (record {
      disjoint = λ x hx e.
          ap (◌|| any_of Ss x) (turned.disjoint x hx (or_inl (member T x) (any_of Ss x) e)) ∙ v.disjoint x hx e;
      far = λ x y hx hy e d. elim (or_cases (member S y) (any_of Ss y) d) [
        | inl c ↦ turned.far x y hx hy (or_inl (member T x) (any_of Ss x) e) c
        | inr c ↦ v.far x y hx hy e c
      ];
    }) (more P (record {
      disjoint = λ x hx e. (or_none (member T x) (any_of Ss x) (w.disjoint x hx e)).1;
      far = λ x y hx hy e d. w.far x y hx hy e (or_inr (member T y) (any_of Ss y) d);
    }) rest)
patches_reordered symm (twice r q) P = patches_reordered symm q (patches_reordered symm r P)

-- ## Treated one after the other

module _ (near : Near) (symm : Symmetric near) (area : ℕ) (f : Procedure) (ss : List Pass) (a b : ℕ)
    (T : Performs near area f ss a b) (n : ℕ) where
  -- a set is treated, or left where it is too small
  patch-does : (S : List ℕ) (t : Effect) → length t.plane ≡ n → Patch near n a b t.plane S
      → Does near n (member S) ss (shown n b (member S) t.plane) t (cond (leb area (length S)) (f a b S t) t)
  patch-does S t size P = go (leb area (length S)) refl
    where
      m : List ℕ
      m = shown n b (member S) t.plane

      alone : Shows n a b (member S) t.plane m
      alone = shown_shows n a b (member S) t.plane size

      many : count (member S) (from 0 n) ≡ length S
      many = ap length P.sorted

      go : (l : Bool) → leb area (length S) ≡ l → Does near n (member S) ss m t (cond l (f a b S t) t)
      go true e =
          subst (λ (U : List ℕ). Does near n (member S) ss m t (f a b U t)) P.sorted
          (T.does n (member S) t m alone P.piece (omega (arith, many, leb-true area (length S) e)))
      go false e =
          idle_does near symm n (member S) alone (λ x hx c. omega (arith, many, leb-false area (length S) e)) ss
          T.fits

  -- one set, and then another that is separate from it
  join-does : (A B : ℕ → Bool) → Separate near n A B → (t t₁ t₂ : Effect) (q : List ℕ)
      → Shows n a b (λ x. A x || B x) t.plane q
      → Does near n A ss (shown n b A t.plane) t t₁ → Does near n B ss (shown n b B t.plane) t₁ t₂
      → Does near n (λ x. A x || B x) ss q t t₂
  join-does A B w t t₁ t₂ q S D E = record {
    size = E.size;
    on = λ x hx u. on x hx u (decide (A x));
    off = λ x hx u.
        let out = or_none (A x) (B x) u in
        E.off x hx out.1 ∙ D.off x hx out.0;
    sum = omega (arith, D.sum, E.sum, parts.1.0);
    kept_sum = omega (arith, D.kept_sum, E.kept_sum, parts.1.1);
  }
    where
      m : List ℕ
      m = shown n b A t.plane

      r : List ℕ
      r = shown n b B t.plane

      parts : TwoParts n a b A B (run (always near) ss q) (run (always near) ss m) (run (always near) ss r)
          × ((run_count (always near) ss q ≡ run_count (always near) ss m + run_count (always near) ss r)
          × (run_kept (always near) ss q ≡ run_kept (always near) ss m + run_kept (always near) ss r))
      parts = parts_run near symm n a b area A B w ss T.fits q m r (record {
        one = shown_part (λ x hx e. or_inl (A x) (B x) e) S;
        other = shown_part (λ x hx e. or_inr (A x) (B x) e) S;
        rest = λ x hx d e. S.off x hx (ap (◌|| B x) d ∙ e);
      })

      on : (x : ℕ) → x < n → (A x || B x) ≡ true → (A x ≡ true) ⊎ (A x ≡ false)
          → at t₂.plane x ≡ at (run (always near) ss q) x
      on x hx u (inl c) = E.off x hx (w.disjoint x hx c) ∙ D.on x hx c ∙ parts.0.one.on x hx c
      on x hx u (inr c) = elim (or_cases (A x) (B x) u) [
        | inl d ↦ absurd (true≢false (sym d ∙ c))
        | inr d ↦ E.on x hx d ∙ parts.0.other.on x hx d
      ]

  pub for_each_does : (Ss : List (List ℕ)) (t : Effect) (q : List ℕ) → Patches near n a b t.plane Ss
      → Shows n a b (any_of Ss) t.plane q → Does near n (any_of Ss) ss q t (for_each area (f a b) Ss t)
  unfolding for_each any_of
  for_each_does [] t q none S =
      idle_does near symm n (λ x. false) S (λ x hx u. absurd (false≢true u)) ss T.fits
  for_each_does (S ∷ Ss) t q (more P w rest) shows =
      let t₁ : Effect = cond (leb area (length S)) (f a b S t) t in
      let D = patch-does S t shows.whole P in
      let same : (x : ℕ) → x < n → any_of Ss x ≡ true → at t₁.plane x ≡ at t.plane x =
      λ x hx u. D.off x hx ((separate_turn symm w).disjoint x hx u) in
      let R = shown_shows n a b (any_of Ss) t.plane shows.whole in
      let E = for_each_does Ss t₁ (shown n b (any_of Ss) t.plane) (patches_same same rest) (record {
        whole = D.size;
        size = R.size;
        on = λ x hx u. R.on x hx u ∙ sym (same x hx u);
        off = R.off;
      }) in
      join-does (member S) (any_of Ss) w t t₁ (for_each area (f a b) Ss t₁) q shows D E

-- ## The components of a set

module _ (near : Near) (symm : Symmetric near) (n : ℕ) (G : ℕ → Bool) where
  -- the component of k, as a test and as a list
  abbrev C : ℕ → ℕ → Bool
  C = part near symm n G

  abbrev from_first : ℕ → List ℕ
  from_first = component n (amid near (pixels_of n G))

  -- k is the first pixel of a component
  abbrev First : ℕ → Bool
  First = heads near symm n G

  member-first : (k x : ℕ) → x < n → member (from_first k) x ≡ C k x
  unfolding component part
  member-first k x hx = member_keep (C k) n x hx

  -- together they are the set
  pub covered : (x : ℕ) → x < n → any_of (map from_first (keep First (from 0 n))) x ≡ G x
  covered x hx = same_test (any_of (map from_first (keep First (from 0 n))) x) (G x)
      (λ e.
      let l = any_out from_first First x 0 n e in
      part_set near symm n G l.0 (omega (arith, l.2)) l.3 x hx (sym (member-first l.0 x hx) ∙ l.4))
      (λ e.
      let k = part_of near symm n G x hx e in
      any_in from_first First x 0 n k.0 zero-le (omega (arith, k.1)) k.2 (member-first k.0 x hx ∙ k.3))

  first-separate : (k m : ℕ) → suc k + m ≡ n → First k ≡ true
      → Separate near n (member (from_first k)) (any_of (map from_first (keep First (from (suc k) m))))
  first-separate k m e d = record {
    disjoint = λ x hx c. never (λ u.
        let l = any_out from_first First x (suc k) m u in
        let w = away l.0 l.1 (omega (arith, l.2)) l.3 in
        true≢false (sym (sym (member-first l.0 x hx) ∙ l.4)
        ∙ w.disjoint x hx (sym (member-first k x hx) ∙ c)));
    far = λ x y hx hy c u.
        let l = any_out from_first First y (suc k) m u in
        let w = away l.0 l.1 (omega (arith, l.2)) l.3 in
        w.far x y hx hy (sym (member-first k x hx) ∙ c) (sym (member-first l.0 y hy) ∙ l.4);
  }
    where
      away : (l : ℕ) → k < l → l < n → First l ≡ true → Separate near n (C k) (C l)
      away l kl hl f = parts_separate near symm n G k l kl hl d f

  module _ (a b : ℕ) (p : List ℕ) (vals : (x : ℕ) → x < n → G x ≡ true → between a b (at p x) ≡ true) where
    first-patch : (k : ℕ) → k < n → First k ≡ true → Patch near n a b p (from_first k)
    unfolding component part
    first-patch k hk d = record {
      sorted = keep_same (member (from_first k)) (C k) 0 n (λ x _ h. member-first k x (omega arith));
      piece = piece_same (λ x hx. sym (member-first k x hx)) (record {
        among = λ x hx c. vals x hx (part_set near symm n G k hk d x hx c);
        joined = part_joined near symm n G k hk d;
        pixel = k;
        below = hk;
        holds = part_self near symm n G k;
      });
    }

    -- those whose first pixel is among the m pixels from k on
    pub first_patches : (m k : ℕ) → k + m ≡ n → Patches near n a b p (map from_first (keep First (from k m)))
    first_patches zero k e = none
    first_patches (suc m) k e = go (First k) refl (first_patches m (suc k) (omega arith))
      where
        later : List ℕ
        later = keep First (from (suc k) m)

        go : (h : Bool) → First k ≡ h → Patches near n a b p (map from_first later)
            → Patches near n a b p (map from_first (cond h (k ∷ later) later))
        go true d rest = more (first-patch k (omega arith) d) (first-separate k m (omega arith) d) rest
        go false d rest = rest
