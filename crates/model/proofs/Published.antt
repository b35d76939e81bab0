-- The published recursion by components ends as the recursion by sections does, and so as the passes level by level, in
-- the same plane with the same count. For any symmetric neighbour relation under which the plane is one component, any
-- rule, any least area and any order of components. By induction over the levels: each set is looked at through a plane
-- that shows it alone, so that nothing outside it comes in. Assumes nothing.
use Prim.Native.Nat.{ℕ, zero, suc, ◌+◌, ◌-◌, ◌/◌, ◌^◌, ◌≤◌, ◌<◌, zero-le}
use mathlib.Core.Path.{◌≡◌, refl, sym, ap, subst, subst₂, ◌∙◌}
use mathlib.Core.Logic.{◌⊎◌, inl, inr}
use mathlib.Core.Bool.{Bool, true, false, ◌&&◌, true≢false}
use mathlib.Core.List.{List, [], ◌∷◌, ◌++◌, map}
use mathlib.Mathlib.Data.Bool.Basic.{and_elim_left, and_elim_right, and_intro}
use native.Mathlib.Nat.{zero-add}
use native.Mathlib.Omega.{arith}
use lib.ListN.{length}
use lib.Seq.{ext_get_or}
use lib.Pow.{pow_pos}
use borrow.Author.Tests.{le-leb}
use Rattle.planes.specs.Lists.{from, keep, count, at}
use Rattle.planes.specs.Shapes.{Symmetric}
use Rattle.planes.specs.Neighbours.{Near, component, first}
use Rattle.planes.proofs.Tests.{decide, contra}
use Rattle.planes.proofs.Lists.{keep_keep, keep_all}
use Rattle.planes.proofs.Permutations.{permutation_refl}
use Rattle.planes.proofs.Counts.{count_all, length_from}
use Rattle.planes.proofs.Links.{link_trans, link_sym}
use Rattle.tones.specs.declared.Rule.{Rule}
use Rattle.model.specs.declared.Pass.{Pass}
use Rattle.model.specs.Runs.{run, All, none, more}
use Rattle.model.specs.Enhancement.{section, passes, deep, recursive}
use Rattle.model.specs.Effects.{Effect, nothing, always, run_effect}
use Rattle.model.specs.Published.{Procedure, between, level_set, amid, connected_components}
use Rattle.model.specs.Published.{histogram_equalization, for_each, process_level_set, recursive_histogram_equalization}
use Rattle.model.specs.Published.{Arrangement, reading_order, Reorders}
use Rattle.model.specs.Published.{published_in, published, Connected}
use Rattle.model.proofs.Apart.{linked_same}
use Rattle.model.proofs.Recursion.{effect_same, all_append, double, recursion_listed}
use Rattle.model.proofs.Sets.{pixels_of, amid_is, heads, any_of, any_reordered}
use Rattle.model.proofs.Parts.{InRange, range_wider, between_wider, Shows, shows_same, run_outside, length_run}
use Rattle.model.proofs.Pieces.{Does, does_same, does_append, does_shows, Piece, equalization_does}
use Rattle.model.proofs.Several.{Performs, Patches, patches_reordered, for_each_does, covered, first_patches}

-- ## Reading order

reading_reorders : Reorders reading_order
reading_reorders a b Ss = permutation_refl Ss

-- ## Sections below a section

-- with the last level's width 2 ^ k: the last value of the section of width 2 ^ (d + k) that starts at a
abbrev top : ℕ → ℕ → ℕ → ℕ
top k d a = a + 2 ^ (d + k) - 1

deep_fits : (area : ℕ) (rule : Rule) (number k d a : ℕ) → All (InRange a (top k d a) area) (deep k area rule number d a)
unfolding deep section
deep_fits area rule number k zero a =
    let h = pow_pos (0 + k) in
    more {s = section area rule number a (2 ^ (0 + k))}
    (record { low = omega arith; high = omega arith; least = refl }) none
deep_fits area rule number k (suc d) a =
    let h = pow_pos (d + k) in
    let e = double d k in
    more {s = section area rule number a (2 ^ (suc d + k))}
    (record { low = omega arith; high = omega arith; least = refl })
    (all_append (range_wider (omega arith) (omega arith) (deep_fits area rule number k d a))
    (range_wider (omega arith) (omega arith) (deep_fits area rule number k d (a + 2 ^ (d + k)))))

module _ (arrange : Arrangement) (reorders : Reorders arrange) (near : Near) (symm : Symmetric near)
    (area : ℕ) where
  -- ## The components of a set, one after the other

  components-do : (f : Procedure) (ss : List Pass) (a b : ℕ) → Performs near area f ss a b
      → (n : ℕ) (G : ℕ → Bool) (t : Effect) (q : List ℕ) → Shows n a b G t.plane q
      → ((x : ℕ) → x < n → G x ≡ true → between a b (at t.plane x) ≡ true)
      → Does near n G ss q t (for_each area (f a b) (arrange a b (connected_components near n (pixels_of n G))) t)
  unfolding connected_components
  components-do f ss a b T n G t q S vals =
      does_same same (for_each_does near symm area f ss a b T n (arrange a b parts) t q
      (patches_reordered symm (reorders a b parts) patches) (shows_same (λ x hx. sym (same x hx)) S))
    where
      parts : List (List ℕ)
      parts = connected_components near n (pixels_of n G)

      list : map (component n (amid near (pixels_of n G))) (keep (heads near symm n G) (from 0 n)) ≡ parts
      list = ap (map (component n (amid near (pixels_of n G))))
          (sym (keep_keep (first n (amid near (pixels_of n G))) G (from 0 n)))

      patches : Patches near n a b t.plane parts
      patches = subst (Patches near n a b t.plane) list
          (first_patches near symm n G a b t.plane vals n 0 (omega arith))

      same : (x : ℕ) → x < n → any_of (arrange a b parts) x ≡ G x
      same x hx =
          sym (any_reordered (reorders a b parts) x)
          ∙ sym (ap (λ (Ss : List (List ℕ)). any_of Ss x) list)
          ∙ covered near symm n G x hx

  -- ## The halves of a set

  -- to process the level set [lo, hi] of a set in [a, b] is to run the passes in [lo, hi]
  level-set-does : (f : Procedure) (ss : List Pass) (lo hi : ℕ) → Performs near area f ss lo hi
      → (a b : ℕ) → a ≤ lo → hi ≤ b → (n : ℕ) (A : ℕ → Bool) (t : Effect) (m : List ℕ) → Shows n a b A t.plane m
      → Does near n A ss m t (process_level_set arrange near area f lo hi (pixels_of n A) t)
  unfolding process_level_set level_set
  level-set-does f ss lo hi T a b la hb n A t m S =
      rw (S.whole, keep_keep (λ x. between lo hi (at t.plane x)) A (from 0 n))
      (widen (components-do f ss lo hi T n G t m part-shown
      (λ x hx g. and_elim_right (A x) (between lo hi (at t.plane x)) g)))
    where
      G : ℕ → Bool
      G x = A x && between lo hi (at t.plane x)

      -- a pixel that is not in the level set is shown outside [lo, hi]
      outside : (x : ℕ) → x < n → G x ≡ false → between lo hi (at m x) ≡ false
      outside x hx g = elim (decide (A x)) [
        | inl d ↦ ap (between lo hi) (S.on x hx d) ∙ contra (λ e. and_intro d e) g
        | inr d ↦ contra (between_wider lo hi a b (at m x) la hb) (S.off x hx d)
      ]

      part-shown : Shows n lo hi G t.plane m
      part-shown = record {
        whole = S.whole;
        size = S.size;
        on = λ x hx g. S.on x hx (and_elim_left (A x) (between lo hi (at t.plane x)) g);
        off = outside;
      }

      -- the rest of the set stays, in the plane and in m
      widen : {t' : Effect} → Does near n G ss m t t' → Does near n A ss m t t'
      widen {t'} D = record {
        size = D.size;
        on = λ x hx d. on x hx d (decide (G x));
        off = λ x hx d. D.off x hx (ap (◌&& between lo hi (at t.plane x)) d);
        sum = D.sum;
        kept_sum = D.kept_sum;
      }
        where
          on : (x : ℕ) → x < n → A x ≡ true → (G x ≡ true) ⊎ (G x ≡ false)
              → at t'.plane x ≡ at (run (always near) ss m) x
          on x hx d (inl g) = D.on x hx g
          on x hx d (inr g) =
              D.off x hx g
              ∙ sym (S.on x hx d)
              ∙ sym (run_outside near symm n lo hi area ss T.fits m x (omega (arith, S.size)) (outside x hx g))

  -- a set, then its lower and its upper half
  level-does : (s : Pass) (mid : ℕ) → s.a ≤ mid → mid < s.b → (f : Procedure) (xs ys : List Pass)
      → Performs near area f xs s.a mid → Performs near area f ys (mid + 1) s.b
      → (n : ℕ) (A : ℕ → Bool) (t : Effect) (m : List ℕ) → Shows n s.a s.b A t.plane m
      → Piece near n s.a s.b A t.plane → s.area ≤ count A (from 0 n)
      → Does near n A (s ∷ (xs ++ ys)) m t
      (process_level_set arrange near area f (mid + 1) s.b (pixels_of n A)
      (process_level_set arrange near area f s.a mid (pixels_of n A)
      (histogram_equalization s.rule s.a s.b (pixels_of n A) t)))
  level-does s mid am mb f xs ys X Y n A t m S P large =
      let t₁ = histogram_equalization s.rule s.a s.b (pixels_of n A) t in
      let t₂ = process_level_set arrange near area f s.a mid (pixels_of n A) t₁ in
      let m₁ = run (always near) (s ∷ []) m in
      let m₂ = run (always near) xs m₁ in
      let own : InRange s.a s.b s.area s = record { low = omega arith; high = omega arith; least = refl } in
      let D₁ = equalization_does near symm n A s t m S P large in
      let S₁ = does_shows near symm n A S (more own none) D₁ in
      let D₂ = level-set-does f xs s.a mid X s.a s.b (omega arith) (omega arith) n A t₁ m₁ S₁ in
      let S₂ = does_shows near symm n A S₁ (range_wider (omega arith) (omega arith) X.fits) D₂ in
      let D₃ = level-set-does f ys (mid + 1) s.b Y s.a s.b (omega arith) (omega arith) n A t₂ m₂ S₂ in
      does_append near symm n A D₁ (does_append near symm n A D₂ D₃)

  -- ## The levels below a set

  module _ (rule : Rule) (number k : ℕ) where
    -- the recursion with d levels below a section is the run of the section and the sections below
    recursive-does : (d a : ℕ)
        → Performs near area (recursive_histogram_equalization arrange near area rule d) (deep k area rule number d a) a
        (top k d a)
    unfolding recursive_histogram_equalization deep section
    recursive-does zero a = record {
      fits = deep_fits area rule number k zero a;
      does = λ n A t m S P large.
          equalization_does near symm n A (section area rule number a (2 ^ (0 + k))) t m S P large;
    }
    recursive-does (suc d) a =
        let f : Procedure = recursive_histogram_equalization arrange near area rule d in
        let mid = (a + top k (suc d) a) / 2 in
        let a' = a + 2 ^ (d + k) in
        let h = pow_pos (d + k) in
        let e = double d k in
        let low : top k d a ≡ mid = omega arith in
        let next : a' ≡ mid + 1 = omega arith in
        let high : top k d a' ≡ top k (suc d) a = omega arith in
        let X = subst (Performs near area f (deep k area rule number d a) a) low (recursive-does d a) in
        let Y = subst₂ (Performs near area f (deep k area rule number d a')) next high (recursive-does d a') in
        record {
          fits = deep_fits area rule number k (suc d) a;
          does = λ n A t m S P large.
              level-does (section area rule number a (2 ^ (suc d + k))) mid (omega arith) (omega arith) f
              (deep k area rule number d a) (deep k area rule number d a') X Y n A t m S P large;
        }

-- ## The whole plane

module _ (near : Near) (symm : Symmetric near) (area : ℕ) (rule : Rule) (p : List ℕ)
    (c : Connected near p) where
  abbrev n : ℕ
  n = length p

  abbrev all : ℕ → Bool
  all x = true

  abbrev start : Effect
  start = nothing p

  shows-all : Shows n 0 255 all p p
  shows-all = record { whole = refl; size = refl; on = λ x hx e. refl; off = λ x hx e. absurd (true≢false e) }

  piece-all : Piece near n 0 255 all p
  piece-all = record {
    among = λ x hx _. and_intro (le-leb 0 (at p x) zero-le) (le-leb (at p x) 255 (c.bytes x hx));
    joined = λ x y hx hy _ _.
        linked_same n (amid near (pixels_of n all)) near (amid_is near n all) n x y (omega arith) hx hy
        ∙ link_trans near n x 0 y c.some (link_sym near symm n x 0 ∙ c.joined x hx) (c.joined y hy);
    pixel = 0;
    below = c.some;
    holds = refl;
  }

  -- no area test: the least area of level 0 is 1
  large-all : 1 ≤ count all (from 0 n)
  large-all = omega (arith, count_all (from 0 n), length_from 0 n, c.some)

  module _ (arrange : Arrangement) (reorders : Reorders arrange) where
    published-does : (number last : ℕ) → last ≤ 7
        → Does near n all (recursive last area rule number) p start (published_in arrange near last area rule p)
    unfolding recursive published_in recursive_histogram_equalization section
    published-does number zero h = rw (← keep_all (from 0 n))
        (equalization_does near symm n all (section 1 rule number 0 256) start p shows-all piece-all large-all)
    published-does number (suc m) h =
        let k = 7 - m in
        let a' = 0 + 2 ^ (m + k) in
        let f : Procedure = recursive_histogram_equalization arrange near area rule m in
        let seven : m + k ≡ 7 = omega arith in
        let half : 2 ^ (m + k) ≡ 128 = ap (2 ^◌) seven in
        let low : top k m 0 ≡ 127 = omega arith in
        let next : a' ≡ 128 = omega arith in
        let high : top k m a' ≡ 255 = omega arith in
        let X = subst (Performs near area f (deep k area rule number m 0) 0) low
        (recursive-does arrange reorders near symm area rule number k m 0) in
        let Y = subst₂ (Performs near area f (deep k area rule number m a')) next high
        (recursive-does arrange reorders near symm area rule number k m a') in
        rw (← keep_all (from 0 n))
        (level-does arrange reorders near symm area (section 1 rule number 0 256) 127 (omega arith) (omega arith) f
        (deep k area rule number m 0) (deep k area rule number m a') X Y n all start p shows-all piece-all large-all)

    -- the published recursion ends as the recursion by sections, whatever the order of the components, and whatever
    -- number its passes carry, where one relation is used for all
    pub published_run_in : (number last : ℕ) → last ≤ 7
        → published_in arrange near last area rule p ≡ run_effect (always near) (recursive last area rule number) p
    published_run_in number last h =
        let D = published-does number last h in
        let size = D.size ∙ sym (length_run (always near) (recursive last area rule number) p) in
        effect_same (ext_get_or 0 _ _ size (λ x hx. D.on x (omega (arith, D.size)) refl))
        (D.sum ∙ zero-add _) (D.kept_sum ∙ zero-add _)

  pub published_run : (number last : ℕ) → last ≤ 7
      → published near last area rule p ≡ run_effect (always near) (recursive last area rule number) p
  published_run = published_run_in reading_order reading_reorders

  -- and so as the passes level by level
  pub published_listed : (number last : ℕ) → last ≤ 7
      → published near last area rule p ≡ run_effect (always near) (passes last area rule number) p
  published_listed number last h =
      published_run number last h ∙ (recursion_listed (always near) last area rule number h).effects p

  -- in whatever order components are treated
  pub published_any_order : (arrange : Arrangement) → Reorders arrange → (last : ℕ) → last ≤ 7
      → published_in arrange near last area rule p ≡ published near last area rule p
  published_any_order arrange reorders last h =
      published_run_in arrange reorders 4 last h ∙ sym (published_run 4 last h)
