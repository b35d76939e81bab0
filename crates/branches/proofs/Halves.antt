-- Sections that are due: what the treatment of a section leaves its halves, and what the halves leave. Assumes nothing.
use Prim.Native.Nat.{ℕ, zero, suc, ◌+◌, ◌-◌, ◌/◌, ◌≤◌, ◌<◌}
use mathlib.Core.Path.{◌≡◌, refl, sym, ap, ap₂, subst, ◌∙◌}
use mathlib.Core.Logic.{◌⊎◌, inl, inr}
use mathlib.Core.Bool.{Bool, true, false, cond, not, ◌&&◌, and-false}
use mathlib.Core.List.{List}
use mathlib.Mathlib.Data.Bool.Basic.{and_elim_left}
use native.Mathlib.Omega.{arith}
use lib.ListN.{length}
use lib.Dec.{leb, eqb}
use borrow.Author.Tests.{eq-eqb, eqb-true, le-leb, lt-leb, leb-true, leb-false}
use Rattle.planes.specs.Lists.{at, from, count}
use Rattle.planes.specs.Neighbours.{Near}
use Rattle.planes.specs.Shapes.{pixels, adjacency}
use Rattle.planes.specs.declared.Shape.{Shape}
use Rattle.planes.proofs.Tests.{decide, same_test, less_or_not}
use Rattle.planes.proofs.Counts.{count_same, count_sum}
use Rattle.model.specs.declared.Pass.{Pass}
use Rattle.model.specs.Passes.{within, sufficient, counted, component_count}
use Rattle.model.specs.Neighbourhoods.{pass_neighbours}
use Rattle.model.proofs.Neighbourhoods.{pass_sym}
use Rattle.model.proofs.Order.{in-of, in-to}
use Rattle.model.proofs.Apart.{Alike, inside_alike, values_alike, counted_alike}
use Rattle.painting.specs.Painting.{number, On}
use Rattle.sections.specs.Sections.{gone, Coded, Section, Treated, Treats}
use Rattle.retoning.specs.Retoning.{inert, leaves, one_if}
use Rattle.painting.specs.declared.Next.{Next}
use Rattle.retoning.specs.declared.Treatment.{Treatment}
use Rattle.retoning.proofs.Inert.{Part}
use Rattle.levels.specs.Levels.{Numbered, Away}
use Rattle.levels.specs.declared.Settings.{Settings}
use Rattle.levels.proofs.Numbers.{numbered_order, numbered_some, twice, half_some, halves_order}
use Rattle.levels.proofs.Numbers.{low_numbered, high_numbered, low_away, high_away}
use Rattle.branches.specs.Branches.{pass_on, CodedOn, Ready, Due, Halves, Apart, gone_on, gone_below}
use Rattle.branches.proofs.Parts.{Outside, where-is, not_within, Picks, stays_within, in_stays, out_stays}
use Rattle.branches.proofs.Parts.{mark_stays, mark_next, part_none, part_coded, gone_at}

-- ## Sections that are due

-- a section that is due can be treated
pub due_section : {z : Shape} {a b code span : ℕ} {due : Bool} {t : Settings} {u : Next} {plane marks queue : List ℕ}
    → Ready z (length plane) (length marks) (length queue) t → Due z a b code span due t plane marks
    → (u.low ≡ code → ⊥) × (u.high ≡ code → ⊥) → Section plane marks queue z code due (pass_on t a b) u
due_section R D f = record {
  lent = R.lent;
  order = numbered_order D.numbered;
  real = D.numbered.real;
  low = f.0;
  high = f.1;
  coded = D.coded;
  found = D.found;
}

-- the marks of a plane where a section is due: its number, and none of the other numbers of its branch
abbrev pub MarksAre : (n code span : ℕ) (marks : List ℕ) → Type 0
MarksAre n code span marks = (p : ℕ) → p < n → (at marks p ≡ code) ⊎ Away code span (at marks p)

-- ## A treated section

module _ {near : Near} {n code : ℕ} {r : Treatment} {s : Pass} {u : Next}
    {plane marks queue plane' marks' queue' : List ℕ}
    (ab : s.a ≤ s.b) (whole : length plane ≡ n)
    (T : Treated near n code s u plane marks queue plane' marks' queue' r) where
  -- with no halves: the section is done
  pub apart_leaf : {span : ℕ} → 1 ≤ code → 1 ≤ span → MarksAre n code span marks
      → (u.low ≡ 0) × (u.high ≡ 0) → Apart n s.a s.b code span plane marks plane' marks'
  apart_leaf {span} real some are z = record {
    inside = λ p l i j. in_stays ab whole T p l (i, j);
    outside = out_stays ab whole T;
    cleared = λ p l i j. elim (are p l) [
      | inl e ↦ elim (mark_next ab whole T p l e) [ inl q ↦ q | inr (inl q) ↦ q ∙ z.0 | inr (inr q) ↦ q ∙ z.1 ]
      | inr (inl a) ↦ absurd (omega (arith, i, a))
      | inr (inr a) ↦ absurd (omega (arith, j, a))
    ];
    stays = λ p l a. mark_stays ab whole T p l
        (λ e. elim a [ inl x ↦ omega (arith, x, e) | inr x ↦ omega (arith, x, e, some) ]);
  }

  -- with halves that are done too
  pub apart_node : {span : ℕ} {plane'' marks'' : List ℕ} → 1 ≤ code → 3 ≤ span → MarksAre n code span marks
      → (u.low ≡ code + 1) × (u.high ≡ code + 1 + (span - 1) / 2)
      → Apart n s.a s.b code span plane' marks' plane'' marks''
      → Apart n s.a s.b code span plane marks plane'' marks''
  apart_node {span} real many are z B = record {
    inside = λ p l i j. let k = in_stays ab whole T p l (i, j) in B.inside p l k.0 k.1;
    outside = λ p l o.
        let e = out_stays ab whole T p l o in
        B.outside p l (subst (Outside s.a s.b) (sym e) o) ∙ e;
    cleared = λ p l i j. elim (are p l) [
      | inl e ↦ elim (mark_next ab whole T p l e) [
        | inl q ↦ B.stays p l (inl (omega (arith, q, real))) ∙ q
        | inr (inl q) ↦ B.cleared p l (omega (arith, q, z.0)) (omega (arith, q, z.0, many))
        | inr (inr q) ↦ B.cleared p l (omega (arith, q, z.1)) (omega (arith, q, z.1, many))
      ]
      | inr (inl a) ↦ absurd (omega (arith, i, a))
      | inr (inr a) ↦ absurd (omega (arith, j, a))
    ];
    stays = λ p l a.
        let e = mark_stays ab whole T p l
        (λ e. elim a [ inl x ↦ omega (arith, x, e) | inr x ↦ omega (arith, x, e, many) ]) in
        B.stays p l (subst (Away code span) (sym e) a) ∙ e;
  }

-- a section and a part of it take their components by the same neighbours
pub halves_near : (z : Shape) {s t : Pass} → Part s t → pass_neighbours z s ≡ pass_neighbours z t
unfolding pass_neighbours
halves_near z P = ap (adjacency z) (sym P.neighbours)

-- the halves of a treated section are due: t has the same rule, and no smaller least area
module _ (z : Shape) (t : Settings) {code span d : ℕ} {s : Pass} {u : Next}
    {plane marks queue plane' marks' queue' : List ℕ} {r : Treatment} (whole : length plane ≡ pixels z)
    (T : Treats (pass_neighbours z s) (pixels z) code s u plane marks queue plane' marks' queue' r)
    (K : Coded (pass_neighbours z s) (pixels z) code s plane marks) (are : MarksAre (pixels z) code span marks)
    (middle : u.mid ≡ (s.a + s.b) / 2)
    (numbers : (u.low ≡ code + 1) × (u.high ≡ code + 1 + (span - 1) / 2))
    (area : s.area ≤ t.area) (rule : t.rule ≡ s.rule) (same : t.neighbours ≡ s.neighbours)
    (N : Numbered t.last s.a s.b (suc d) code span) where
  abbrev mid : ℕ
  mid = (s.a + s.b) / 2

  -- the numbers of the halves, and their passes
  abbrev low : ℕ
  low = code + 1

  abbrev high : ℕ
  high = code + 1 + (span - 1) / 2

  abbrev lower : Pass
  lower = pass_on t s.a mid

  abbrev upper : Pass
  upper = pass_on t (mid + 1) s.b

  ab : s.a ≤ s.b
  ab = numbered_order N

  fresh : (x : ℕ) → code < x → x < code + span → (p : ℕ) → p < pixels z → at marks p ≡ x → ⊥
  fresh x i j p l e = elim (are p l) [
    | inl q ↦ omega (arith, q, e, i)
    | inr (inl a) ↦ omega (arith, a, e, i)
    | inr (inr a) ↦ omega (arith, a, e, j)
  ]

  by_value : (v : ℕ) (x : Bool) → leb v u.mid ≡ x → number u v ≡ cond x u.low u.high
  by_value v x e = ap (λ (y : Bool). cond y u.low u.high) e

  low-on : (v : ℕ) → number u v ≡ low → On u true v
  low-on v e = elim (decide (leb v u.mid)) [
    | inl d ↦ d
    | inr d ↦ absurd (omega (arith, sym (by_value v false d) ∙ e, numbers.1, half_some N))
  ]

  high-on : (v : ℕ) → number u v ≡ high → On u false v
  high-on v e = elim (decide (leb v u.mid)) [
    | inl d ↦ absurd (omega (arith, sym (by_value v true d) ∙ e, numbers.0, half_some N))
    | inr d ↦ d
  ]

  picks-low : Picks (pixels z) marks u s lower low
  picks-low = record {
    part = record { low = omega arith; high = omega (arith, ab); area = area; rule = rule; neighbours = same };
    real = omega arith;
    fresh = fresh low (omega arith) (omega (arith, twice N, half_some N));
    given = λ v e.
        let d = in-of lower v e in
        by_value v true (le-leb v u.mid (omega (arith, d, middle))) ∙ numbers.0;
    only = λ v i e. in-to lower v (in-of s v i).0 (omega (arith, leb-true v u.mid (low-on v e), middle));
  }

  picks-high : Picks (pixels z) marks u s upper high
  picks-high = record {
    part = record { low = omega (arith, ab); high = omega arith; area = area; rule = rule; neighbours = same };
    real = omega arith;
    fresh = fresh high (omega arith) (omega (arith, twice N, half_some N));
    given = λ v e.
        let d = in-of upper v e in
        by_value v false (lt-leb v u.mid (omega (arith, d, middle))) ∙ numbers.1;
    only = λ v i e. in-to upper v (omega (arith, leb-false v u.mid (high-on v e), middle)) (in-of s v i).1;
  }

  marks-after : (p : ℕ) → p < pixels z
      → ((at marks' p ≡ low) ⊎ (at marks' p ≡ high)) ⊎ Away code span (at marks' p)
  marks-after p l = elim (are p l) [
    | inl e ↦ elim (mark_next ab whole T.treated p l e) [
      | inl q ↦ inr (inl (omega (arith, q, N.real)))
      | inr (inl q) ↦ inl (inl (q ∙ numbers.0))
      | inr (inr q) ↦ inl (inr (q ∙ numbers.1))
    ]
    | inr a ↦ inr (subst (Away code span) (sym (mark_stays ab whole T.treated p l (λ e. elim a [
      | inl x ↦ omega (arith, x, e)
      | inr x ↦ omega (arith, x, e, numbered_some N)
    ]))) a)
  ]

  -- the part of the section with the number x, by its own neighbours
  coded-part : {a b x : ℕ} → Picks (pixels z) marks u s (pass_on t a b) x → CodedOn z t a b x plane' marks'
  coded-part {a} {b} {x} P =
      subst (λ (near : Near). Coded near (pixels z) x (pass_on t a b) plane' marks') (halves_near z P.part)
      (part_coded ab whole T.treated P (pass_sym z s) K)

  halves_of : Halves z s.a s.b code span r.sides.low r.sides.high t plane' marks'
  halves_of = record {
    d = d;
    numbered = N;
    low = coded-part picks-low;
    high = coded-part picks-high;
    marks_are = marks-after;
    low_found = λ f. part_none ab whole T.treated picks-low (λ p l e i k. T.none true f p l e i (low-on _ k));
    high_found = λ f. part_none ab whole T.treated picks-high (λ p l e i k. T.none false f p l e i (high-on _ k));
  }

  -- ## Components that have left

  -- by the neighbours of the section, which are those of the halves
  gone-part : {a b x : ℕ} → Picks (pixels z) marks u s (pass_on t a b) x
      → gone_on z t a b x plane' marks' ≡ gone (pass_neighbours z s) (pixels z) x (pass_on t a b) plane' marks'
  gone-part {a} {b} {x} P =
      ap (λ (near : Near). gone near (pixels z) x (pass_on t a b) plane' marks') (sym (halves_near z P.part))

  -- pixel p is the first of a lone component of the section
  abbrev led : ℕ → Bool
  led = counted (leaves (pass_on t s.a s.b)) (pass_neighbours z s) s plane

  -- pixel p is the first of a component of a half that has not the number of the half
  abbrev apart : Pass → ℕ → ℕ → Bool
  apart half x p = not (eqb (at marks' p) x) && counted (sufficient half) (pass_neighbours z s) half plane' p

  one-half : (v : ℕ) (c : Bool) → (c ≡ true → within s v ≡ true)
      → one_if c ≡ one_if (within lower v && c) + one_if (within upper v && c)
  one-half v false f = rw (and-false (within lower v), and-false (within upper v)) refl
  one-half v true f = elim (less_or_not mid v) [
    | inl l ↦ rw (not_within lower v (inr l), in-to upper v (omega arith) (in-of s v (f refl)).1) refl
    | inr l ↦ rw (in-to lower v (in-of s v (f refl)).0 l, not_within upper v (inl (omega arith))) refl
  ]

  at-pixel : (p : ℕ) → p < pixels z → one_if (led p) ≡ one_if (apart lower low p) + one_if (apart upper high p)
  unfolding leaves
  at-pixel p h =
      one-half (at plane' p) (led p) (λ c. stays_within ab whole T.treated p h
      (and_elim_left (within s (at plane p)) _ (and_elim_left (within s (at plane p) && _) _ c)))
      ∙ sym (ap₂ (λ (x y : Bool). one_if x + one_if y)
      (gone_at ab whole T.treated picks-low (pass_sym z s) K p h)
      (gone_at ab whole T.treated picks-high (pass_sym z s) K p h))

  -- those that have the number of neither half are the lone components of the section
  pub gone_halves : gone_below z t s.a s.b code span plane' marks'
      ≡ component_count (leaves (pass_on t s.a s.b)) (pass_neighbours z s) s plane
  unfolding gone component_count
  gone_halves =
      ap₂ ◌+◌ (gone-part picks-low) (gone-part picks-high)
      ∙ sym (count_sum led (apart lower low) (apart upper high) 0 (pixels z) (λ p _ h. at-pixel p (omega arith)))
      ∙ ap (λ (k : ℕ). count led (from 0 k)) (sym whole)

-- the same of a section some levels above the last
module _ (z : Shape) (t : Settings) {code span : ℕ} {s : Pass} {u : Next}
    {plane marks queue plane' marks' queue' : List ℕ} {r : Treatment} (whole : length plane ≡ pixels z)
    (T : Treats (pass_neighbours z s) (pixels z) code s u plane marks queue plane' marks' queue' r)
    (K : Coded (pass_neighbours z s) (pixels z) code s plane marks) (are : MarksAre (pixels z) code span marks)
    (middle : u.mid ≡ (s.a + s.b) / 2)
    (numbers : (u.low ≡ code + 1) × (u.high ≡ code + 1 + (span - 1) / 2))
    (area : s.area ≤ t.area) (rule : t.rule ≡ s.rule) (same : t.neighbours ≡ s.neighbours) where
  pub next_halves : (d : ℕ) → 0 < d → Numbered t.last s.a s.b d code span
      → Halves z s.a s.b code span r.sides.low r.sides.high t plane' marks'
  next_halves zero i N = absurd (omega arith)
  next_halves (suc d) i N = halves_of z t whole T K are middle numbers area rule same N

  pub next_gone : (d : ℕ) → 0 < d → Numbered t.last s.a s.b d code span
      → gone_below z t s.a s.b code span plane' marks'
      ≡ component_count (leaves (pass_on t s.a s.b)) (pass_neighbours z s) s plane
  next_gone zero i N = absurd (omega arith)
  next_gone (suc d) i N = gone_halves z t whole T K are middle numbers area rule same N

-- ## The halves, one after the other

-- planes that are alike on the section, and marks that agree where they have the code
coded_alike : {near : Near} {n code : ℕ} {s : Pass} {plane plane' marks marks' : List ℕ} → length plane ≡ n
    → Alike s plane plane'
    → ((p : ℕ) → p < n → (at marks p ≡ code → at marks' p ≡ code) × (at marks' p ≡ code → at marks p ≡ code))
    → Coded near n code s plane marks → Coded near n code s plane' marks'
coded_alike {near} {n} {code} {s} {plane} {plane'} whole A same K = record {
  coded = λ p h e. A.section p (omega arith) ∙ K.coded p h ((same p h).1 e);
  whole = λ x y hx hy e c. (same y hy).0 (K.whole x y hx hy
      (sym (inside_alike near s plane plane' A x y (omega arith) (omega arith)) ∙ e) ((same x hx).1 c));
  others = λ p h e f.
      let d : within s (at plane p) ≡ true = sym (A.section p (omega arith)) ∙ e in
      ap (inert s) (values_alike near s plane plane' A p (omega arith) d) ∙ K.others p h d (λ c. f ((same p h).0 c));
}

gone_alike : (near : Near) {n code : ℕ} {s : Pass} {plane plane' : List ℕ} (marks marks' : List ℕ) → length plane ≡ n
    → Alike s plane plane'
    → ((p : ℕ) → p < n → (at marks p ≡ code → at marks' p ≡ code) × (at marks' p ≡ code → at marks p ≡ code))
    → gone near n code s plane' marks' ≡ gone near n code s plane marks
unfolding gone
gone_alike near {n} {code} {s} {plane} {plane'} marks marks' whole A same = count_same _ _ n (λ p h.
    ap₂ (λ (c d : Bool). not c && d)
    (same_test (eqb (at marks' p) code) (eqb (at marks p) code)
    (λ e. eq-eqb _ _ ((same p h).1 (eqb-true _ _ e))) (λ e. eq-eqb _ _ ((same p h).0 (eqb-true _ _ e))))
    (counted_alike near s plane plane' A (sufficient s) p (omega arith)))

module _ {z : Shape} {a b code span : ℕ} {lows highs : Bool} {t : Settings} {plane marks : List ℕ}
    (H : Halves z a b code span lows highs t plane marks) where
  abbrev half : ℕ
  half = (span - 1) / 2

  abbrev middle : ℕ
  middle = (a + b) / 2

  pub due_low : Due z a middle (code + 1) half lows t plane marks
  due_low = record {
    d = H.d;
    numbered = low_numbered H.numbered;
    coded = H.low;
    marks_are = λ p l. elim (H.marks_are p l) [
      | inl (inl e) ↦ inl e
      | inl (inr e) ↦ inr (inr (omega (arith, e)))
      | inr e ↦ inr (low_away H.numbered (at marks p) e)
    ];
    found = H.low_found;
  }

  -- the lower half is done
  module _ {plane₁ marks₁ : List ℕ} (whole : length plane ≡ pixels z) (size : length plane₁ ≡ length plane)
      (A : Apart (pixels z) a middle (code + 1) half plane marks plane₁ marks₁) where
    -- its number and those below it are gone
    after-low : MarksAre (pixels z) (code + 1 + half) half marks₁
    after-low p l = elim (H.marks_are p l) [
      | inl (inl e) ↦
          let gone = A.cleared p l (omega (arith, e)) (omega (arith, e, half_some H.numbered)) in
          inr (inl (omega (arith, gone)))
      | inl (inr e) ↦ inl (A.stays p l (inr (omega (arith, e))) ∙ e)
      | inr e ↦
          let same = A.stays p l (low_away H.numbered (at marks p) e) in
          inr (subst (Away (code + 1 + half) half) (sym same) (high_away H.numbered (at marks p) e))
    ]

    same-high : (p : ℕ) → p < pixels z
        → (at marks p ≡ code + 1 + half → at marks₁ p ≡ code + 1 + half)
        × (at marks₁ p ≡ code + 1 + half → at marks p ≡ code + 1 + half)
    same-high p l = (
      λ e. A.stays p l (inr (omega (arith, e))) ∙ e,
      λ e. elim (H.marks_are p l) [
        | inl (inl q) ↦ absurd (omega (
          arith,
          e,
          A.cleared p l (omega (arith, q)) (omega (arith, q, half_some H.numbered)),
        ))
        | inl (inr q) ↦ q
        | inr q ↦ sym (A.stays p l (low_away H.numbered (at marks p) q)) ∙ e
      ],
    )

    high-alike : Alike (pass_on t (middle + 1) b) plane plane₁
    high-alike = record {
      size = size;
      section = λ p l. let l' : p < pixels z = omega arith in elim (where-is a middle (at plane p)) [
        | inl i ↦ not_within (pass_on t (middle + 1) b) (at plane₁ p) (inl (omega (arith, A.inside p l' i.0 i.1)))
            ∙ sym (not_within (pass_on t (middle + 1) b) (at plane p) (inl (omega (arith, i))))
        | inr o ↦ ap (within (pass_on t (middle + 1) b)) (A.outside p l' o)
      ];
      same = λ p l e. A.outside p (omega arith) (inr (omega (arith, in-of (pass_on t (middle + 1) b) (at plane p) e)));
    }

    pub due_high : Due z (middle + 1) b (code + 1 + half) half highs t plane₁ marks₁
    due_high = record {
      d = H.d;
      numbered = high_numbered H.numbered;
      coded = coded_alike whole high-alike same-high H.high;
      marks_are = after-low;
      found = λ e p i l c. H.high_found e p i l ((same-high p l).1 c);
    }

    -- as many components have left the upper half as before
    pub gone_high : gone_on z t (middle + 1) b (code + 1 + half) plane₁ marks₁
        ≡ gone_on z t (middle + 1) b (code + 1 + half) plane marks
    gone_high = gone_alike (pass_neighbours z (pass_on t (middle + 1) b)) marks marks₁ whole high-alike same-high

    -- and the upper half
    module _ {plane₂ marks₂ : List ℕ}
        (B : Apart (pixels z) (middle + 1) b (code + 1 + half) half plane₁ marks₁ plane₂ marks₂) where
      order : a < b
      order = halves_order H.numbered

      pub apart_both : Apart (pixels z) a b code span plane marks plane₂ marks₂
      apart_both = record {
        inside = λ p l i j. elim (where-is a middle (at plane p)) [
          | inl k ↦ let x = A.inside p l k.0 k.1 in
              let e = B.outside p l (inl (omega (arith, x))) in
              (omega (arith, x, e), omega (arith, x, e, order))
          | inr o ↦ let e = A.outside p l o in
              let above : middle < at plane p = elim o [ inl x ↦ absurd (omega (arith, i, x)) | inr x ↦ x ] in
              let x = B.inside p l (omega (arith, e, above)) (omega (arith, e, j)) in
              (omega (arith, x, order), x.1)
        ];
        outside = λ p l o.
            let low : Outside a middle (at plane p) =
            elim o [ inl x ↦ inl x | inr x ↦ inr (omega (arith, x, order)) ] in
            let e = A.outside p l low in
            let high : Outside (middle + 1) b (at plane p) =
            elim o [ inl x ↦ inl (omega (arith, x, order)) | inr x ↦ inr x ] in
            B.outside p l (subst (Outside (middle + 1) b) (sym e) high) ∙ e;
        cleared = λ p l i j. elim (H.marks_are p l) [
          | inl (inl e) ↦
              let gone = A.cleared p l (omega (arith, e)) (omega (arith, e, half_some H.numbered)) in
              B.stays p l (inl (omega (arith, gone))) ∙ gone
          | inl (inr e) ↦
              let q = A.stays p l (inr (omega (arith, e))) in
              B.cleared p l (omega (arith, q, e)) (omega (arith, q, e, half_some H.numbered))
          | inr (inl x) ↦ absurd (omega (arith, i, x))
          | inr (inr x) ↦ absurd (omega (arith, j, x))
        ];
        stays = λ p l x.
            let e = A.stays p l (low_away H.numbered (at marks p) x) in
            B.stays p l (subst (Away (code + 1 + half) half) (sym e) (high_away H.numbered (at marks p) x)) ∙ e;
      }
