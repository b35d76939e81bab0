-- The parts of a branch put together: a section with its halves comes to what the model's recursion comes to. Assumes
-- nothing.
use Prim.Native.Nat.{ℕ, zero, suc, ◌+◌, ◌-◌, ◌*◌, ◌/◌, ◌^◌, ◌≤◌, ◌<◌}
use mathlib.Core.Path.{◌≡◌, refl, sym, ap, ◌∙◌}
use mathlib.Core.Bool.{Bool, true, false}
use mathlib.Core.List.{List, [], ◌∷◌, ◌++◌}
use native.Mathlib.Nat.{suc-add, mul-add, mul-le-mul, pow-suc}
use native.Mathlib.Numerals.{add-one}
use native.Mathlib.Omega.{arith}
use lib.ListN.{length, length-append}
use Rattle.planes.specs.Neighbours.{Near}
use Rattle.planes.specs.Shapes.{pixels}
use Rattle.planes.specs.declared.Shape.{Shape}
use Rattle.planes.proofs.Lists.{beyond_trans}
use Rattle.model.specs.declared.Pass.{Pass}
use Rattle.model.specs.Neighbourhoods.{pass_neighbours}
use Rattle.tones.specs.declared.Rule.{Rule}
use Rattle.model.specs.declared.Counts.{Counts}
use Rattle.model.specs.Passes.{changes, kept_back, component_count}
use Rattle.model.specs.Effects.{Effect, then, pass_effect, run_effect}
use Rattle.model.specs.Outcomes.{came, sums}
use Rattle.model.specs.Enhancement.{section, deep}
use Rattle.model.proofs.Recursion.{pass_few, effect_same, then_nothing, run_append}
use Rattle.model.proofs.Sufficient.{run_few}
use Rattle.sections.specs.Sections.{gone, Treated}
use Rattle.retoning.specs.Retoning.{leaves}
use Rattle.retoning.specs.declared.Treatment.{Treatment}
use Rattle.painting.specs.declared.Next.{Next}
use Rattle.levels.specs.Levels.{Wide, Below, Deeper, Numbered}
use Rattle.levels.specs.declared.Settings.{Settings}
use Rattle.levels.proofs.Widths.{low_half, high_half}
use Rattle.branches.specs.Branches.{pass_on, Apart, Rest, gone_on, gone_below, owing, all_told}
use Rattle.branches.specs.Branches.{Equalised, Halved}

-- ## What is lent, and what is left of it

pub rest_of : {near : Near} {n code : ℕ} {r : Treatment} {s : Pass} {u : Next}
    {plane marks queue plane' marks' queue' : List ℕ}
    → Treated near n code s u plane marks queue plane' marks' queue' r → Rest n marks queue marks' queue'
rest_of T = record { marks_rest = T.marks_rest; queue_rest = T.queue_rest }

pub rest_then : {n : ℕ} {marks queue marks₁ queue₁ marks' queue' : List ℕ} → Rest n marks queue marks₁ queue₁
    → Rest n marks₁ queue₁ marks' queue' → Rest n marks queue marks' queue'
rest_then A B = record {
  marks_rest = beyond_trans A.marks_rest B.marks_rest;
  queue_rest = beyond_trans A.queue_rest B.queue_rest;
}

-- ## Effects

-- what is told of a section's components, in counts
abbrev pub told : Treatment → Counts
told r = record { retoned = r.retoned; kept = r.kept }

module _ (by : Pass → Near) where
  -- a treated section had its pass, but for the components that left before
  pub treated_came : {n code : ℕ} {r : Treatment} {s : Pass} {u : Next}
      {plane marks queue plane' marks' queue' : List ℕ}
      → Treated (by s) n code s u plane marks queue plane' marks' queue' r
      → owing (gone (by s) n code s plane marks) (came plane' (told r)) ≡ pass_effect by s plane
  treated_came T = effect_same T.plane_is T.retoned_is T.kept_is

  pub run_one : (s : Pass) (p : List ℕ) → run_effect by (s ∷ []) p ≡ pass_effect by s p
  unfolding run_effect
  run_one s p = then_nothing (pass_effect by s p)

  pub run_more : (s : Pass) (ss : List Pass) (p : List ℕ)
      → run_effect by (s ∷ ss) p ≡ then (pass_effect by s p) (run_effect by ss (pass_effect by s p).plane)
  unfolding run_effect
  run_more s ss p = refl

  -- a call with an effect, and one after it that came to a run
  pub came_then : (ss : List Pass) (r r' : Counts) (j j' : ℕ) {plane₁ plane' : List ℕ} {e : Effect}
      → owing j (came plane₁ r) ≡ e → owing j' (came plane' r') ≡ run_effect by ss plane₁
      → owing (j + j') (came plane' (sums r r')) ≡ then e (run_effect by ss e.plane)
  came_then ss r r' j j' {plane₁} first second =
      effect_same refl refl (omega arith)
      ∙ ap (then (owing j (came plane₁ r))) second
      ∙ ap (λ (e : Effect). then e (run_effect by ss e.plane)) first

-- a treated section has no more components than there are pixels
pub small : {near : Near} {n code : ℕ} {r : Treatment} {s : Pass} {u : Next}
    {plane marks queue plane' marks' queue' : List ℕ}
    → n ≤ 1048576 → length plane ≡ n → Treated near n code s u plane marks queue plane' marks' queue' r
    → (r.retoned ≤ 1048576) × ((r.kept ≤ 1048576) × (r.left ≤ 1048576))
small {near} {s = s} {plane = plane} few whole T = (
  omega (arith, T.retoned_is, pass_few (changes s) near s plane),
  (
    omega (arith, T.kept_is, pass_few (kept_back s) near s plane),
    omega (arith, T.left_is, pass_few (leaves s) near s plane),
  ),
)

-- ## Bounds

-- a branch has as many sections as it has numbers
deep_length : (k area : ℕ) (rule : Rule) (number d a : ℕ) → length (deep k area rule number d a) + 1 ≡ 2 ^ (d + 1)
unfolding deep
deep_length k area rule number zero a = refl
deep_length k area rule number (suc d) a =
    let a' = a + 2 ^ (d + k) in
    omega (
      arith,
      length-append (deep k area rule number d a) (deep k area rule number d a'),
      deep_length k area rule number d a,
      deep_length k area rule number d a',
      ap (2 ^◌) (suc-add d 1),
      pow-suc 2 (d + 1),
    )

-- counts that come to a run of passes, but for some that are owing, are within the pixels of all its passes
counts_few : (by : Pass → Near) (ss : List Pass) (span : ℕ) (r : Counts) (j : ℕ) (plane plane' : List ℕ)
    → length ss ≤ span → length plane ≤ 1048576 → owing j (came plane' r) ≡ run_effect by ss plane
    → (r.retoned ≤ span * 1048576) × (r.kept ≤ span * 1048576)
counts_few by ss span r j plane plane' sections few same =
    let all = run_few by ss plane in
    let most : length ss * length plane ≤ span * 1048576 = mul-le-mul sections few in (
      omega (arith, ap (λ (e : Effect). e.retoned) same),
      omega (arith, ap (λ (e : Effect). e.kept) same),
    )

-- so that no count of a branch is above the pixels as often as it has numbers
pub branch_few : {z : Shape} {a b d code span : ℕ} {t : Settings} {plane marks queue plane' marks' queue' : List ℕ}
    {r : Counts} → Numbered t.last a b d code span → length plane ≡ pixels z → pixels z ≤ 1048576
    → Equalised z a b code span t plane marks queue plane' marks' queue' r
    → (r.retoned ≤ span * 1048576) × (r.kept ≤ span * 1048576)
branch_few {z} {a} {d = d} {span = span} {t} {plane} {plane' = plane'} {r = r} N whole few E =
    let sections = deep_length N.k t.area t.rule t.neighbours d a in
    counts_few (pass_neighbours z) (deep N.k t.area t.rule t.neighbours d a) span r _ plane plane'
    (omega (arith, N.spans)) (omega arith) (E.model d N.k N.wide)

pub halves_few : {z : Shape} {a b code span : ℕ} {t : Settings} {plane marks queue plane' marks' queue' : List ℕ}
    {r : Counts} (d : ℕ) → 0 < d → Numbered t.last a b d code span → length plane ≡ pixels z → pixels z ≤ 1048576
    → Halved z a b code span t plane marks queue plane' marks' queue' r
    → (r.retoned ≤ span * 1048576) × (r.kept ≤ span * 1048576)
halves_few zero some N whole few H = absurd (omega arith)
halves_few {z} {a} {span = span} {t} {plane} {plane' = plane'} {r = r} (suc d) some N whole few H =
    let section : ℕ → List Pass = deep N.k t.area t.rule t.neighbours d in
    let a' = a + 2 ^ (d + N.k) in
    let sections = deep_length N.k t.area t.rule t.neighbours d in
    let both = length-append (section a) (section a') in
    counts_few (pass_neighbours z) (section a ++ section a') span r _ plane plane'
    (omega (arith, sections a, sections a', N.spans, ap (2 ^◌) (suc-add d 1), pow-suc 2 (d + 1))) (omega arith)
    (H.model d N.k N.wide)

-- what a section counts for, with no more than 7 levels below it
pub told_few : {near : Near} {n code x : ℕ} {r : Treatment} {s : Pass} {u : Next}
    {plane marks queue plane' marks' queue' : List ℕ}
    → n ≤ 1048576 → length plane ≡ n → x ≤ 7 → Treated near n code s u plane marks queue plane' marks' queue' r
    → ((all_told x r).retoned ≤ 8388608) × ((all_told x r).kept ≤ 8388608)
told_few {x = x} {r} few whole levels T =
    let all = small few whole T in
    let lefts : x * r.left ≤ 7 * 1048576 = mul-le-mul levels all.1.1 in
    (omega (arith, all.0), omega (arith, all.1.0))

-- ## A section

-- the section of the model
the_section : {last a b d k : ℕ} (t : Settings) → Wide last a b d k
    → pass_on t a b ≡ section t.area t.rule t.neighbours a (2 ^ (d + k))
unfolding section
the_section {a = a} {b} {d} {k} t W =
    let e : b ≡ a + 2 ^ (d + k) - 1 = omega (arith, W.width) in
    ap (λ (x : ℕ). record { a = a; b = x; area = t.area; rule = t.rule; neighbours = t.neighbours }) e

-- a section of the settings that was treated; x is the number of levels below it
module _ (z : Shape) (t : Settings) {a b code x : ℕ} {u : Next} {plane marks queue plane₁ marks₁ queue₁ : List ℕ}
    {r : Treatment} (B : Below a b t.last x)
    (T : Treated (pass_neighbours z (pass_on t a b)) (pixels z) code (pass_on t a b) u
    plane marks queue plane₁ marks₁ queue₁ r) where
  -- those that left before
  abbrev before : ℕ
  before = gone_on z t a b code plane marks

  section-came : {d k : ℕ} → Wide t.last a b d k
      → owing before (came plane₁ (told r))
      ≡ pass_effect (pass_neighbours z) (section t.area t.rule t.neighbours a (2 ^ (d + k))) plane
  section-came W =
      treated_came (pass_neighbours z) T ∙ ap (λ (s : Pass). pass_effect (pass_neighbours z) s plane) (the_section t W)

  -- with no halves
  pub leaf : {span : ℕ} {more : Bool} → Deeper a b t.last more → more ≡ false
      → Apart (pixels z) a b code span plane marks plane₁ marks₁
      → Equalised z a b code span t plane marks queue plane₁ marks₁ queue₁ (all_told x r)
  unfolding deep
  leaf D e A = record { model = λ d k W. one d k W (D.none e d k W); apart = A; rest = rest_of T }
    where
      one : (d k : ℕ) → Wide t.last a b d k → d ≡ 0
          → owing ((d + 1) * before) (came plane₁ (all_told x r))
          ≡ run_effect (pass_neighbours z) (deep k t.area t.rule t.neighbours d a) plane
      one zero k W e =
          let none : x * r.left ≡ 0 * r.left = ap (◌* r.left) (B.exact 0 k W) in
          effect_same refl refl (omega arith) ∙ section-came W ∙ sym (run_one (pass_neighbours z) _ plane)
      one (suc d) k W e = absurd (omega arith)

  -- with its halves: a component that left before, or leaves, is in one of them, and is kept back on all levels below
  pub node : {span : ℕ} {plane' marks' queue' : List ℕ} {r' : Counts} {more : Bool} → Deeper a b t.last more
      → more ≡ true → Halved z a b code span t plane₁ marks₁ queue₁ plane' marks' queue' r'
      → gone_below z t a b code span plane₁ marks₁
      ≡ component_count (leaves (pass_on t a b)) (pass_neighbours z (pass_on t a b)) (pass_on t a b) plane
      → Apart (pixels z) a b code span plane marks plane' marks'
      → Equalised z a b code span t plane marks queue plane' marks' queue' (sums (all_told x r) r')
  unfolding deep
  node {span} {plane' = plane'} {r' = r'} D e H left A = record {
    model = λ d k W. both d k W (D.yes e d k W);
    apart = A;
    rest = rest_then (rest_of T) H.rest;
  }
    where
      below : ℕ
      below = gone_below z t a b code span plane₁ marks₁

      both : (d k : ℕ) → Wide t.last a b d k → 0 < d
          → owing ((d + 1) * before) (came plane' (sums (all_told x r) r'))
          ≡ run_effect (pass_neighbours z) (deep k t.area t.rule t.neighbours d a) plane
      both zero k W e = absurd (omega arith)
      both (suc d) k W e =
          let gone-is : below ≡ r.left + before = left ∙ sym T.left_is in
          let lefts : x * r.left ≡ (d + 1) * r.left = ap (◌* r.left) (B.exact (suc d) k W ∙ sym (add-one d)) in
          let shares : (d + 1) * below ≡ (d + 1) * r.left + (d + 1) * before =
          ap ((d + 1) *◌) gone-is ∙ mul-add (d + 1) r.left before in
          let levels : (suc d + 1) * before ≡ (d + 1) * before + before = omega arith in
          effect_same refl refl (omega arith)
          ∙ came_then (pass_neighbours z) _ (told r) r' before ((d + 1) * below) (section-came W) (H.model d k W)
          ∙ sym (run_more (pass_neighbours z) _ _ plane)

-- ## The halves

module _ {z : Shape} {a b code span : ℕ} {r r' : Counts} {t : Settings}
    {plane marks queue plane₁ marks₁ queue₁ plane' marks' queue' : List ℕ}
    (L : Equalised z a ((a + b) / 2) (code + 1) ((span - 1) / 2) t plane marks queue plane₁ marks₁ queue₁ r)
    (H : Equalised z ((a + b) / 2 + 1) b (code + 1 + (span - 1) / 2) ((span - 1) / 2) t
    plane₁ marks₁ queue₁ plane' marks' queue' r') where
  -- the lower half leaves the components of the upper one
  pub halves : gone_on z t ((a + b) / 2 + 1) b (code + 1 + (span - 1) / 2) plane₁ marks₁
      ≡ gone_on z t ((a + b) / 2 + 1) b (code + 1 + (span - 1) / 2) plane marks
      → Apart (pixels z) a b code span plane marks plane' marks'
      → Halved z a b code span t plane marks queue plane' marks' queue' (sums r r')
  halves same A = record {
    model = λ d k W.
        let below = deep k t.area t.rule t.neighbours d in
        let start : (a + b) / 2 + 1 ≡ a + 2 ^ (d + k) = (low_half W).width in
        let upper = H.model d k (high_half W) ∙ ap (λ (x : ℕ). run_effect (pass_neighbours z) (below x) plane₁) start in
        effect_same refl refl (omega (
          arith,
          mul-add (d + 1) lower (gone_on z t ((a + b) / 2 + 1) b hcode plane marks),
          ap ((d + 1) *◌) same,
        ))
        ∙ came_then (pass_neighbours z) (below (a + 2 ^ (d + k))) r r' _ _ (L.model d k (low_half W)) upper
        ∙ sym (run_append (pass_neighbours z) (below a) (below (a + 2 ^ (d + k))) plane);
    apart = A;
    rest = rest_then L.rest H.rest;
  }
    where
      hcode : ℕ
      hcode = code + 1 + (span - 1) / 2

      lower : ℕ
      lower = gone_on z t a ((a + b) / 2) (code + 1) plane marks
