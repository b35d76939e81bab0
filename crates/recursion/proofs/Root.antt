-- Level 0: the plane is marked whole, treated with no area test, and with its halves comes to the model's recursion.
-- Assumes nothing.
use Prim.Native.Nat.{ℕ, zero, suc, ◌+◌, ◌-◌, ◌*◌, ◌^◌, ◌≤◌, ◌<◌}
use mathlib.Core.Path.{◌≡◌, refl, sym, ap, ap₂, ◌∙◌}
use mathlib.Core.Logic.{inl, inr}
use mathlib.Core.Bool.{Bool, true, false, cond, ◌&&◌}
use mathlib.Core.List.{List}
use native.Mathlib.Numerals.{add-one}
use native.Mathlib.Omega.{arith}
use lib.ListN.{length}
use lib.Dec.{leb, ltb}
use borrow.Author.Tests.{le-leb, lt-leb, ltb-true, ltb-false}
use Rattle.planes.specs.Lists.{at, from, count}
use Rattle.planes.specs.Neighbours.{Near, first}
use Rattle.planes.specs.Shapes.{pixels}
use Rattle.planes.specs.declared.Shape.{Shape}
use Rattle.planes.proofs.Lists.{beyond_refl}
use Rattle.planes.proofs.Tests.{decide, and_middle}
use Rattle.planes.proofs.Counts.{count_same, count_none}
use Rattle.tones.specs.declared.Rule.{Rule}
use Rattle.tones.specs.Lone.{lone}
use Rattle.model.specs.declared.Pass.{Pass}
use Rattle.model.specs.declared.Counts.{Counts}
use Rattle.model.specs.Passes.{within, inside, component_values, counted, component_count}
use Rattle.model.specs.Neighbourhoods.{pass_neighbours}
use Rattle.model.specs.Effects.{run_effect}
use Rattle.model.specs.Outcomes.{came, sums}
use Rattle.model.specs.Enhancement.{section, recursive}
use Rattle.model.proofs.Recursion.{effect_same}
use Rattle.painting.specs.Painting.{Marked}
use Rattle.sections.specs.Sections.{gone, Treated}
use Rattle.retoning.specs.Retoning.{leaves}
use Rattle.retoning.specs.declared.Treatment.{Treatment}
use Rattle.sections.proofs.Marked.{marked_gone}
use Rattle.painting.specs.declared.Next.{Next}
use Rattle.levels.specs.Levels.{Wide}
use Rattle.levels.specs.declared.Settings.{Settings}
use Rattle.branches.specs.Branches.{pass_on, Rest, gone_below, all_told, Halved}
use Rattle.branches.proofs.Halves.{MarksAre}
use Rattle.branches.proofs.Branches.{rest_of, rest_then, told, treated_came, run_one, run_more, came_then}
use Rattle.recursion.specs.Recursion.{levels_left, RecursionOutcome}

-- a plane marked with 1 where level 0 is due, and 0 elsewhere
pub root_marks : (span : ℕ) {n : ℕ} {s : Pass} {plane marks marks' : List ℕ} → Marked s plane marks marks' n
    → MarksAre n 1 span marks'
root_marks span {s = s} {plane} {marks} {marks'} M p l = elim (decide (within s (at plane p))) [
  | inl e ↦ inl (M.drawn p l ∙ ap (λ (x : Bool). cond x 1 0) e)
  | inr e ↦ inr (inl (let z : at marks' p ≡ 0 = M.drawn p l ∙ ap (λ (x : Bool). cond x 1 0) e in omega (arith, z)))
]

-- level 0 has no area test
abbrev pub whole_pass : Settings → Pass
whole_pass t = record { a = 0; b = 255; area = 1; rule = t.rule; neighbours = t.neighbours }

-- ## A plane that leaves

-- where every component has n pixels, those of a larger least area are all or none
left_of : (near : Near) (s t : Pass) (plane : List ℕ) (n : ℕ) → length plane ≡ n → s.area ≤ n → t.rule ≡ s.rule
    → ((p : ℕ) → p < n → length (component_values near s plane p) ≡ n)
    → component_count (leaves t) near s plane ≡ cond (ltb n t.area) 0 (component_count (leaves s) near s plane)
unfolding component_count leaves
left_of near s t plane n whole few rule sizes = elim (decide (ltb n t.area)) [
  | inl d ↦ rw d (ap (λ (k : ℕ). count (counted (leaves t) near s plane) (from 0 k)) whole
      ∙ count_same (counted (leaves t) near s plane) (λ p. false) n (λ p h.
      ap (λ (u : Bool). within s (at plane p) && (u && lone t.rule (vs p)) && leader p)
      (ap (leb t.area) (sizes p h) ∙ lt-leb t.area n (ltb-true n t.area d))
      ∙ and_middle (within s (at plane p)) false (leader p) refl)
      ∙ count_none (from 0 n))
  | inr d ↦ rw d (rw whole (count_same (counted (leaves t) near s plane) (counted (leaves s) near s plane) n (λ p h.
      let large = ap (leb t.area) (sizes p h) ∙ le-leb t.area n (ltb-false n t.area d) in
      let larger = ap (leb s.area) (sizes p h) ∙ le-leb s.area n few in
      ap₂ (λ (u v : Bool). within s (at plane p) && (u && v) && leader p)
      (large ∙ sym larger) (ap (λ (r : Rule). lone r (vs p)) rule))))
]
  where
    vs : ℕ → List ℕ
    vs p = component_values near s plane p

    leader : ℕ → Bool
    leader p = first (length plane) (inside near s plane) p

-- ## The levels

module _ (z : Shape) (t : Settings) {u : Next} {plane marks₀ marks queue plane₁ marks₁ queue₁ : List ℕ} {r : Treatment}
    (M : Marked (whole_pass t) plane marks₀ marks (pixels z))
    (T : Treated (pass_neighbours z (whole_pass t)) (pixels z) 1 (whole_pass t) u
    plane marks queue plane₁ marks₁ queue₁ r) where
  abbrev left : Counts
  left = all_told (levels_left (pixels z) t) r

  none-gone : gone (pass_neighbours z (whole_pass t)) (pixels z) 1 (whole_pass t) plane marks ≡ 0
  none-gone = marked_gone (pass_neighbours z (whole_pass t)) M

  marked : Rest (pixels z) marks₀ queue marks queue
  marked = record { marks_rest = M.rest; queue_rest = beyond_refl (pixels z) queue }

  pub root_only : t.last ≡ 0 → RecursionOutcome z t plane marks₀ queue plane₁ marks₁ queue₁ left
  unfolding recursive section
  root_only e = record {
    model = effect_same refl refl (omega (arith, none-gone, no-levels (ltb (pixels z) t.area)))
        ∙ treated_came (pass_neighbours z) T
        ∙ sym (run_one (pass_neighbours z) _ plane)
        ∙ ap (λ (k : ℕ). run_effect (pass_neighbours z) (recursive k t.area t.rule t.neighbours) plane) (sym e);
    rest = rest_then marked (rest_of T);
  }
    where
      no-levels : (c : Bool) → cond c 0 t.last * r.left ≡ 0 * r.left
      no-levels true = refl
      no-levels false = ap (◌* r.left) e

  pub root_halves : {code span : ℕ} {plane' marks' queue' : List ℕ} {r' : Counts} → 0 < t.last → t.last ≤ 7
      → length plane ≡ pixels z → 1 ≤ pixels z
      → ((p : ℕ) → p < pixels z
      → length (component_values (pass_neighbours z (whole_pass t)) (whole_pass t) plane p) ≡ pixels z)
      → gone_below z t 0 255 code span plane₁ marks₁
      ≡ component_count (leaves (pass_on t 0 255)) (pass_neighbours z (whole_pass t)) (whole_pass t) plane
      → Halved z 0 255 code span t plane₁ marks₁ queue₁ plane' marks' queue' r'
      → RecursionOutcome z t plane marks₀ queue plane' marks' queue' (sums left r')
  unfolding recursive section
  root_halves {code} {span} {plane' = plane'} {r' = r'} some l whole pixel sizes below H = record {
    model = go t.last refl;
    rest = rest_then marked (rest_then (rest_of T) H.rest);
  }
    where
      gones : ℕ
      gones = gone_below z t 0 255 code span plane₁ marks₁

      -- as many have left as there are, with the least area of the levels below
      gones-are : gones ≡ cond (ltb (pixels z) t.area) 0 r.left
      gones-are = below
          ∙ left_of (pass_neighbours z (whole_pass t)) (whole_pass t) (pass_on t 0 255) plane (pixels z)
          whole pixel refl sizes
          ∙ ap (cond (ltb (pixels z) t.area) 0) (omega (arith, T.left_is, none-gone))

      each : (c : Bool) (x : ℕ) → cond c 0 x * r.left ≡ x * cond c 0 r.left
      each true x = omega arith
      each false x = refl

      go : (x : ℕ) → t.last ≡ x
          → came plane' (sums left r')
          ≡ run_effect (pass_neighbours z) (recursive t.last t.area t.rule t.neighbours) plane
      go zero e = absurd (omega arith)
      go (suc m) e =
          let s : suc m + (7 - m) ≡ 8 = omega arith in
          let W : Wide t.last 0 255 (suc m) (7 - m) =
          record { width = omega (arith, ap (2 ^◌) s); few = omega arith; lowest = omega arith } in
          let levels : t.last * cond (ltb (pixels z) t.area) 0 r.left ≡ (m + 1) * gones =
          ap₂ ◌*◌ (e ∙ sym (add-one m)) (sym gones-are) in
          let lefts = each (ltb (pixels z) t.area) t.last ∙ levels in
          effect_same refl refl (omega (arith, none-gone, lefts))
          ∙ came_then (pass_neighbours z) _ (told r) r' _ ((m + 1) * gones)
          (treated_came (pass_neighbours z) T) (H.model m (7 - m) W)
          ∙ sym (run_more (pass_neighbours z) _ _ plane)
          ∙ ap (λ (k : ℕ). run_effect (pass_neighbours z) (recursive k t.area t.rule t.neighbours) plane) (sym e)
