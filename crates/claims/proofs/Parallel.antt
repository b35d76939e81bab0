-- Passes on pairwise disjoint intervals end alike in every order, and on copies of a plane that are put together; and a
-- pass leaves a component alike wherever else planes differ: `sections_in_parallel`. By the laws of schedules; an
-- enhancement is its levels handed out, since its chain is the run of its passes. Assumes nothing.
use Prim.Native.Nat.{ℕ}
use mathlib.Core.Path.{◌≡◌, sym, ap, subst, ◌∙◌}
use mathlib.Core.List.{List, [], ◌∷◌}
use lib.ListN.{length}
use Rattle.planes.specs.Neighbours.{Near}
use Rattle.planes.specs.Permutations.{Permutation}
use Rattle.planes.specs.Replies.{gives}
use Rattle.planes.specs.Shapes.{neighbours, adjacency, Symmetric, Narrower}
use Rattle.planes.specs.declared.Shape.{Shape}
use Rattle.planes.proofs.Refusals.{▷_none}
use Rattle.planes.proofs.Shapes.{neighbours_sym, adjacency_sym}
use Rattle.colours.specs.Calls.{IntensityOutcome}
use Rattle.model.specs.declared.Pass.{Pass}
use Rattle.model.specs.Neighbourhoods.{pass_neighbours}
use Rattle.model.specs.Effects.{Effect, counts, run_effect}
use Rattle.model.specs.Enhancement.{passes, enhanced}
use Rattle.model.specs.Outcomes.{Outcome}
use Rattle.model.specs.Runs.{All}
use Rattle.model.specs.Calls.{retoned_in, kept_in}
use Rattle.model.proofs.Chains.{ordered, carries_within}
use Rattle.model.proofs.Enhancement.{start_runs}
use Rattle.model.proofs.Neighbourhoods.{pass_wider}
use Rattle.model.proofs.Outcomes.{outcome_given}
use Rattle.model.proofs.Recursion.{all_map}
use Rattle.levels.specs.declared.Settings.{Settings}
use Rattle.enhance.specs.Calls.{EnhanceOutcome}
use Rattle.enhance.proofs.Calls.{fine, fine_passes, fine_length}
use Rattle.listformat.specs.Format.{passes_of}
use Rattle.listchecks.specs.Refusals.{list_refusal, passes_refusal}
use Rattle.listchecks.proofs.Refusals.{accepted_list}
use Rattle.passlists.specs.Outcomes.{slices_refusal}
use Rattle.passlists.proofs.Chains.{all_fine}
use Rattle.passlists.proofs.Refusals.{fine_passes as passes-fine}
use Rattle.schedules.specs.Orders.{PairwiseDisjoint}
use Rattle.schedules.specs.Copies.{Work, Worked, work_passes, together, Rounds, rounds_total, level_rounds}
use Rattle.schedules.proofs.Orders.{all_both, Ordered, permuted_same}
use Rattle.schedules.proofs.Runs.{run_fine}
use Rattle.schedules.proofs.Calls.{orders_plane, orders_answers, answered_is}
use Rattle.schedules.proofs.Copies.{works_ordered, together_run, copies_plane, copies_answers}
use Rattle.schedules.proofs.Levels.{level_disjoint, levels_effect}
use Rattle.schedules.proofs.Components.{locally_alike, calls_alike}
use Rattle.claims.specs.Claims.{ShapePreserving, AsEnhanced, AnyOrder, HandedOut, Locality}
use Rattle.claims.specs.Claims.{SectionsInParallel}
use Rattle.claims.proofs.Claims.{filled}
use Rattle.claims.proofs.Enhancements.{as_enhanced}
use Rattle.claims.proofs.ShapePreserving.{fine_shapes}

-- ## Lists

-- passes that are not refused have intervals
passes_ordered : (ss : List Pass) → passes_refusal ss ≡ 0 → All Ordered ss
passes_ordered ss e = all_map (λ s f. ordered s f) (all_fine ss (passes-fine ss e).1)

-- two accepted runs of permuted passes
module _ (z : Shape) {ss ts : List Pass} (d : PairwiseDisjoint ss) (r : Permutation ss ts) (o : All Ordered ss) where
  runs-alike : {n number₁ number₂ : ℕ} {plane values₁ plane₁ values₂ plane₂ : List ℕ}
      {marks₁ queue₁ marks₁' queue₁' marks₂ queue₂ marks₂' queue₂' : List ℕ}
      → Outcome n number₁ (run_effect (pass_neighbours z) ss plane) plane marks₁ queue₁ (gives values₁)
      plane₁ marks₁' queue₁'
      → Outcome n number₂ (run_effect (pass_neighbours z) ts plane) plane marks₂ queue₂ (gives values₂)
      plane₂ marks₂' queue₂'
      → (values₁ ≡ values₂) × (plane₁ ≡ plane₂)
  runs-alike {plane = plane} O₁ O₂ =
      let done₁ = (outcome_given O₁).1 in
      let done₂ = (outcome_given O₂).1 in
      let same = (permuted_same (pass_neighbours z) r o d).effects plane in (
        done₁.0 ∙ ap counts same ∙ sym done₂.0,
        done₁.1 ∙ ap (λ (e : Effect). e.plane) same ∙ sym done₂.1,
      )

any_order : AnyOrder
any_order = record {
  of_calls = λ z S₁ S₂ a₁ a₂ d r. (orders_plane z S₁ S₂ a₁ a₂ d r, orders_answers z S₁ S₂ a₁ a₂ d r);
  on_first = λ z S a d s reply y. answered_is z S a d y;
  of_passes = λ z ss ts d r {plane} {marks₁} {queue₁} O₁ O₂.
      let fine = (▷_none (slices_refusal z plane marks₁ queue₁) (passes_refusal ss) (outcome_given O₁).0).1 in
      runs-alike z d r (passes_ordered ss fine) O₁ O₂;
  of_lists = λ z list₁ list₂ d r {plane} {marks₁} {queue₁} O₁ O₂.
      let fine = (▷_none (slices_refusal z plane marks₁ queue₁) (list_refusal list₁) (outcome_given O₁).0).1 in
      runs-alike z d r (passes_ordered (passes_of list₁) (accepted_list list₁ fine).1) O₁ O₂;
}

-- ## Copies

together_shapes : (near : Near) → Symmetric near → (z : Shape) {first : List ℕ} {works : List Work}
    → Worked z first works → PairwiseDisjoint (work_passes works)
    → All (λ s. Narrower near (pass_neighbours z s)) (work_passes works)
    → ShapePreserving near first (together works first)
together_shapes near symm z {first} {works} W d inside =
    let within : All (λ s. Ordered s × Narrower near (pass_neighbours z s)) (work_passes works) =
    all_both (λ s o w. (o, w)) (works_ordered z first W) inside in
    subst (ShapePreserving near first) (sym (together_run z first W d))
    (fine_shapes symm (run_fine near z (work_passes works) within first))

-- what an accepted enhancement comes to from the plane that intensity filled is the run of its passes, and so what its
-- levels come to that are handed out
by_levels : (z : Shape) (t : Settings) {frame lent told first : List ℕ}
    → IntensityOutcome z.w z.h frame lent (gives told) first
    → {plane marks queue output values plane' marks' queue' output' : List ℕ}
    → EnhanceOutcome z t frame plane marks queue output (gives values) plane' marks' queue' output'
    → {works : List (List Work)} {last : List ℕ}
    → Rounds z (level_rounds t.last t.area t.rule t.neighbours) works first last
    → AsEnhanced z frame values plane' output' (gives (rounds_total retoned_in works ∷ rounds_total kept_in works ∷ []))
    last
unfolding enhanced
by_levels z t {frame} {first = first} I {plane} {marks} {queue} {output} O R =
    let F = fine z (length frame) (length plane) (length marks) (length queue) (length output) t
    (outcome_given O.retoned).0 in
    let whole = ap length (filled I) ∙ fine_length frame F in
    let same = start_runs z (passes t.last t.area t.rule t.neighbours) (fine_passes F) first whole
    ∙ levels_effect t.last t.area t.rule t.neighbours R in
    as_enhanced t z I O (sym (ap (λ (e : Effect). e.plane) same), ap (λ (e : Effect). gives (counts e)) (sym same))

handed_out : HandedOut
handed_out = record {
  copies = λ z {first} W d S a r. (copies_plane z first W S a d r, copies_answers z first W S a d r);
  shapes = λ z {first} W d. together_shapes (neighbours z) (neighbours_sym z) z W d
      (all_map (λ s o. pass_wider z s) (works_ordered z first W));
  shapes_eight = λ z W d carry. together_shapes (adjacency z 8) (adjacency_sym z 8) z W d
      (all_map (λ s e. carries_within z s e) carry);
  of_level = λ l area rule number. level_disjoint area rule number l;
  by_levels = λ z t I O R. by_levels z t I O R;
}

-- ## One component

locality : Locality
locality = record {
  of_model = λ near s p q C size K agree ring. locally_alike near s p q size K agree ring;
  of_calls = λ z s O₁ O₂ K agree ring. calls_alike z s O₁ O₂ K agree ring;
}

pub sections_in_parallel : SectionsInParallel
sections_in_parallel = record { any_order = any_order; handed_out = handed_out; locality = locality }
