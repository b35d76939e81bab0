-- The passes of all accepted settings are a list that does what the enhancement does: `enhancements_are_lists`. By the
-- laws on its sections in passlists, and by what an accepted enhancement leaves. Assumes nothing.
use Prim.Native.Nat.{ℕ, ◌<◌}
use mathlib.Core.Path.{◌≡◌, sym, ap, subst, ◌∙◌}
use mathlib.Core.Logic.{⊎_elim}
use mathlib.Core.Bool.{not, ◌||◌}
use mathlib.Core.List.{List}
use native.Mathlib.Omega.{arith}
use lib.Dec.{eqb}
use borrow.Author.Tests.{eqb-true, not-false}
use Rattle.planes.specs.Shapes.{neighbours}
use Rattle.planes.specs.declared.Shape.{Shape}
use Rattle.planes.specs.Replies.{Reply, gives}
use Rattle.planes.proofs.Refusals.{when_none}
use Rattle.planes.proofs.Tests.{or_cases}
use Rattle.colours.specs.Frames.{intensity, recolour}
use Rattle.colours.specs.Calls.{IntensityOutcome}
use Rattle.model.specs.declared.Pass.{Pass}
use Rattle.model.specs.Effects.{counts}
use Rattle.model.specs.Calls.{neighbour_refusal, chain_effect}
use Rattle.model.specs.Enhancement.{enhanced}
use Rattle.model.proofs.Chains.{Fine}
use Rattle.levels.specs.declared.Settings.{Settings}
use Rattle.levels.proofs.Refusals.{few_levels, settings_fit}
use Rattle.enhance.specs.Calls.{settings_refusal, chain_of, EnhanceOutcome}
use Rattle.listformat.specs.declared.Edition.{Edition}
use Rattle.listformat.specs.declared.Edition.TheVariants.{First, Second}
use Rattle.listformat.specs.Format.{NeighboursFit}
use Rattle.passlists.proofs.Recursion.{Sections, by_levels, by_recursion, Accepted, sections_few, sections_accepted}
use Rattle.passlists.proofs.Recursion.{sections_stored, memory_enhances, file_enhances}
use Rattle.claims.specs.Claims.{AsEnhanced, StoredIn, StandsFor, EnhancementsAreLists}
use Rattle.claims.proofs.Claims.{filled, recolours, enhances, enhanced_fine}

-- a run from the frame's intensity that came to the model's enhancement did what an accepted enhancement did
module _ (t : Settings) (z : Shape) {frame lent told first : List ℕ}
    (I : IntensityOutcome z.w z.h frame lent (gives told) first)
    {plane marks queue output values plane' marks' queue' output' : List ℕ}
    (O : EnhanceOutcome z t frame plane marks queue output (gives values) plane' marks' queue' output') where
  -- the enhancement of the first plane is that of the frame
  same-chain : enhanced z first t.last t.area t.rule t.neighbours ≡ chain_of z t frame
  same-chain = ap (λ (p : List ℕ). enhanced z p t.last t.area t.rule t.neighbours) (filled I)

  pub as_enhanced : {reply : Reply} {last : List ℕ}
      → (last ≡ (enhanced z first t.last t.area t.rule t.neighbours).plane)
      × (reply ≡ gives (counts (chain_effect (enhanced z first t.last t.area t.rule t.neighbours))))
      → AsEnhanced z frame values plane' output' reply last
  as_enhanced {last = last} came =
      let done = enhances I t O in
      let chain-plane = came.0 ∙ ap (λ s. s.plane) same-chain in
      let same = chain-plane ∙ sym done.0 in
      let keeps = subst (λ (p : List ℕ). Fine (neighbours z) p last) (sym (filled I))
      (subst (Fine (neighbours z) (intensity frame)) (sym chain-plane) (enhanced_fine z t frame)) in
      record {
        counts_are = came.1 ∙ ap (λ s. gives (counts (chain_effect s))) same-chain ∙ ap gives (sym done.1.0);
        plane_is = same;
        bytes_are = λ room R.
            let coloured = recolours I keeps room R in
            (coloured.0, coloured.1.exact ∙ ap (recolour frame) same ∙ sym done.1.1.0.1.exact);
      }

-- an accepted number of neighbours is a byte
byte : (number : ℕ) → neighbour_refusal number ≡ 0 → number < 256
unfolding neighbour_refusal
byte number e =
    let known = not-false (eqb number 4 || eqb number 8) (when_none (not (eqb number 4 || eqb number 8)) 18 e) in
    ⊎_elim (λ four. omega (arith, eqb-true number 4 four)) (λ eight. omega (arith, eqb-true number 8 eight))
    (or_cases (eqb number 4) (eqb number 8) known)

module _ (t : Settings) (fine : settings_refusal t ≡ 0) where
  accepted : Accepted t.last t.area t.rule t.neighbours
  accepted =
      let each = settings_fit t fine in
      record {
        last_fine = few_levels t.last each.0;
        area_fine = each.1.0;
        rule_fine = each.1.1.0;
        number_fine = each.1.1.1;
      }

  module _ {ss : List Pass} (S : Sections t.last t.area t.rule t.neighbours ss) where
    stored-in : (e : Edition) → NeighboursFit e t.neighbours → StoredIn e t ss
    stored-in e fits =
        let file = sections_stored accepted S e fits in
        record {
          accepted = file.0;
          read = file.1;
          runs = record {
            does = λ z {first = first} I O {marks₁} {queue₁} {last} {marks₂} {queue₂} {reply} sound R.
                as_enhanced t z I O
                (file_enhances accepted S z first marks₁ queue₁ sound e fits reply last marks₂ queue₂ R);
          };
        }

    stands : StandsFor t ss
    stands = record {
      size = S.size;
      few = sections_few accepted S;
      within = omega (arith, sections_few accepted S);
      accepted = sections_accepted accepted S;
      runs = record {
        does = λ z {first = first} I O {marks₁} {queue₁} {last} {marks₂} {queue₂} {reply} sound R.
            as_enhanced t z I O (memory_enhances accepted S z first marks₁ queue₁ sound reply last marks₂ queue₂ R);
      };
      version_2 = stored-in Second (byte t.neighbours accepted.number_fine);
      version_1 = λ four. stored-in First four;
    }

pub enhancements_are_lists : EnhancementsAreLists
enhancements_are_lists = record {
  by_levels = λ t fine. stands t fine
      (by_levels t.last t.area t.rule t.neighbours (accepted t fine).last_fine);
  by_recursion = λ t fine. stands t fine
      (by_recursion t.last t.area t.rule t.neighbours (accepted t fine).last_fine);
}
