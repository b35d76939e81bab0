-- What an accepted enhancement has, that the recursion ends as the list of passes level by level, each of which is
-- accepted, and what intensity, the recursion and recolouring come to. Assumes nothing.
use Prim.Native.Nat.{ℕ, ◌-◌, ◌*◌, ◌^◌, ◌≤◌}
use mathlib.Core.Path.{◌≡◌, refl, sym, ap, ◌∙◌}
use mathlib.Core.List.{List, [], ◌∷◌, map}
use native.Mathlib.Omega.{arith}
use lib.ListN.{length}
use lib.Pow.{pow_pos}
use borrow.Author.Tests.{le-ltb}
use Rattle.planes.specs.Lists.{from}
use Rattle.planes.specs.Refusals.{length_refusal, room_refusal}
use Rattle.planes.specs.Replies.{Reply, after, overwritten}
use Rattle.planes.specs.Shapes.{pixels, SizedShape, shape_refusal, lent_refusal}
use Rattle.planes.specs.declared.Shape.{Shape}
use Rattle.planes.proofs.Refusals.{▷_none, ▷_both, length_fits, room_fits, output_fits}
use Rattle.planes.proofs.Shapes.{shape_fits, lent_none}
use Rattle.tones.specs.declared.Rule.{Rule}
use Rattle.colours.specs.Frames.{intensity, recolour}
use Rattle.colours.specs.Calls.{intensity_refusal, IntensityOutcome, RecolourOutcome}
use Rattle.colours.proofs.Frames.{length_intensity}
use Rattle.colours.proofs.Calls.{intensity_accepts, recolour_accepts, recolour_given}
use Rattle.model.specs.declared.Pass.{Pass}
use Rattle.tones.specs.Refusals.{rule_refusal}
use Rattle.model.specs.Calls.{area_refusal, neighbour_refusal, numbers_refusal, pass_refusal, AllAccepted}
use Rattle.model.specs.Calls.{chain_effect}
use Rattle.model.specs.Effects.{Effect}
use Rattle.model.specs.Runs.{All, none, more}
use Rattle.model.specs.Enhancement.{section, level, levels, passes, call_of, enhanced}
use Rattle.model.proofs.Recursion.{all_append}
use Rattle.model.proofs.Enhancement as model
use Rattle.levels.specs.declared.Settings.{Settings}
use Rattle.levels.proofs.Refusals.{few_levels, some_area, settings_fit}
use Rattle.model.specs.declared.Counts.{Counts}
use Rattle.model.specs.Outcomes.{came}
use Rattle.branches.specs.Branches.{Ready}
use Rattle.recursion.specs.Recursion.{RecursionOutcome}
use Rattle.enhance.specs.Calls.{memory_refusal, settings_refusal, enhance_refusal, chain_of, Enhances}
use Rattle.enhance.specs.Calls.{enhance_call_refusal}

-- ## What is accepted

pub record Fine (z : Shape) (frame plane marks queue output : ℕ) (t : Settings) : Type 0 where
  pub ready : Ready z plane marks queue t
  pub channels : frame ≡ 3 * pixels z
  pub room : 3 * pixels z ≤ output
  pub area : area_refusal t.area ≡ 0
  pub rule : rule_refusal t.rule ≡ 0
  pub neighbours : neighbour_refusal t.neighbours ≡ 0

pub fine : (z : Shape) (frame plane marks queue output : ℕ) (t : Settings)
    → enhance_refusal z frame plane marks queue output t ≡ 0 → Fine z frame plane marks queue output t
unfolding enhance_refusal memory_refusal
fine z frame plane marks queue output t e =
    let both = ▷_none (memory_refusal z frame plane marks queue output) (settings_refusal t) e in
    let shape = ▷_none (shape_refusal z) _ both.0 in
    let pixel = ▷_none (length_refusal plane (pixels z)) _ shape.1 in
    let channel = ▷_none (length_refusal frame (3 * pixels z)) _ pixel.1 in
    let working = ▷_none (room_refusal (pixels z) marks queue) _ channel.1 in
    let settings = settings_fit t both.1 in
    let room = room_fits (pixels z) marks queue working.0 in
    record {
      ready = record {
        lent = record {
          size = shape_fits z shape.0;
          whole = length_fits plane (pixels z) pixel.0;
          covered = room.0;
          spare = room.1;
        };
        last = few_levels t.last settings.0;
        area = some_area t.area settings.1.0;
      };
      channels = length_fits frame (3 * pixels z) channel.0;
      room = output_fits output (3 * pixels z) working.1;
      area = settings.1.0;
      rule = settings.1.1.0;
      neighbours = settings.1.1.1;
    }

-- ## The calls on the frame are accepted

frame_accepted : {z : Shape} {frame plane marks queue output : ℕ} {t : Settings}
    → Fine z frame plane marks queue output t → intensity_refusal z.w z.h frame plane ≡ 0
frame_accepted {z} {frame} {plane} F =
    intensity_accepts z.w z.h frame plane
    record { size = F.ready.lent.size; pixels = F.ready.lent.whole; channels = F.channels }

-- ## The passes of an enhancement are accepted

area_one : area_refusal 1 ≡ 0
unfolding area_refusal
area_one = refl

module _ (z : Shape) (size : SizedShape z) (rule : Rule) (ok : rule_refusal rule ≡ 0) (number : ℕ)
    (either : neighbour_refusal number ≡ 0) where
  accepts : (s : Pass) → s.a ≤ s.b → area_refusal s.area ≡ 0 → s.rule ≡ rule → s.neighbours ≡ number
      → model.Accepted z s
  unfolding pass_refusal call_of numbers_refusal
  accepts s ab some e f =
      ▷_both (lent_refusal z (pixels z) (pixels z) (pixels z)) _
      (lent_none z (pixels z) (pixels z) (pixels z)
      record { size = size; whole = refl; covered = omega arith; spare = omega arith })
      (simp (le-ltb s.b s.a ab, some)
      (▷_both (rule_refusal s.rule) _ (ap rule_refusal e ∙ ok) (ap neighbour_refusal f ∙ either)))

  all_of : (l area : ℕ) → area_refusal area ≡ 0 → (js : List ℕ)
      → All (model.Accepted z) (map (λ j. section area rule number (j * 2 ^ (8 - l)) (2 ^ (8 - l))) js)
  unfolding section
  all_of l area some [] = none
  all_of l area some (j ∷ js) =
      let s : Pass = section area rule number (j * 2 ^ (8 - l)) (2 ^ (8 - l)) in
      more {s = s} (accepts s (omega (arith, pow_pos (8 - l))) some refl refl) (all_of l area some js)

  all-level : (l area : ℕ) → area_refusal area ≡ 0 → All (model.Accepted z) (level l area rule number)
  unfolding level
  all-level l area some = all_of l area some (from 0 (2 ^ l))

  all-levels : (ls : List ℕ) (area : ℕ) → area_refusal area ≡ 0 → All (model.Accepted z) (levels ls area rule number)
  unfolding levels
  all-levels [] area some = none
  all-levels (l ∷ ls) area some = all_append (all-level l area some) (all-levels ls area some)

  all-passes : (last area : ℕ) → area_refusal area ≡ 0 → All (model.Accepted z) (passes last area rule number)
  unfolding passes
  all-passes last area some = all_append (all-level 0 1 area_one) (all-levels (from 1 last) area some)

-- the settings of an enhancement that is not refused
pub fine_passes : {z : Shape} {frame plane marks queue output : ℕ} {t : Settings}
    → Fine z frame plane marks queue output t
    → All (model.Accepted z) (passes t.last t.area t.rule t.neighbours)
fine_passes {z} {t = t} F =
    all-passes z F.ready.lent.size t.rule F.rule t.neighbours F.neighbours t.last t.area
    F.area

-- the recursion comes to what the chain of passes comes to
as_listed : {z : Shape} {r : Counts} {frame plane marks queue output : ℕ} {t : Settings}
    {p marks₁ queue₁ p' marks' queue' : List ℕ} → Fine z frame plane marks queue output t → length p ≡ pixels z
    → RecursionOutcome z t p marks₁ queue₁ p' marks' queue' r
    → came p' r ≡ chain_effect (enhanced z p t.last t.area t.rule t.neighbours)
as_listed {z} {t = t} {p} F whole R =
    R.model
    ∙ sym (model.enhanced_recursion z t.last t.area t.rule t.neighbours p F.ready.last whole
    (fine_passes F))

-- the intensity of an accepted frame has a byte for each pixel
pub fine_length : {z : Shape} {plane marks queue output : ℕ} {t : Settings} (frame : List ℕ)
    → Fine z (length frame) plane marks queue output t → length (intensity frame) ≡ pixels z
fine_length frame F = omega (arith, length_intensity frame, F.channels)

-- none of the calls in the chain of an enhancement that is not refused is refused
pub chain_accepted : (z : Shape) (t : Settings) (frame plane marks queue output : List ℕ)
    → enhance_call_refusal z t frame plane marks queue output ≡ 0 → AllAccepted (chain_of z t frame).answers
chain_accepted z t frame plane marks queue output taken =
    let F = fine z (length frame) (length plane) (length marks) (length queue) (length output) t taken in
    model.enhanced_accepted z t.last t.area t.rule t.neighbours (intensity frame) (fine_length frame F)
    (fine_passes F)

-- ## Outcomes

-- the slices that the recursion was lent end as the memory does
pub handed_back : {z : Shape} {t : Settings} {r : Counts}
    {plane marks queue plane₁ marks₁ queue₁ plane₂ marks₂ queue₂ : List ℕ} → plane₂ ≡ plane₁ → marks₂ ≡ marks₁
    → queue₂ ≡ queue₁ → RecursionOutcome z t plane marks queue plane₁ marks₁ queue₁ r
    → RecursionOutcome z t plane marks queue plane₂ marks₂ queue₂ r
handed_back p m q o = rw p (rw m (rw q o))

-- intensity, the recursion and recolouring, one after the other
pub in-turn : {z : Shape} {r : Counts} {t : Settings}
    {frame plane marks queue output plane₁ plane' marks' queue' output' : List ℕ} {first second : Reply}
    → Fine z (length frame) (length plane) (length marks) (length queue) (length output) t
    → length plane₁ ≡ length plane → length plane' ≡ length plane₁
    → IntensityOutcome z.w z.h frame plane first plane₁
    → RecursionOutcome z t plane₁ marks queue plane' marks' queue' r
    → RecolourOutcome z.w z.h frame plane' output second output'
    → Enhances z t frame marks queue output r plane' marks' queue' output'
in-turn {z} {r} {t} {frame} {plane} {output = output} {plane₁} {plane'} F len₁ len I R C =
    let intensities : plane₁ ≡ intensity frame =
    I.plane_is ∙ ap (λ (k : ℕ). after k plane (intensity frame)) (frame_accepted F) in
    let same : came plane' r ≡ chain_effect (chain_of z t frame) =
    as_listed F (len₁ ∙ F.ready.lent.whole) R
    ∙ ap (λ (p : List ℕ). chain_effect (enhanced z p t.last t.area t.rule t.neighbours)) intensities in
    let plane-same : plane' ≡ (chain_of z t frame).plane = ap (λ (e : Effect). e.plane) same in
    let accepts = recolour_accepts z.w z.h (length frame) (length plane') (length output)
    (ap (intensity_refusal z.w z.h (length frame)) (len ∙ len₁) ∙ frame_accepted F) F.room in
    let written = (recolour_given z.w z.h frame plane' output accepts C).1 in
    record {
      over = record {
        effect_is = same;
        marks_rest = R.rest.marks_rest;
        queue_rest = R.rest.queue_rest;
      };
      output_is = written ∙ ap (λ (p : List ℕ). overwritten output (recolour frame p)) plane-same;
    }
