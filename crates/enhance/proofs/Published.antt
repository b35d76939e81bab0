-- Every accepted enhancement of a frame is the published recursion on the frame's intensity. Assumes nothing.
--
--   chain_published     the chain of an enhancement that is not refused comes to what the recursion comes to
--   enhance_published   so the outcome of an accepted call is that of the recursion
use Prim.Native.Nat.{ℕ, ◌≤◌}
use mathlib.Core.Path.{◌≡◌, subst}
use mathlib.Core.List.{List}
use lib.ListN.{length}
use Rattle.planes.specs.Lists.{at}
use Rattle.planes.specs.Replies.{gives}
use Rattle.planes.specs.Shapes.{pixels}
use Rattle.planes.specs.declared.Shape.{Shape}
use Rattle.colours.specs.Frames.{intensity, recolour}
use Rattle.colours.proofs.Frames.{intensity_bytes}
use Rattle.model.specs.Effects.{Effect}
use Rattle.model.specs.Outcomes.{OutputOutcome}
use Rattle.model.specs.Calls.{chain_effect}
use Rattle.model.proofs.Connected.{enhanced_published}
use Rattle.model.proofs.Outcomes.{outcome_given}
use Rattle.levels.specs.declared.Settings.{Settings}
use Rattle.enhance.specs.Calls.{chain_of, enhance_call_refusal, EnhanceOutcome}
use Rattle.enhance.specs.Published.{published_of}
use Rattle.enhance.proofs.Calls.{fine, fine_length, fine_passes}

module _ (z : Shape) (t : Settings) (frame plane marks queue output : List ℕ) (bytes : (k : ℕ) → at frame k ≤ 255) where
  pub chain_published : enhance_call_refusal z t frame plane marks queue output ≡ 0
      → chain_effect (chain_of z t frame) ≡ published_of z t frame
  chain_published taken =
      let F = fine z (length frame) (length plane) (length marks) (length queue) (length output) t taken in
      enhanced_published z t.last t.area t.rule t.neighbours (intensity frame) F.ready.last
      (fine_length frame F) (λ x hx. intensity_bytes frame bytes x) (fine_passes F)

  pub enhance_published : {vs plane' marks' queue' output' : List ℕ}
      → EnhanceOutcome z t frame plane marks queue output (gives vs) plane' marks' queue' output'
      → OutputOutcome (pixels z) (enhance_call_refusal z t frame plane marks queue output) (published_of z t frame)
      (recolour frame (published_of z t frame).plane) plane marks queue output (gives vs) plane' marks' queue' output'
  enhance_published {vs} {plane'} {marks'} {queue'} {output'} O =
      subst
      (λ (e : Effect).
      OutputOutcome (pixels z) (enhance_call_refusal z t frame plane marks queue output) e (recolour frame e.plane)
      plane marks queue output (gives vs) plane' marks' queue' output')
      (chain_published (outcome_given O.retoned).0) O
