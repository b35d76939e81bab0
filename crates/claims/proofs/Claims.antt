-- The demands hold: `demand_1`, `demand_2` and `demand_3`; and `lists_are_chains`, `editions` and `as_before`. Assumes
-- nothing.
use Prim.Native.Nat.{ℕ, ◌+◌, ◌-◌, ◌*◌, ◌/◌, ◌≤◌}
use mathlib.Core.Path.{◌≡◌, refl, sym, ap, subst, ◌∙◌}
use mathlib.Core.List.{List, [], ◌∷◌}
use native.Mathlib.Omega.{arith}
use native.Mathlib.Nat.{le_of_lt, zero-add}
use lib.ListN.{length, take, drop}
use lib.Seq.{take_at}
use Rattle.planes.specs.Shapes.{pixels, neighbours, adjacency}
use Rattle.planes.specs.declared.Shape.{Shape}
use Rattle.planes.proofs.Shapes.{neighbours_sym, adjacency_sym}
use Rattle.planes.specs.Replies.{Reply, refuses, gives, replied, after, overwritten}
use Rattle.planes.proofs.Replies.{refuses_not_gives, gives_same, replied_refuses, replied_gives}
use Rattle.colours.specs.Frames.{intensity, recolour}
use Rattle.colours.specs.Calls.{intensity_refusal, recolour_refusal, IntensityOutcome, RecolourOutcome}
use Rattle.colours.proofs.Calls.{intensity_given, intensity_accepted, recolour_accepts, recolour_given, filled_length}
use Rattle.colours.proofs.Frames.{length_recolour, recolour_at, recolour_bytes, channels_ordered}
use Rattle.model.specs.declared.Pass.{Pass}
use Rattle.model.specs.Effects.{Effect, counts}
use Rattle.model.specs.Outcomes.{Outcome, OutputOutcome}
use Rattle.model.specs.Neighbourhoods.{pass_neighbours}
use Rattle.model.specs.Calls.{retoned_in, kept_in, total, AllAccepted, State, start, chain, chain_effect}
use Rattle.model.specs.Calls.{chain_sufficient}
use Rattle.model.specs.Runs.{All, Carries}
use Rattle.model.specs.Enhancement.{passes, call_of, enhanced}
use Rattle.model.proofs.Outcomes.{outcome_given, outcome_stays, output_given}
use Rattle.model.proofs.Chains.{Fine, chain_fine, chain_keeps, all_carry_within}
use Rattle.model.proofs.Recursion.{all_map}
use Rattle.model.proofs.Connected.{passes_carry}
use Rattle.model.proofs.Sufficient.{pass_sufficient_lem, run_sufficient_lem, chain_sufficient_lem, enhanced_sufficient}
use Rattle.passes.specs.Calls.{call_on}
use Rattle.passes.proofs.Calls.{sequence_is, sequence_within}
use Rattle.levels.specs.declared.Settings.{Settings}
use Rattle.enhance.specs.Calls.{chain_of, sufficient_of, EnhanceOutcome}
use Rattle.enhance.proofs.Calls.{fine, chain_accepted}
use Rattle.enhance.proofs.Published.{chain_published}
use Rattle.netpbm.specs.Reading.{read_reply}
use Rattle.texts.specs.Writing.{WritingOutcome}
use Rattle.netpbm.proofs.Replies.{malformed_reply, headed_reply, framed_reply}
use Rattle.netpbm.proofs.Uncommented.{reads_as_before, comments_got_10}
use Rattle.tones.proofs.Before.{form_before, rule_before_lem, two_refused}
use Rattle.listformat.specs.Format.{passes_of}
use Rattle.listformat.proofs.Format.{decodes}
use Rattle.listchecks.proofs.Refusals.{accepted_list, places_second}
use Rattle.conversion.proofs.Editions.{restored}
use Rattle.passlists.proofs.Editions.{converted_alike, editions_alike, convert_refuses}
use Rattle.passlists.proofs.Chains.{list_taken, list_chain, passes_taken, passes_chain_lem}
use Rattle.frames.specs.Program.{program_output}
use Rattle.frames.proofs.Program.{long_output, frame_output, refused_output}
use Rattle.claims.specs.Claims.{AsListed, ReadAsListed, Writes, Demand1, Had, Demand2, ShapePreserving, Coloured}
use Rattle.claims.specs.Claims.{Demand3Holds, passes_chain, Chained, ListsAreChains, Editions, AsBefore}
use Rattle.claims.proofs.ShapePreserving.{fine_shapes, shapes_fine, grey_file}
use Rattle.claims.proofs.Before.{pass_before_lem, numbers_before_lem, refusal_before, list_before_lem, second_before}
use Rattle.claims.proofs.Before.{enhance_before, settings_before_lem, few_listed, few_passes, many_listed}
use Rattle.claims.proofs.Before.{many_passes, convert_by}

-- ## Demand 1

as_listed : (number : ℕ) (values : List ℕ) {reply : Reply} → reply ≡ replied number values → AsListed number reply
as_listed number values e = record {
  refused = λ k q. e ∙ ap (λ (x : ℕ). replied x values) q;
  listed = λ k q. let (j, (is, k-is)) = replied_refuses number values (sym e ∙ q) in is ∙ sym k-is;
  accepted = λ q k f. refuses_not_gives (sym f ∙ e ∙ ap (λ (x : ℕ). replied x values) q);
}

-- lent memory after a call that was refused
stays : (number : ℕ) (values old new : List ℕ) {reply : Reply} {left : List ℕ} → reply ≡ replied number values
    → left ≡ after number old new → (k : ℕ) → reply ≡ refuses k → left ≡ old
stays number values old new e is k q =
    let (j, (number_is, _)) = replied_refuses number values (sym e ∙ q) in
    is ∙ ap (λ (x : ℕ). after x old new) number_is

module _ {n number : ℕ} {e : Effect} {plane marks queue plane' marks' queue' : List ℕ} {reply : Reply}
    (O : Outcome n number e plane marks queue reply plane' marks' queue') where
  outcome-listed : AsListed number reply
  outcome-listed = as_listed number (counts e) O.answer

  unchanged : (k : ℕ) → reply ≡ refuses k → (plane' ≡ plane) × ((marks' ≡ marks) × (queue' ≡ queue))
  unchanged k q =
      outcome_stays (subst (λ (y : Reply). Outcome n number e plane marks queue y plane' marks' queue') q O)

module _ {n number : ℕ} {e : Effect} {bytes plane marks queue output plane' marks' queue' output' : List ℕ}
    {reply : Reply}
    (O : OutputOutcome n number e bytes plane marks queue output reply plane' marks' queue' output') where
  unwritten : (k : ℕ) → reply ≡ refuses k
      → (plane' ≡ plane) × ((marks' ≡ marks) × ((queue' ≡ queue) × (output' ≡ output)))
  unwritten k q =
      let memory = unchanged O.retoned k q in
      let same = stays number (counts e) output (overwritten output bytes) O.retoned.answer O.output_is k q in
      (memory.0, (memory.1.0, (memory.1.1, same)))

-- a call that writes, refused and accepted
written_listed : {number : ℕ} {bytes output output' : List ℕ} {reply : Reply}
    → WritingOutcome number bytes output reply output'
    → AsListed number reply × ((k : ℕ) → reply ≡ refuses k → output' ≡ output)
written_listed {number} {bytes} {output} O =
    let values = length bytes ∷ [] in
    let new = overwritten output bytes in
    (as_listed number values O.answer, stays number values output new O.answer O.output_is)

written_given : {number : ℕ} {bytes output values output' : List ℕ}
    → WritingOutcome number bytes output (gives values) output'
    → (values ≡ length bytes ∷ []) × (output' ≡ overwritten output bytes)
written_given {number} {bytes} {output} O =
    let given = replied_gives number (length bytes ∷ []) (sym O.answer) in
    (given.1, O.output_is ∙ ap (λ (x : ℕ). after x output (overwritten output bytes)) given.0)

reads : (bytes : List ℕ) (limit : ℕ) → ReadAsListed bytes limit (read_reply bytes limit)
reads bytes limit = record {
  malformed = malformed_reply bytes limit;
  headed = λ w h maxval raster p. headed_reply limit p;
  framed = framed_reply bytes limit;
}

writes : (input : List ℕ) → Writes input (program_output input)
writes input = record {
  long = long_output input;
  frame = λ short w h offset f. frame_output input short f;
  refused = λ short k e. refused_output input short e;
}

pub demand_1 : Demand1
demand_1 = record {
  of_intensity = λ w h {frame} {plane} O.
      let number = intensity_refusal w h (length frame) (length plane) in
      (as_listed number [] O.answer, stays number [] plane (intensity frame) O.answer O.plane_is);
  of_pass = λ z s O. (outcome-listed O, unchanged O);
  of_recolour = λ w h {frame} {plane} {output} O.
      let number = recolour_refusal w h (length frame) (length plane) (length output) in
      let new = overwritten output (recolour frame plane) in
      (as_listed number [] O.answer, stays number [] output new O.answer O.output_is);
  of_enhance = λ z t frame O. (outcome-listed O.retoned, unwritten O);
  of_list = λ z list O. (outcome-listed O, unchanged O);
  of_passes = λ z ss O. (outcome-listed O, unchanged O);
  of_convert = λ list O. written_listed O;
  of_write = λ raster w h O. written_listed O;
  of_read = reads;
  of_program = λ input E. subst (Writes input) (sym E.written) (writes input);
}

-- ## Demand 2

had : {n number sufficient : ℕ} {e : Effect} {plane marks queue values plane' marks' queue' : List ℕ}
    → e.retoned + e.kept ≡ sufficient → Outcome n number e plane marks queue (gives values) plane' marks' queue'
    → Had n e sufficient marks queue values plane' marks' queue'
had together O =
    let given = outcome_given O in
    record {
      values_are = given.1.0;
      together = together;
      plane_is = given.1.1;
      marks_rest = O.marks_rest;
      queue_rest = O.queue_rest;
    }

-- both sums of an enhancement are the components of sufficient area
both_sums : (z : Shape) (t : Settings) (frame : List ℕ) → (
    let e = chain_effect (chain_of z t frame) in
    e.retoned + e.kept ≡ sufficient_of z t frame)
both_sums z t frame = enhanced_sufficient z (intensity frame) t.last t.area t.rule t.neighbours

pub demand_2 : Demand2
demand_2 = record {
  of_intensity = λ w h {frame} {plane} O. (intensity_given w h frame plane O).1;
  of_pass = λ z s {plane} O. had (pass_sufficient_lem (pass_neighbours z s) s plane) O;
  of_recolour = λ w h {frame} {plane} {output} O.
      let number = recolour_refusal w h (length frame) (length plane) (length output) in
      (recolour_given w h frame plane output (replied_gives number [] (sym O.answer)).0 O).1;
  of_enhance = λ z t frame {plane} {marks} {queue} {output} O.
      let taken = (outcome_given O.retoned).0 in (
        had (both_sums z t frame) O.retoned,
        (
          output_given O,
          (
            chain_accepted z t frame plane marks queue output taken,
            λ bytes. chain_published z t frame plane marks queue output (λ k. omega (arith, bytes.each k)) taken,
          ),
        ),
      );
  of_list = λ z list {plane} O. had (run_sufficient_lem (pass_neighbours z) (passes_of list) plane) O;
  of_passes = λ z ss {plane} O. had (run_sufficient_lem (pass_neighbours z) ss plane) O;
  of_convert = λ list O. written_given O;
  of_write = λ raster w h O. written_given O;
}

-- ## Demand 3

-- a frame recoloured from a plane that keeps the order of its intensity
coloured : {z : Shape} {frame plane : List ℕ} (output : List ℕ) {output' : List ℕ} → length frame ≡ 3 * pixels z
    → Fine (neighbours z) (intensity frame) plane → output' ≡ overwritten output (recolour frame plane)
    → Coloured z frame plane output'
coloured {z} {frame} {plane} output {output'} size keeps e =
    let new = recolour frame plane in
    let exact : take (3 * pixels z) output' ≡ new =
    ap (take (3 * pixels z)) e
    ∙ take_at new (drop (length new) output) (3 * pixels z) (length_recolour frame plane ∙ size) in
    record {
      exact = exact;
      byte = λ k h. subst (λ (x : ℕ). x ≤ 255) (recolour_at frame plane (k / 3) k refl h)
          (recolour_bytes frame plane k);
      channels = λ k l hk hl p h. channels_ordered frame plane k l hk hl p (le_of_lt h);
      grey_file = λ grey.
          subst (λ (f : List ℕ). ShapePreserving (neighbours z) (intensity frame) (intensity f)) (sym exact)
          (grey_file (neighbours z) (neighbours_sym z) frame plane grey keeps);
      grey_file_eight = λ grey shapes.
          subst (λ (f : List ℕ). ShapePreserving (adjacency z 8) (intensity frame) (intensity f)) (sym exact)
          (grey_file (adjacency z 8) (adjacency_sym z 8) frame plane grey (shapes_fine shapes));
    }

-- the chain of an enhancement keeps the order of the frame's intensity
pub enhanced_fine : (z : Shape) (t : Settings) (frame : List ℕ)
    → Fine (neighbours z) (intensity frame) (chain_of z t frame).plane
unfolding enhanced
enhanced_fine z t frame = chain_fine z (start (intensity frame)) _

-- and by the eight neighbours, where the settings have 8
enhanced_fine_eight : (z : Shape) (t : Settings) (frame : List ℕ) → t.neighbours ≡ 8
    → Fine (adjacency z 8) (intensity frame) (chain_of z t frame).plane
unfolding enhanced call_of
enhanced_fine_eight z t frame e =
    let all = all_map (λ s c. c ∙ e) (passes_carry t.area t.rule t.neighbours t.last) in
    chain_keeps (adjacency z 8) z (start (intensity frame)) _
    (all_carry_within z (length (intensity frame)) 8 (call_of (pixels z)) (λ s. refl) all)

module _ {z : Shape} {frame lent values first : List ℕ}
    (I : IntensityOutcome z.w z.h frame lent (gives values) first) where
  abbrev pub filled : first ≡ intensity frame
  filled = (intensity_given z.w z.h frame lent I).1

  abbrev accepts : intensity_refusal z.w z.h (length frame) (length lent) ≡ 0
  accepts = (intensity_given z.w z.h frame lent I).0

  channels : length frame ≡ 3 * pixels z
  channels = (intensity_accepted z.w z.h (length frame) (length lent) accepts).channels

  -- recolouring from a plane that keeps the order of the first
  pub recolours : {last output output' : List ℕ} {reply : Reply} → Fine (neighbours z) first last
      → 3 * pixels z ≤ length output
      → RecolourOutcome z.w z.h frame last output reply output'
      → (reply ≡ gives []) × Coloured z frame last output'
  recolours {last} {output} keeps room O =
      let size = (intensity_accepted z.w z.h (length frame) (length lent) accepts).pixels in
      let same : length last ≡ length lent = keeps.size ∙ filled_length z.w z.h frame lent I ∙ sym size in
      let fine = ap (intensity_refusal z.w z.h (length frame)) same ∙ accepts in
      let taken = recolour_accepts z.w z.h (length frame) (length last) (length output) fine room in
      let given = recolour_given z.w z.h frame last output taken O in
      (given.0, coloured output channels (subst (λ (p : List ℕ). Fine (neighbours z) p last) filled keeps) given.1)

  -- an accepted enhancement
  pub enhances : (t : Settings) {plane marks queue output values plane' marks' queue' output' : List ℕ}
      → EnhanceOutcome z t frame plane marks queue output (gives values) plane' marks' queue' output'
      → (plane' ≡ (chain_of z t frame).plane) × ((values ≡ counts (chain_effect (chain_of z t frame)))
      × ((ShapePreserving (neighbours z) first plane' × Coloured z frame plane' output')
      × (All (Carries t.neighbours) (passes t.last t.area t.rule t.neighbours)
      × (t.neighbours ≡ 8 → ShapePreserving (adjacency z 8) first plane'))))
  enhances t {output = output} {plane' = plane'} O =
      let H = had (both_sums z t frame) O.retoned in
      let keeps = subst (Fine (neighbours z) (intensity frame)) (sym H.plane_is) (enhanced_fine z t frame) in
      let written = output_given O ∙ ap (λ (p : List ℕ). overwritten output (recolour frame p)) (sym H.plane_is) in
      let shapes = subst (λ (p : List ℕ). ShapePreserving (neighbours z) p plane') (sym filled)
      (fine_shapes (neighbours_sym z) keeps) in
      let eight : t.neighbours ≡ 8 → ShapePreserving (adjacency z 8) first plane' = λ e.
      subst (λ (p : List ℕ). ShapePreserving (adjacency z 8) p plane') (sym filled)
      (fine_shapes (adjacency_sym z 8) (subst (Fine (adjacency z 8) (intensity frame)) (sym H.plane_is)
      (enhanced_fine_eight z t frame e))) in (
        H.plane_is,
        (
          H.values_are,
          (
            (shapes, coloured output channels keeps written),
            (passes_carry t.area t.rule t.neighbours t.last, eight),
          ),
        ),
      )

pub demand_3 : Demand3Holds
demand_3 z frame lent values first last calls replies I S =
    let model = sequence_is S in
    let last_is : (chain z (start first) calls).plane ≡ last = ap (λ (s : State). s.plane) model in
    let keeps = subst (Fine (neighbours z) first) last_is (chain_fine z (start first) calls) in
    record {
      first_is = filled I;
      replies_are = sym (ap (λ (s : State). s.answers) model);
      last_is = sym last_is;
      together = ap (λ (s : State). total retoned_in s.answers + total kept_in s.answers) (sym model)
          ∙ chain_sufficient_lem z (start first) calls
          ∙ zero-add (chain_sufficient z first calls);
      shapes = fine_shapes (neighbours_sym z) keeps;
      shapes_eight = λ carry. fine_shapes (adjacency_sym z 8) (subst (Fine (adjacency z 8) first) last_is
          (chain_keeps (adjacency z 8) z (start first) calls (sequence_within 8 S carry)));
      recoloured = λ room O. recolours I keeps room O;
      enhanced = λ t O. enhances I t O;
    }

-- ## Lists of passes

chained : {z : Shape} {marks queue : ℕ} {ss : List Pass} {plane values plane' : List ℕ}
    → AllAccepted (passes_chain z marks queue ss plane).answers
    → (plane' ≡ (passes_chain z marks queue ss plane).plane)
    × (gives values ≡ gives (counts (chain_effect (passes_chain z marks queue ss plane))))
    → Chained z marks queue ss plane values plane'
chained {z} {marks} {queue} {plane = plane} accepted e = record {
  accepted = accepted;
  plane_is = e.0;
  values_are = gives_same e.1;
  shapes = subst (ShapePreserving (neighbours z) plane) (sym e.0)
      (fine_shapes (neighbours_sym z) (chain_fine z (start plane) _));
  shapes_eight = λ all. subst (ShapePreserving (adjacency z 8) plane) (sym e.0)
      (fine_shapes (adjacency_sym z 8) (chain_keeps (adjacency z 8) z (start plane) _
      (all_carry_within z (length plane) 8 (call_on marks queue) (λ s. refl) all)));
}

pub lists_are_chains : ListsAreChains
lists_are_chains = record {
  of_list = λ z list {plane} {marks} {queue} O.
      let taken = (outcome_given O).0 in
      chained (list_taken z plane marks queue list taken) (list_chain z plane marks queue _ _ _ _ list taken O);
  of_passes = λ z ss {plane} {marks} {queue} O.
      let taken = (outcome_given O).0 in
      chained (passes_taken z plane marks queue ss taken) (passes_chain_lem z plane marks queue _ _ _ _ ss taken O);
}

-- ## Both editions of a list

pub editions : Editions
editions = record {
  decodes = decodes;
  accepted = λ list e. (accepted_list list e).0;
  restored = restored;
  alike = converted_alike;
  both = editions_alike;
  refuses = convert_refuses;
  never_20 = places_second;
}

-- ## What is as it was before

pub as_before : AsBefore
as_before = record {
  of_read = reads_as_before;
  commented = λ bytes limit w h maxval raster p e. comments_got_10 limit p e;
  of_form = form_before;
  of_rule = rule_before_lem;
  affine = two_refused;
  of_pass = λ z s plane e. (pass_before_lem z s plane e, numbers_before_lem s e);
  of_few = λ list h. (few_listed list h, convert_by list (few_listed list h));
  of_few_passes = few_passes;
  many = λ list h long named. (
    many_listed list h long named,
    convert_by list (many_listed list h long named),
  );
  many_passes = many_passes;
  of_list = λ z list plane other h. (refusal_before list other h, list_before_lem z list plane other);
  second = second_before;
  of_enhance = λ z t frame e. (enhance_before z t frame e, settings_before_lem t e);
}
