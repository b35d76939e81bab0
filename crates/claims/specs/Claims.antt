-- The demands on the library, stated in terms of the very records that the public calls ensure. Open this file first.
-- That every call ends on every input is part of what it means that a function is proved; that the calls' contracts, as
-- their crates declare them, give these records is stated in CallContracts.antt, and what C callers get in
-- CFunctions.antt. Definitions only.
--
-- Glossary
--   plane                   the list of its pixels' values in reading order; a pixel is its index (planes/specs/Lists)
--   Shape                   the columns w and rows h of a plane; pixels z is their product (planes/specs/Shapes)
--   neighbours z            the four-neighbours in a plane of the shape z (planes/specs/Shapes, Neighbours)
--   adjacency z k           its neighbours by a number k of them: the eight for 8, the four for 4
--   pass_neighbours z       the neighbours by which a pass takes its components: by the number that it carries
--                           (model/specs/Neighbourhoods)
--   Carries, AcceptedCarry  a pass, and every accepted call of a chain, carries a number of neighbours
--                           (model/specs/Runs, Calls)
--   extreme ltb, gtb        a pixel's flat zone is a regional maximum, minimum (planes/specs/Extrema)
--   Contains                the flat zone of a pixel of one plane contains a whole regional extremum of another
--   maxima, minima          how many regional maxima and minima there are
--   Reply                   what a call answers: refused with a number, or given with values (planes/specs/Replies)
--   after, overwritten lent memory after a call with such an answer; an output with new first bytes
--   intensity          the plane of a frame's intensities, Algorithm 1 (colours/specs/Frames)
--   recolour           the frame recoloured from a plane, Algorithm 6 (colours/specs/Frames)
--   Grey               every pixel's three channels are one (colours/specs/Frames)
--   Effect             what a pass, or a run of passes, comes to: its plane and both counts, of retoned components and
--                      of those of sufficient area that were kept back (model/specs/Effects)
--   pass_sufficient     how many components of sufficient area a pass finds (model/specs/Passes)
--   run_sufficient, chain_sufficient, sufficient_of   the sum of these over the passes of a list, over the calls of a
--                      chain that are not refused, over the passes of an enhancement, in the plane as each finds it
--   chain              the model of a chain of calls: its plane and its replies (model/specs/Calls)
--   chain_of            the chain of passes that an enhancement stands for (enhance/specs/Calls)
--   passes, recursive  its passes, level by level, and in the order of the recursion (model/specs/Enhancement)
--   published_of        Algorithms 2 to 5 on a frame's intensity, by components (enhance/specs/Published)
--   IntensityOutcome, RecolourOutcome, PassOutcome, EnhanceOutcome, ListOutcome, PassesOutcome, ConvertOutcome,
--   WriteOutcome       what the calls ensure, by the reply of their answer
--   Sequence           calls of `pass`, each lent the plane as the one before left it (passes/specs/Calls)
--   Permutation        one list is the other in some order (planes/specs/Permutations)
--   PairwiseDisjoint   any two passes of a list are on disjoint intervals (schedules/specs/Orders)
--   passes_in, Answered the passes of some calls; a pass was called and had a reply (schedules/specs/Orders)
--   IsComponent        a set of pixels is a component of a section in a plane (schedules/specs/Components)
--   Ringed             all pixels next to a set are outside a section (schedules/specs/Components)
--   Worked, together   workers' calls, each on its own copy of a plane, and the copies put together
--                      (schedules/specs/Copies)
--   Rounds             passes handed out round by round; level_rounds: level by level (schedules/specs/Copies)
--   read_reply          what reading replies to some bytes (netpbm/specs/Reading)
--   IsHeader           a list of bytes begins with a P6 header, by its parts (headers/specs/Headers)
--   Gap                what stands before each of its numbers: whitespace bytes and comments (gaps/specs/Gaps)
--   IsFrame            a list of bytes is a P6 frame, by its parts (netpbm/specs/Frames)
--   signless           no number sign stands in the header before a raster (headers/specs/Uncommented)
--   Uncommented        no number sign stands in a header that begins the bytes (headers/specs/Uncommented)
--   uncommented_reply   what reading replied before comments were read (netpbm/specs/Uncommented)
--   RuleNumbers        the numbers that stand for a tone rule, in a record of a pass list and from C (tones/src)
--   rule_of, malformed  their rule, and that they stand for none (tones/specs/Numbers)
--   rule_before, malformed_before   the same before the affine rule was there (tones/specs/Before)
--   numbers_before, settings_before   the refusals of a pass and of settings before they had neighbours (specs/Before)
--   greatest_count      the most passes of a list, in a file and in memory (listformat/specs/Format)
--   greatest_before     the most that it might have before; list_within, convert_within, passes_within: the refusals of
--                       a list, of its conversion and of passes in memory by the most (specs/Before)
--   list_before, passes_before   the refusal of a list, and its passes, before there was a second version
--                                (specs/Before)
--   Bytes              every member is a byte (listformat/specs/Format)
--   Edition            version 1 or version 2 of a pass list (listformat/src); its version and the layout of its
--                      records stand in listformat/specs/Format
--   encode, decode     passes written as a list in an edition, and what a list of bytes is read as
--   Storable, Listable passes that an edition can hold
--   converted       a list in the other edition (conversion/specs/Conversion)
--   places_refusal  20, for passes that an edition has no place for (listchecks/specs/Refusals)
--   Emitted         what the program's function ensures: some bytes at the beginning of the output (printing)
use Rattle.std.specs.Prelude.{ℕ, suc, ◌+◌, ◌-◌, ◌*◌, ◌/◌, ◌^◌, ◌≤◌, ◌<◌, ◌≡◌, ◌↔◌, Bool, true, false, List, [], ◌∷◌}
use Rattle.std.specs.Prelude.{map, length, take, drop, ltb}
use Rattle.std.proofs.Math.Option.{some}
use Rattle.planes.specs.Lists.{at, Beyond}
use Rattle.planes.specs.Permutations.{Permutation}
use Rattle.planes.specs.Replies.{Reply, refuses, gives, replied, overwritten}
use Rattle.planes.specs.Neighbours.{Near}
use Rattle.planes.specs.Refusals.{◌▷◌, output_refusal}
use Rattle.planes.specs.Shapes.{pixels, neighbours, adjacency}
use Rattle.planes.specs.declared.Shape.{Shape}
use Rattle.planes.specs.Extrema.{extreme, gtb, maxima, minima, Contains}
use Rattle.colours.specs.Frames.{intensity, new_channel_at, recolour, Grey}
use Rattle.colours.specs.Calls.{intensity_refusal, recolour_refusal, IntensityOutcome, RecolourOutcome}
use Rattle.model.specs.declared.Pass.{Pass}
use Rattle.model.specs.Neighbourhoods.{pass_neighbours}
use Rattle.model.specs.Passes.{passed, pass_sufficient}
use Rattle.model.specs.Effects.{Effect, counts, pass_effect, run_effect, always}
use Rattle.model.specs.Runs.{All, Carries, run_sufficient}
use Rattle.model.specs.Enhancement.{level, passes, recursive}
use Rattle.model.specs.Published.{published}
use Rattle.model.specs.Calls.{Call, retoned_in, kept_in, total, AllAccepted, State, start, chain, chain_effect}
use Rattle.model.specs.Calls.{chain_sufficient, AcceptedCarry, numbers_refusal}
use Rattle.passes.specs.Calls.{call_on, pass_call_refusal, PassOutcome, Sequence}
use Rattle.schedules.specs.Orders.{PairwiseDisjoint, passes_in, Answered}
use Rattle.schedules.specs.Components.{IsComponent, Ringed}
use Rattle.schedules.specs.Copies.{Work, Worked, work_passes, WorkAnswered, together, Rounds, rounds_total}
use Rattle.schedules.specs.Copies.{level_rounds}
use Rattle.levels.specs.declared.Settings.{Settings}
use Rattle.enhance.specs.Calls.{settings_refusal, chain_of, sufficient_of, enhance_call_refusal, EnhanceOutcome}
use Rattle.enhance.specs.Published.{published_of}
use Rattle.headers.specs.Headers.{IsHeader}
use Rattle.headers.specs.Uncommented.{signless, Uncommented}
use Rattle.tones.specs.declared.Rule.{Rule}
use Rattle.tones.specs.declared.RuleNumbers.{RuleNumbers}
use Rattle.tones.specs.Numbers.{rule_of, malformed}
use Rattle.tones.specs.Before.{rule_before, malformed_before}
use Rattle.netpbm.specs.Reading.{frame_refusal, read_reply}
use Rattle.netpbm.specs.Uncommented.{uncommented_reply}
use Rattle.netpbm.specs.Frames.{IsFrame}
use Rattle.netpbm.specs.Writing.{encoding, write_refusal, WriteOutcome}
use Rattle.listformat.specs.declared.Edition.{Edition}
use Rattle.listformat.specs.declared.Edition.TheVariants.{First, Second}
use Rattle.listformat.specs.Format.{other, version, head_length, version_of, count_of, edition_of, passes_of}
use Rattle.listformat.specs.Format.{greatest_count}
use Rattle.listformat.specs.Format.{misnamed, decode, encode, Bytes, Storable, Listable}
use Rattle.listchecks.specs.Refusals.{list_refusal, passes_refusal, places_refusal}
use Rattle.conversion.specs.Conversion.{converted, convert_refusal, ConvertOutcome}
use Rattle.passlists.specs.Outcomes.{slices_refusal, run_list_refusal, run_passes_refusal, ListOutcome, PassesOutcome}
use Rattle.printing.specs.Printing.{greatest_frame, refusal_line, enhanced_frame, Emitted}
use Rattle.frames.specs.Program.{greatest_input, program_output}
use Rattle.claims.specs.Before.{numbers_before, settings_before, greatest_before, list_within, convert_within}
use Rattle.claims.specs.Before.{passes_within, list_before, passes_before}

-- ## Demand 1: exactly what is listed is refused, by its number, and a refusal leaves all lent memory as it was

-- a reply for the number of the first listed refusal that applies, 0 where none does: it is refused exactly where the
-- number is not 0, and then with that number
pub record AsListed (number : ℕ) (reply : Reply) : Type 0 where
  pub refused : (k : ℕ) → number ≡ suc k → reply ≡ refuses (suc k)
  pub listed : (k : ℕ) → reply ≡ refuses k → number ≡ k
  pub accepted : number ≡ 0 → (k : ℕ) → reply ≡ refuses k → ⊥

-- what reading replies: 10 exactly where no header begins the bytes; after a header, the first of 1, 2, 11, 12 and 13
-- that applies, or else width, height and the offset of the raster; and these exactly where the bytes are a frame
pub record ReadAsListed (bytes : List ℕ) (limit : ℕ) (reply : Reply) : Type 0 where
  pub malformed : (reply ≡ refuses 10) ↔ ((w h maxval : ℕ) (raster : List ℕ) → IsHeader bytes w h maxval raster → ⊥)
  pub headed : (w h maxval : ℕ) (raster : List ℕ) → IsHeader bytes w h maxval raster
      → reply
      ≡ replied (frame_refusal w h maxval (length raster) limit) (w ∷ h ∷ (length bytes - length raster) ∷ [])
  pub framed : (w h offset : ℕ) → (reply ≡ gives (w ∷ h ∷ offset ∷ [])) ↔ IsFrame bytes limit w h offset

-- what the program writes for an input: `refused 13` where it is too long, else the enhanced frame for exactly the
-- frames within its limits, else `refused N` with the number that reading replies
pub record Writes (input written : List ℕ) : Type 0 where
  pub long : greatest_input < length input → written ≡ refusal_line 13
  pub frame : length input ≤ greatest_input → (w h offset : ℕ)
      → IsFrame input greatest_frame w h offset → written ≡ enhanced_frame (drop offset input) w h
  pub refused : length input ≤ greatest_input → (k : ℕ)
      → read_reply input greatest_frame ≡ refuses k → written ≡ refusal_line k

pub record Demand1 : Type 0 where
  pub of_intensity : (w h : ℕ) {frame plane plane' : List ℕ} {reply : Reply}
      → IntensityOutcome w h frame plane reply plane'
      → AsListed (intensity_refusal w h (length frame) (length plane)) reply
      × ((k : ℕ) → reply ≡ refuses k → plane' ≡ plane)
  pub of_pass : (z : Shape) (s : Pass) {plane marks queue plane' marks' queue' : List ℕ} {reply : Reply}
      → PassOutcome z s plane marks queue reply plane' marks' queue'
      → AsListed (pass_call_refusal z s plane marks queue) reply
      × ((k : ℕ) → reply ≡ refuses k → (plane' ≡ plane) × ((marks' ≡ marks) × (queue' ≡ queue)))
  pub of_recolour : (w h : ℕ) {frame plane output output' : List ℕ} {reply : Reply}
      → RecolourOutcome w h frame plane output reply output'
      → AsListed (recolour_refusal w h (length frame) (length plane) (length output)) reply
      × ((k : ℕ) → reply ≡ refuses k → output' ≡ output)
  pub of_enhance : (z : Shape) (t : Settings) (frame : List ℕ)
      {plane marks queue output plane' marks' queue' output' : List ℕ} {reply : Reply}
      → EnhanceOutcome z t frame plane marks queue output reply plane' marks' queue' output'
      → AsListed (enhance_call_refusal z t frame plane marks queue output) reply
      × ((k : ℕ) → reply ≡ refuses k
      → (plane' ≡ plane) × ((marks' ≡ marks) × ((queue' ≡ queue) × (output' ≡ output))))
  pub of_list : (z : Shape) (list : List ℕ) {plane marks queue plane' marks' queue' : List ℕ} {reply : Reply}
      → ListOutcome z list plane marks queue reply plane' marks' queue'
      → AsListed (run_list_refusal z list plane marks queue) reply
      × ((k : ℕ) → reply ≡ refuses k → (plane' ≡ plane) × ((marks' ≡ marks) × (queue' ≡ queue)))
  pub of_passes : (z : Shape) (ss : List Pass) {plane marks queue plane' marks' queue' : List ℕ} {reply : Reply}
      → PassesOutcome z ss plane marks queue reply plane' marks' queue'
      → AsListed (run_passes_refusal z ss plane marks queue) reply
      × ((k : ℕ) → reply ≡ refuses k → (plane' ≡ plane) × ((marks' ≡ marks) × (queue' ≡ queue)))
  pub of_convert : (list : List ℕ) {output output' : List ℕ} {reply : Reply}
      → ConvertOutcome list output reply output'
      → AsListed (convert_refusal list (length output)) reply × ((k : ℕ) → reply ≡ refuses k → output' ≡ output)
  pub of_write : (raster : List ℕ) (w h : ℕ) {output output' : List ℕ} {reply : Reply}
      → WriteOutcome raster w h output reply output'
      → AsListed (write_refusal w h (length raster) (length output)) reply
      × ((k : ℕ) → reply ≡ refuses k → output' ≡ output)
  -- reading lends no memory that could change
  pub of_read : (bytes : List ℕ) (limit : ℕ) → ReadAsListed bytes limit (read_reply bytes limit)
  -- of the output the program takes the first r bytes
  pub of_program : (input : List ℕ) {output output' : List ℕ} {r : ℕ}
      → Emitted (program_output input) output r output' → Writes input (take r output')

-- ## Demand 2: what is accepted becomes, byte for byte, what the algorithms give

-- a call that gave its values had its effect: values and plane are the effect's; the components that were retoned and
-- those that were kept back are together those of sufficient area; marks and queue keep their lengths and all entries
-- from n on
pub record Had (n : ℕ) (e : Effect) (sufficient : ℕ) (marks queue values plane' marks' queue' : List ℕ) : Type 0 where
  pub values_are : values ≡ counts e
  pub together : e.retoned + e.kept ≡ sufficient
  pub plane_is : plane' ≡ e.plane
  pub marks_rest : Beyond n marks marks'
  pub queue_rest : Beyond n queue queue'

pub record Demand2 : Type 0 where
  pub of_intensity : (w h : ℕ) {frame plane values plane' : List ℕ}
      → IntensityOutcome w h frame plane (gives values) plane' → plane' ≡ intensity frame
  pub of_pass : (z : Shape) (s : Pass) {plane marks queue values plane' marks' queue' : List ℕ}
      → PassOutcome z s plane marks queue (gives values) plane' marks' queue'
      → Had (pixels z) (pass_effect (pass_neighbours z) s plane) (pass_sufficient (pass_neighbours z s) s plane)
      marks queue values plane' marks' queue'
  pub of_recolour : (w h : ℕ) {frame plane output values output' : List ℕ}
      → RecolourOutcome w h frame plane output (gives values) output'
      → output' ≡ overwritten output (recolour frame plane)
  -- the chain of passes that the requirements name, none of which is refused; where the frame has bytes, as the type of
  -- a lent frame says, it comes to what the published recursion by components comes to
  pub of_enhance : (z : Shape) (t : Settings) (frame : List ℕ)
      {plane marks queue output values plane' marks' queue' output' : List ℕ}
      → EnhanceOutcome z t frame plane marks queue output (gives values) plane' marks' queue' output'
      → Had (pixels z) (chain_effect (chain_of z t frame)) (sufficient_of z t frame)
      marks queue values plane' marks' queue'
      × ((output' ≡ overwritten output (recolour frame (chain_of z t frame).plane))
      × (AllAccepted (chain_of z t frame).answers
      × (Bytes frame → chain_effect (chain_of z t frame) ≡ published_of z t frame)))
  -- a list is the run of its passes, and the sums of their counts
  pub of_list : (z : Shape) (list : List ℕ) {plane marks queue values plane' marks' queue' : List ℕ}
      → ListOutcome z list plane marks queue (gives values) plane' marks' queue'
      → Had (pixels z) (run_effect (pass_neighbours z) (passes_of list) plane)
      (run_sufficient (pass_neighbours z) (passes_of list) plane) marks queue values plane' marks' queue'
  pub of_passes : (z : Shape) (ss : List Pass) {plane marks queue values plane' marks' queue' : List ℕ}
      → PassesOutcome z ss plane marks queue (gives values) plane' marks' queue'
      → Had (pixels z) (run_effect (pass_neighbours z) ss plane) (run_sufficient (pass_neighbours z) ss plane)
      marks queue values plane' marks' queue'
  -- the list of the same passes in the other edition
  pub of_convert : (list : List ℕ) {output values output' : List ℕ}
      → ConvertOutcome list output (gives values) output'
      → (values ≡ length (converted list) ∷ []) × (output' ≡ overwritten output (converted list))
  pub of_write : (raster : List ℕ) (w h : ℕ) {output values output' : List ℕ}
      → WriteOutcome raster w h output (gives values) output'
      → (values ≡ length (encoding raster w h) ∷ []) × (output' ≡ overwritten output (encoding raster w h))

-- ## Demand 3: one claim about a whole chain of calls

-- from the first plane to the last no neighbours part or are reversed, and no spot is invented
pub record ShapePreserving (near : Near) (first last : List ℕ) : Type 0 where
  pub size : length last ≡ length first
  -- equal neighbours stay equal
  pub equal : (i j : ℕ) → i < length first → j < length first → near i j ≡ true
      → at first i ≡ at first j → at last i ≡ at last j
  -- unequal ones are never reversed: the one that was higher is never lower
  pub ordered : (i j : ℕ) → i < length first → j < length first → near i j ≡ true
      → at first i < at first j → at last i ≤ at last j
  -- each regional maximum of the last plane contains a whole one of the first; likewise minima
  pub tops : (i : ℕ) → i < length first → extreme ltb near last i ≡ true → Contains ltb near first last i
  pub pits : (i : ℕ) → i < length first → extreme gtb near last i ≡ true → Contains gtb near first last i
  -- neither grows in number
  pub fewer_tops : maxima near last ≤ maxima near first
  pub fewer_pits : minima near last ≤ minima near first

-- a frame recoloured from a plane: Algorithm 6 byte for byte, each number in 0 to 255 before it is stored, and no two
-- channels of a pixel reversed
pub record Coloured (z : Shape) (frame plane output' : List ℕ) : Type 0 where
  pub exact : take (3 * pixels z) output' ≡ recolour frame plane
  pub byte : (k : ℕ) → k < length frame → new_channel_at frame plane k ≤ 255
  pub channels : (k l : ℕ) → k < length frame → l < length frame → k / 3 ≡ l / 3
      → at frame k < at frame l → at (recolour frame plane) k ≤ at (recolour frame plane) l
  -- the written frame's own intensity is another plane; for a grey frame it keeps shapes too, by the eight neighbours
  -- where the plane does
  pub grey_file : Grey frame
      → ShapePreserving (neighbours z) (intensity frame) (intensity (take (3 * pixels z) output'))
  pub grey_file_eight : Grey frame → ShapePreserving (adjacency z 8) (intensity frame) plane
      → ShapePreserving (adjacency z 8) (intensity frame) (intensity (take (3 * pixels z) output'))

pub record Demand3 (z : Shape) (frame first : List ℕ) (calls : List Call) (replies : List Reply) (last : List ℕ)
    : Type 0 where
  -- the first plane is Algorithm 1's
  pub first_is : first ≡ intensity frame
  -- replies and last plane are the model's
  pub replies_are : replies ≡ (chain z (start first) calls).answers
  pub last_is : last ≡ (chain z (start first) calls).plane
  -- both counts of all replies are together the components of sufficient area, in the plane as each call finds it
  pub together : total retoned_in replies + total kept_in replies ≡ chain_sufficient z first calls
  -- by the four neighbours whatever the calls carry, and by the eight where every accepted call carries 8
  pub shapes : ShapePreserving (neighbours z) first last
  pub shapes_eight : AcceptedCarry 8 calls replies → ShapePreserving (adjacency z 8) first last
  -- recolouring from the last plane, with an output that is long enough
  pub recoloured : {output output' : List ℕ} {reply : Reply} → 3 * pixels z ≤ length output
      → RecolourOutcome z.w z.h frame last output reply output'
      → (reply ≡ gives []) × Coloured z frame last output'
  -- every accepted enhancement of the frame leaves the plane and the output of its chain, and answers the sums of both
  -- counts; all passes of that chain carry its own number of neighbours
  pub enhanced : (t : Settings) {plane marks queue output values plane' marks' queue' output' : List ℕ}
      → EnhanceOutcome z t frame plane marks queue output (gives values) plane' marks' queue' output'
      → (plane' ≡ (chain_of z t frame).plane) × ((values ≡ counts (chain_effect (chain_of z t frame)))
      × ((ShapePreserving (neighbours z) first plane' × Coloured z frame plane' output')
      × (All (Carries t.neighbours) (passes t.last t.area t.rule t.neighbours)
      × (t.neighbours ≡ 8 → ShapePreserving (adjacency z 8) first plane'))))

-- every frame that intensity accepts, and every sequence of calls from the plane that it fills, refused ones included
abbrev pub Demand3Holds : Type 0
Demand3Holds = (z : Shape) (frame lent values first last : List ℕ) (calls : List Call) (replies : List Reply)
    → IntensityOutcome z.w z.h frame lent (gives values) first → Sequence z first calls replies last
    → Demand3 z frame first calls replies last

-- ## Lists of passes are chains

-- the chain of calls of some passes, each lent as many entries of marks and queue
abbrev pub passes_chain : Shape → ℕ → ℕ → List Pass → List ℕ → State
passes_chain z marks queue ss plane = chain z (start plane) (map (call_on marks queue) ss)

-- none of them is refused, and their chain comes to this plane and these values
pub record Chained (z : Shape) (marks queue : ℕ) (ss : List Pass) (plane values plane' : List ℕ) : Type 0 where
  pub accepted : AllAccepted (passes_chain z marks queue ss plane).answers
  pub plane_is : plane' ≡ (passes_chain z marks queue ss plane).plane
  pub values_are : values ≡ counts (chain_effect (passes_chain z marks queue ss plane))
  pub shapes : ShapePreserving (neighbours z) plane plane'
  pub shapes_eight : All (Carries 8) ss → ShapePreserving (adjacency z 8) plane plane'

pub record ListsAreChains : Type 0 where
  pub of_list : (z : Shape) (list : List ℕ) {plane marks queue values plane' marks' queue' : List ℕ}
      → ListOutcome z list plane marks queue (gives values) plane' marks' queue'
      → Chained z (length marks) (length queue) (passes_of list) plane values plane'
  pub of_passes : (z : Shape) (ss : List Pass) {plane marks queue values plane' marks' queue' : List ℕ}
      → PassesOutcome z ss plane marks queue (gives values) plane' marks' queue'
      → Chained z (length marks) (length queue) ss plane values plane'

-- ## Both editions of a list

pub record Editions : Type 0 where
  -- a list of bytes is read as some passes and names a version exactly when it is what they are written as in it
  pub decodes : (e : Edition) (list : List ℕ) → Bytes list → (ss : List Pass)
      → ((decode list ≡ some ss) × (version_of list ≡ version e)) ↔ (Listable e ss × (list ≡ encode e ss))
  -- a list that is not refused is read as the passes that are run
  pub accepted : (list : List ℕ) → list_refusal list ≡ 0 → decode list ≡ some (passes_of list)
  -- what a conversion wrote, converted again with room for it, is the list, byte for byte: up and down, down and up
  pub restored : (list : List ℕ) → Bytes list → {output output' : List ℕ} {size : ℕ}
      → ConvertOutcome list output (gives (size ∷ [])) output' → {lent lent' : List ℕ} {reply : Reply}
      → length list ≤ length lent → ConvertOutcome (take size output') lent reply lent'
      → (reply ≡ gives (length list ∷ [])) × (take (length list) lent' ≡ list)
  -- a list and what a conversion made of it, run with marks and queue of equal lengths, come to equal planes and both
  -- counts; refused, they get the same number
  pub alike : (list : List ℕ) → Bytes list → {output output' : List ℕ} {size : ℕ}
      → ConvertOutcome list output (gives (size ∷ [])) output'
      → (z : Shape) (plane : List ℕ) {marks queue marks' queue' : List ℕ}
      → length marks ≡ length marks' → length queue ≡ length queue'
      → {plane₁ marks₁ queue₁ plane₂ marks₂ queue₂ : List ℕ} {reply₁ reply₂ : Reply}
      → ListOutcome z list plane marks queue reply₁ plane₁ marks₁ queue₁
      → ListOutcome z (take size output') plane marks' queue' reply₂ plane₂ marks₂ queue₂
      → (reply₁ ≡ reply₂) × (plane₁ ≡ plane₂)
  -- so do both editions of any passes that version 1 can hold, also where the list is refused
  pub both : (ss : List Pass) → length ss < 65536 → All (Storable First) ss
      → (z : Shape) (plane : List ℕ) {marks queue marks' queue' : List ℕ}
      → length marks ≡ length marks' → length queue ≡ length queue'
      → {plane₁ marks₁ queue₁ plane₂ marks₂ queue₂ : List ℕ} {reply₁ reply₂ : Reply}
      → ListOutcome z (encode First ss) plane marks queue reply₁ plane₁ marks₁ queue₁
      → ListOutcome z (encode Second ss) plane marks' queue' reply₂ plane₂ marks₂ queue₂
      → (reply₁ ≡ reply₂) × (plane₁ ≡ plane₂)
  -- a conversion refuses what running the list refuses where the lent memory is sound, with the same number; then 20,
  -- where a pass with eight neighbours is to become version 1; then 14
  pub refuses : (z : Shape) (plane marks queue : List ℕ) → slices_refusal z plane marks queue ≡ 0
      → (list : List ℕ) (output : ℕ) → convert_refusal list output
      ≡ run_list_refusal z list plane marks queue
      ▷ places_refusal (other (edition_of list)) (passes_of list) ▷ output_refusal output (length (converted list))
  -- version 2 has a place for every pass
  pub never_20 : (ss : List Pass) → places_refusal Second ss ≡ 0

-- ## An enhancement is a list

-- a run from a frame's intensity answered and left what an enhancement of the frame answered and left: both counts and
-- the plane; and recoloured from that plane the frame has the bytes of the enhancement's output
pub record AsEnhanced (z : Shape) (frame values plane' output' : List ℕ) (reply : Reply) (last : List ℕ) : Type 0 where
  pub counts_are : reply ≡ gives values
  pub plane_is : last ≡ plane'
  pub bytes_are : {output output'' : List ℕ} {coloured : Reply} → 3 * pixels z ≤ length output
      → RecolourOutcome z.w z.h frame last output coloured output''
      → (coloured ≡ gives []) × (take (3 * pixels z) output'' ≡ take (3 * pixels z) output')

-- runs with this outcome, on the plane that intensity filled from a frame and with sound memory, do what every accepted
-- enhancement of the frame with the settings does
pub record RunsAs (t : Settings)
    (Run : (z : Shape) (plane marks queue : List ℕ) (reply : Reply) (plane' marks' queue' : List ℕ) → Type 0)
    : Type 0 where
  pub does : (z : Shape) {frame lent filled first : List ℕ}
      → IntensityOutcome z.w z.h frame lent (gives filled) first
      → {plane marks queue output values plane' marks' queue' output' : List ℕ}
      → EnhanceOutcome z t frame plane marks queue output (gives values) plane' marks' queue' output'
      → {marks₁ queue₁ last marks₂ queue₂ : List ℕ} {reply : Reply} → slices_refusal z first marks₁ queue₁ ≡ 0
      → Run z first marks₁ queue₁ reply last marks₂ queue₂ → AsEnhanced z frame values plane' output' reply last

-- the file of some passes in an edition is not refused, is read as these passes, and runs as the enhancement does
pub record StoredIn (e : Edition) (t : Settings) (ss : List Pass) : Type 0 where
  pub accepted : list_refusal (encode e ss) ≡ 0
  pub read : passes_of (encode e ss) ≡ ss
  pub runs : RunsAs t (λ z. ListOutcome z (encode e ss))

-- some passes, as a list, are the enhancement with some settings
pub record StandsFor (t : Settings) (ss : List Pass) : Type 0 where
  -- there are as many as the levels have sections, 1 for level 0 alone and 255 for all, which is within the limit
  pub size : length ss + 1 ≡ 2 ^ (t.last + 1)
  pub few : length ss ≤ 255
  pub within : length ss ≤ greatest_count
  -- in memory they are not refused, and run as the enhancement does
  pub accepted : passes_refusal ss ≡ 0
  pub runs : RunsAs t (λ z. PassesOutcome z ss)
  -- so do their files: that of version 2 whatever the neighbours, that of version 1 where they are four
  pub version_2 : StoredIn Second t ss
  pub version_1 : t.neighbours ≡ 4 → StoredIn First t ss

-- those of every accepted settings are, level by level and in the order of the recursion
pub record EnhancementsAreLists : Type 0 where
  pub by_levels : (t : Settings) → settings_refusal t ≡ 0
      → StandsFor t (passes t.last t.area t.rule t.neighbours)
  pub by_recursion : (t : Settings) → settings_refusal t ≡ 0
      → StandsFor t (recursive t.last t.area t.rule t.neighbours)

-- ## Sections in parallel

-- accepted calls of passes on pairwise disjoint intervals: rules, areas and neighbours may differ from pass to pass
pub record AnyOrder : Type 0 where
  -- in two orders from one plane they end in one plane, and each pass answers the same two counts in both
  pub of_calls : (z : Shape) {first last₁ last₂ : List ℕ} {calls₁ calls₂ : List Call} {replies₁ replies₂ : List Reply}
      → Sequence z first calls₁ replies₁ last₁ → Sequence z first calls₂ replies₂ last₂
      → AllAccepted replies₁ → AllAccepted replies₂
      → PairwiseDisjoint (passes_in calls₁) → Permutation (passes_in calls₁) (passes_in calls₂)
      → (last₁ ≡ last₂)
      × ((s : Pass) (reply : Reply) → Answered s reply calls₁ replies₁ ↔ Answered s reply calls₂ replies₂)
  -- which are those that it answers on the first plane
  pub on_first : (z : Shape) {first last : List ℕ} {calls : List Call} {replies : List Reply}
      → Sequence z first calls replies last → AllAccepted replies → PairwiseDisjoint (passes_in calls)
      → (s : Pass) (reply : Reply) → Answered s reply calls replies
      → reply ≡ gives (counts (pass_effect (pass_neighbours z) s first))
  -- lists of them, in memory and in files, leave one plane and answer the same sums
  pub of_passes : (z : Shape) (ss ts : List Pass) → PairwiseDisjoint ss → Permutation ss ts
      → {plane marks₁ queue₁ values₁ plane₁ marks₁' queue₁' marks₂ queue₂ values₂ plane₂ marks₂' queue₂' : List ℕ}
      → PassesOutcome z ss plane marks₁ queue₁ (gives values₁) plane₁ marks₁' queue₁'
      → PassesOutcome z ts plane marks₂ queue₂ (gives values₂) plane₂ marks₂' queue₂'
      → (values₁ ≡ values₂) × (plane₁ ≡ plane₂)
  pub of_lists : (z : Shape) (list₁ list₂ : List ℕ)
      → PairwiseDisjoint (passes_of list₁) → Permutation (passes_of list₁) (passes_of list₂)
      → {plane marks₁ queue₁ values₁ plane₁ marks₁' queue₁' marks₂ queue₂ values₂ plane₂ marks₂' queue₂' : List ℕ}
      → ListOutcome z list₁ plane marks₁ queue₁ (gives values₁) plane₁ marks₁' queue₁'
      → ListOutcome z list₂ plane marks₂ queue₂ (gives values₂) plane₂ marks₂' queue₂'
      → (values₁ ≡ values₂) × (plane₁ ≡ plane₂)

-- workers that each run some of the passes on a copy of their own of one plane
pub record HandedOut : Type 0 where
  -- their copies put together are the plane of every sequence of the passes, and the counts are those of the copies
  pub copies : (z : Shape) {first last : List ℕ} {works : List Work} {calls : List Call} {replies : List Reply}
      → Worked z first works → PairwiseDisjoint (work_passes works)
      → Sequence z first calls replies last → AllAccepted replies → Permutation (work_passes works) (passes_in calls)
      → (last ≡ together works first)
      × ((s : Pass) (reply : Reply) → WorkAnswered s reply works ↔ Answered s reply calls replies)
  -- so that plane keeps shapes, by the eight neighbours too where all passes carry 8
  pub shapes : (z : Shape) {first : List ℕ} {works : List Work} → Worked z first works
      → PairwiseDisjoint (work_passes works) → ShapePreserving (neighbours z) first (together works first)
  pub shapes_eight : (z : Shape) {first : List ℕ} {works : List Work} → Worked z first works
      → PairwiseDisjoint (work_passes works) → All (Carries 8) (work_passes works)
      → ShapePreserving (adjacency z 8) first (together works first)
  -- the sections of a level are pairwise disjoint; handed out level by level, from the plane that intensity filled from
  -- a frame, they leave and count what every accepted enhancement of the frame does, and recolour to its bytes
  pub of_level : (l area : ℕ) (rule : Rule) (number : ℕ) → PairwiseDisjoint (level l area rule number)
  pub by_levels : (z : Shape) (t : Settings) {frame lent filled first : List ℕ}
      → IntensityOutcome z.w z.h frame lent (gives filled) first
      → {plane marks queue output values plane' marks' queue' output' : List ℕ}
      → EnhanceOutcome z t frame plane marks queue output (gives values) plane' marks' queue' output'
      → {works : List (List Work)} {last : List ℕ}
      → Rounds z (level_rounds t.last t.area t.rule t.neighbours) works first last
      → AsEnhanced z frame values plane' output'
      (gives (rounds_total retoned_in works ∷ rounds_total kept_in works ∷ []))
      last

-- two planes of one size that agree on a component C of [a, b] in the first; in both all pixels next to C, by the
-- neighbours that the pass carries, are outside [a, b]: in the first since C is a component. Wherever else they differ,
-- one pass on [a, b] leaves C alike in both
pub record Locality : Type 0 where
  pub of_model : (near : Near) (s : Pass) (p q : List ℕ) (C : ℕ → Bool) → length q ≡ length p
      → IsComponent near s p C → ((x : ℕ) → x < length p → C x ≡ true → at q x ≡ at p x) → Ringed near s q C
      → (x : ℕ) → x < length p → C x ≡ true → at (passed near s q) x ≡ at (passed near s p) x
  pub of_calls : (z : Shape) (s : Pass)
      {p marks₁ queue₁ values₁ p' marks₁' queue₁' q marks₂ queue₂ values₂ q' marks₂' queue₂' : List ℕ}
      → PassOutcome z s p marks₁ queue₁ (gives values₁) p' marks₁' queue₁'
      → PassOutcome z s q marks₂ queue₂ (gives values₂) q' marks₂' queue₂'
      → {C : ℕ → Bool} → IsComponent (pass_neighbours z s) s p C
      → ((x : ℕ) → x < length p → C x ≡ true → at q x ≡ at p x) → Ringed (pass_neighbours z s) s q C
      → (x : ℕ) → x < length p → C x ≡ true → at q' x ≡ at p' x

pub record SectionsInParallel : Type 0 where
  pub any_order : AnyOrder
  pub handed_out : HandedOut
  pub locality : Locality

-- ## What is as it was before

-- frames without comments are read as before comments were read; a header with a number sign was refused with 10. The
-- numbers of a rule, in lists and from C, are read as before the affine rule was there, unless their code is 2; these
-- got 17. A pass and an enhancement by 4 neighbours, and a list in a file that does not name version 2, have the
-- effects and the refusals that they had before there was a choice: those by the four neighbours. Lists that name
-- version 2 got 15, if they were long enough to name a version. Lists of no more passes than they may have, in files of
-- either version and in memory, to be run and to be converted, get the refusals that they got when they might have
-- 1,024; those of more get 16, where their mark and version are right, whatever their length and their records
pub record AsBefore : Type 0 where
  pub of_read : (bytes : List ℕ) (limit : ℕ) → Uncommented bytes
      → read_reply bytes limit ≡ uncommented_reply bytes limit
  pub commented : (bytes : List ℕ) (limit w h maxval : ℕ) (raster : List ℕ) → IsHeader bytes w h maxval raster
      → signless bytes raster ≡ false → uncommented_reply bytes limit ≡ refuses 10
  pub of_form : (n : RuleNumbers) → (n.code ≡ 2 → ⊥) → malformed n ≡ malformed_before n
  pub of_rule : (n : RuleNumbers) → (n.code ≡ 2 → ⊥) → malformed n ≡ false → rule_of n ≡ rule_before n
  pub affine : (n : RuleNumbers) → n.code ≡ 2 → malformed_before n ≡ true
  pub of_pass : (z : Shape) (s : Pass) (plane : List ℕ) → Carries 4 s
      → (pass_effect (pass_neighbours z) s plane ≡ pass_effect (always (neighbours z)) s plane)
      × (numbers_refusal s ≡ numbers_before s)
  pub of_few : (list : List ℕ) → count_of list ≤ greatest_count
      → (list_refusal list ≡ list_within greatest_before list)
      × ((output : ℕ) → convert_refusal list output ≡ convert_within greatest_before list output)
  pub of_few_passes : (ss : List Pass) → length ss ≤ greatest_count
      → passes_refusal ss ≡ passes_within greatest_before ss
  pub many : (list : List ℕ) → greatest_count < count_of list → head_length ≤ length list → misnamed list ≡ false
      → (list_refusal list ≡ 16) × ((output : ℕ) → convert_refusal list output ≡ 16)
  pub many_passes : (ss : List Pass) → greatest_count < length ss → passes_refusal ss ≡ 16
  pub of_list : (z : Shape) (list plane : List ℕ) → (version_of list ≡ 2 → ⊥) → count_of list ≤ greatest_count
      → (list_refusal list ≡ list_before list)
      × (run_effect (pass_neighbours z) (passes_of list) plane
      ≡ run_effect (always (neighbours z)) (passes_before list) plane)
  pub second : (list : List ℕ) → version_of list ≡ 2 → head_length ≤ length list → list_before list ≡ 15
  pub of_enhance : (z : Shape) (t : Settings) (frame : List ℕ) → t.neighbours ≡ 4
      → (published_of z t frame ≡ published (neighbours z) t.last t.area t.rule (intensity frame))
      × (settings_refusal t ≡ settings_before t)
