-- The worked examples of the requirements that hold by the rules themselves, as one statement, and a chain of calls
-- that meets the hypotheses of demand 3. Definitions only.
--
--   After, PassExamples       a pass leaves a plane and both counts: examples A to J, and others
--   Eight                     passes by eight neighbours: J, wires, row ends, and why every accepted call is to carry 8
--   Extrema, ExtremaExamples  how many regional maxima and minima a plane has
--   Enhancing                 an enhancement leaves a plane and both counts: examples K and L, and planes of one value
--   Many                      so many passes are a list, or refused: in memory, in files, and to be converted
--   ParallelExamples          passes on disjoint intervals in both orders and on copies; overlapping ones, and a ring
--                             that is not by the pass's own neighbours, for which nothing of the kind holds
--   Starred                   all of them, with the published recursion on K, L and M, recolouring (N, O), the program
--                             (P, and P with comments) and lists (Q in both versions, J in version 2, conversions)
--   Demand3Met                an accepted frame, and calls from its plane of which one is accepted and two are refused
--   ParallelMet               two orders of accepted calls on disjoint intervals, and copies on which they were made
use Rattle.std.specs.Prelude.{ℕ, ◌≡◌, true, false, List, [], ◌∷◌, ◌++◌, map}
use Rattle.planes.specs.Lists.{from}
use Rattle.planes.specs.Permutations.{Permutation}
use Rattle.planes.specs.Replies.{refuses, gives}
use Rattle.planes.specs.Shapes.{shape_of, neighbours, adjacency}
use Rattle.planes.specs.declared.Shape.{Shape}
use Rattle.planes.specs.Extrema.{maxima, minima}
use Rattle.tones.specs.declared.Rule.{Rule}
use Rattle.tones.specs.declared.Rule.TheVariants.{Plain, Limited, Affine}
use Rattle.colours.specs.Frames.{intensity, recolour}
use Rattle.colours.specs.Calls.{IntensityOutcome}
use Rattle.model.specs.declared.Pass.{Pass}
use Rattle.model.specs.Neighbourhoods.{pass_neighbours}
use Rattle.model.specs.Effects.{pass_effect, run_effect}
use Rattle.model.specs.Calls.{numbers_refusal, chain_effect, AllAccepted, AcceptedCarry}
use Rattle.model.specs.Enhancement.{enhanced}
use Rattle.tones.specs.Examples.{any_ratio, row_a, ToneExamples}
use Rattle.model.specs.PublishedExamples.{PublishedExamples}
use Rattle.passes.specs.Calls.{call_on, Sequence}
use Rattle.schedules.specs.Orders.{PairwiseDisjoint, passes_in}
use Rattle.schedules.specs.Copies.{Work, Worked, work_passes, together}
use Rattle.listformat.specs.declared.Edition.{Edition}
use Rattle.listformat.specs.declared.Edition.TheVariants.{First, Second}
use Rattle.listformat.specs.Format.{passes_of, encode}
use Rattle.listchecks.specs.Refusals.{list_refusal, passes_refusal}
use Rattle.conversion.specs.Conversion.{converted, convert_refusal}
use Rattle.texts.specs.Ascii.{ascii}
use Rattle.frames.specs.Program.{program_output}

-- ## Passes

-- a pass over a plane p leaves the plane q, retones k components and keeps j back
abbrev pub After : Shape → List ℕ → Pass → List ℕ → ℕ → ℕ → Type 0
After z p s q k j = pass_effect (pass_neighbours z) s p ≡ record { plane = q; retoned = k; kept = j }

-- one row of w pixels
abbrev pub row : ℕ → Shape
row w = shape_of w 1

-- a pass on [a, b], by four neighbours, and by eight
abbrev pub on : ℕ → ℕ → ℕ → Rule → Pass
on a b area rule = record { a = a; b = b; area = area; rule = rule; neighbours = 4 }

abbrev pub on_eight : ℕ → ℕ → ℕ → Rule → Pass
on_eight a b area rule = record { a = a; b = b; area = area; rule = rule; neighbours = 8 }

abbrev pub row_c : List ℕ
row_c = 0 ∷ 1 ∷ []

abbrev pub row_e : List ℕ
row_e = 10 ∷ 20 ∷ 200 ∷ 10 ∷ 10 ∷ []

-- two rows
abbrev pub plane_j : List ℕ
plane_j = 10 ∷ 200 ∷ 200 ∷ 20 ∷ []

pub record PassExamples : Type 0 where
  pub A : After (row 4) row_a (on 0 255 1 any_ratio) (128 ∷ 128 ∷ 191 ∷ 255 ∷ []) 1 0
  -- kept back: 100 × 127 > 300 × 20
  pub B : After (row 4) row_a (on 0 255 1 (Plain 0 300)) row_a 0 1
  pub C : After (row 2) row_c (on 0 1 1 any_ratio) (1 ∷ 1 ∷ []) 1 0
  -- kept back: 100 × 0 < 80 × 1
  pub D : After (row 2) row_c (on 0 1 1 (Plain 80 25500)) row_c 0 1
  -- two components; the second has one value, and is kept back
  pub E : After (row 5) row_e (on 0 127 1 any_ratio) (64 ∷ 127 ∷ 200 ∷ 10 ∷ 10 ∷ []) 1 1
  -- both are too small
  pub F : After (row 5) row_e (on 0 127 3 any_ratio) row_e 0 0
  pub G : After (row 4) row_a (on 0 255 1 (Limited 10)) (13 ∷ 13 ∷ 25 ∷ 38 ∷ []) 1 0
  pub H : After (row 4) row_a (on 0 255 1 (Limited 1000)) (128 ∷ 128 ∷ 191 ∷ 255 ∷ []) 1 0
  pub I : After (row 4) row_a (on 0 255 1 (Limited 0)) (11 ∷ 11 ∷ 21 ∷ 31 ∷ []) 1 0
  -- 10 and 20 touch at a corner only: two components of one pixel, both kept back
  pub J : After (shape_of 2 2) plane_j (on 0 127 1 any_ratio) plane_j 0 2
  -- A under the affine rule; kept back where the slopes do not reach b; a component of one value may be retoned; one
  -- that gets the rule and comes out as it was is retoned
  pub U : After (row 4) row_a (on 0 255 1 (Affine 2 100 10000)) (128 ∷ 128 ∷ 191 ∷ 255 ∷ []) 1 0
  pub U-kept : After (row 4) row_a (on 0 255 1 (Affine 2 100 300)) row_a 0 1
  pub U-flat : After (row 2) (7 ∷ 7 ∷ []) (on 0 255 1 (Affine 1 0 10000)) (255 ∷ 255 ∷ []) 1 0
  pub U-same : After (row 2) (8 ∷ 10 ∷ []) (on 0 10 1 (Affine 2 200 10000)) (8 ∷ 10 ∷ []) 1 0
  -- components of exactly the least area
  pub least : After (row 5) row_e (on 0 127 2 any_ratio) (64 ∷ 127 ∷ 200 ∷ 10 ∷ 10 ∷ []) 1 1
  -- neighbours may become one
  pub joined : After (row 3) (0 ∷ 1 ∷ 0 ∷ []) (on 0 1 1 any_ratio) (1 ∷ 1 ∷ 1 ∷ []) 1 0

-- ## Eight neighbours

-- rows 0 1 1 and 1 0 0
abbrev pub corner_pair : List ℕ
corner_pair = 0 ∷ 1 ∷ 1 ∷ 1 ∷ 0 ∷ 0 ∷ []

-- a diagonal wire of three pixels
abbrev pub wire : List ℕ
wire = 10 ∷ 200 ∷ 200 ∷ 200 ∷ 20 ∷ 200 ∷ 200 ∷ 200 ∷ 30 ∷ []

pub record Eight : Type 0 where
  -- 10 and 20 are one component
  pub J : After (shape_of 2 2) plane_j (on_eight 0 127 1 any_ratio) (64 ∷ 200 ∷ 200 ∷ 127 ∷ []) 1 0
  -- a wire of single pixels is one component, in either direction
  pub down : After (shape_of 3 3) wire (on_eight 0 127 3 any_ratio)
      (42 ∷ 200 ∷ 200 ∷ 200 ∷ 85 ∷ 200 ∷ 200 ∷ 200 ∷ 127 ∷ []) 1 0
  pub up : After (shape_of 2 2) (200 ∷ 10 ∷ 20 ∷ 200 ∷ []) (on_eight 0 127 2 any_ratio)
      (200 ∷ 64 ∷ 127 ∷ 200 ∷ []) 1 0
  -- no corner is taken across a row's end: the three pixels are in the first and in the last column
  pub row_ends : After (shape_of 3 3) (10 ∷ 200 ∷ 20 ∷ 200 ∷ 200 ∷ 200 ∷ 30 ∷ 200 ∷ 200 ∷ [])
      (on_eight 0 127 1 any_ratio)
      (10 ∷ 200 ∷ 20 ∷ 200 ∷ 200 ∷ 200 ∷ 30 ∷ 200 ∷ 200 ∷ []) 0 3
  -- in one row, and in one column, there are no corners
  pub one_row : After (row 3) (10 ∷ 200 ∷ 20 ∷ []) (on_eight 0 127 1 any_ratio) (10 ∷ 200 ∷ 20 ∷ []) 0 2
  pub one_column : After (shape_of 1 3) (10 ∷ 200 ∷ 20 ∷ []) (on_eight 0 127 1 any_ratio) (10 ∷ 200 ∷ 20 ∷ []) 0 2
  -- a pass by four neighbours may part two pixels that touch at a corner: those of index 1 and 3, which were equal
  pub parted : After (shape_of 3 2) corner_pair (on 1 3 2 (Limited 0)) (0 ∷ 2 ∷ 2 ∷ 1 ∷ 0 ∷ 0 ∷ []) 1 0
  pub touch : adjacency (shape_of 3 2) 8 1 3 ≡ true
  -- and by eight it does not
  pub together : After (shape_of 3 2) corner_pair (on_eight 1 3 2 (Limited 0)) (0 ∷ 2 ∷ 2 ∷ 2 ∷ 0 ∷ 0 ∷ []) 1 0
  -- by eight neighbours the corners of J are one minimum and one maximum
  pub tops : maxima (adjacency (shape_of 2 2) 8) plane_j ≡ 1
  pub pits : minima (adjacency (shape_of 2 2) 8) plane_j ≡ 1
  -- 19, after all other refusals of a pass
  pub neither : numbers_refusal (record { a = 0; b = 1; area = 1; rule = Limited 0; neighbours = 6 }) ≡ 19
  pub after_slopes : numbers_refusal (record { a = 0; b = 1; area = 1; rule = Affine 0 0 0; neighbours = 6 }) ≡ 18

-- ## Regional extrema

-- a plane p has that many regional maxima and minima
pub record Extrema (z : Shape) (p : List ℕ) (tops pits : ℕ) : Type 0 where
  pub maxima_are : maxima (neighbours z) p ≡ tops
  pub minima_are : minima (neighbours z) p ≡ pits

pub record ExtremaExamples : Type 0 where
  -- a constant plane is both
  pub constant : Extrema (shape_of 2 2) (7 ∷ 7 ∷ 7 ∷ 7 ∷ []) 1 1
  pub single : Extrema (row 1) (7 ∷ []) 1 1
  -- a plateau counts once; one between a lower and a higher pixel is neither
  pub plateau : Extrema (row 5) (3 ∷ 5 ∷ 5 ∷ 3 ∷ 4 ∷ []) 2 2
  pub step : Extrema (row 4) (3 ∷ 5 ∷ 5 ∷ 7 ∷ []) 1 1
  -- pixels that touch at a corner only are no neighbours
  pub corners : Extrema (shape_of 2 2) plane_j 2 2
  -- a hole in a ring
  pub ring : Extrema (shape_of 3 3) (9 ∷ 9 ∷ 9 ∷ 9 ∷ 1 ∷ 9 ∷ 9 ∷ 9 ∷ 9 ∷ []) 1 1
  -- the pass `joined`: two minima become one
  pub before_joined : Extrema (row 3) (0 ∷ 1 ∷ 0 ∷ []) 1 2
  pub after_joined : Extrema (row 3) (1 ∷ 1 ∷ 1 ∷ []) 1 1

-- ## Sections in parallel

-- the dark and the bright half of all values, the latter by eight neighbours, and an interval that overlaps both
abbrev pub dark : Pass
dark = on 0 127 1 any_ratio

abbrev pub bright : Pass
bright = on_eight 128 255 1 any_ratio

abbrev pub middle : Pass
middle = on 64 255 1 any_ratio

abbrev pub row_h : List ℕ
row_h = 10 ∷ 20 ∷ 200 ∷ 220 ∷ []

abbrev pub row_h' : List ℕ
row_h' = 64 ∷ 127 ∷ 192 ∷ 255 ∷ []

-- what two workers did, each to a copy of its own
abbrev pub dark_work : Work
dark_work =
    record { calls = call_on 4 4 dark ∷ []; replies = gives (1 ∷ 0 ∷ []) ∷ []; plane = 64 ∷ 127 ∷ 200 ∷ 220 ∷ [] }

abbrev pub bright_work : Work
bright_work = record {
  calls = call_on 5 4 bright ∷ [];
  replies = gives (1 ∷ 0 ∷ []) ∷ [];
  plane = 10 ∷ 20 ∷ 192 ∷ 255 ∷ [];
}

-- a run of passes from a plane leaves another, retones k components and keeps j back
abbrev pub Running : Shape → List ℕ → List Pass → List ℕ → ℕ → ℕ → Type 0
Running z p ss q k j = run_effect (pass_neighbours z) ss p ≡ record { plane = q; retoned = k; kept = j }

pub record ParallelExamples : Type 0 where
  -- on disjoint intervals, in both orders and on copies that are put together
  pub one_order : Running (row 4) row_h (dark ∷ bright ∷ []) row_h' 2 0
  pub other_order : Running (row 4) row_h (bright ∷ dark ∷ []) row_h' 2 0
  pub put_together : together (dark_work ∷ bright_work ∷ []) row_h ≡ row_h'
  -- a pixel of no interval stays
  pub unworked : together (dark_work ∷ []) row_h ≡ 64 ∷ 127 ∷ 200 ∷ 220 ∷ []
  -- passes that overlap do not change places: 10 and 100 are one component of the first, 100 alone is one of the second
  pub overlapping : Running (row 2) (10 ∷ 100 ∷ []) (dark ∷ middle ∷ []) (160 ∷ 255 ∷ []) 2 0
  pub overlapping' : Running (row 2) (10 ∷ 100 ∷ []) (middle ∷ dark ∷ []) (64 ∷ 127 ∷ []) 1 1
  -- two planes that agree on the first pixel and in which its four neighbours are outside [0, 3]; by eight neighbours 1
  -- belongs to it in the second, and the pass leaves it alike by four neighbours only
  pub ring : adjacency (shape_of 2 2) 8 0 3 ≡ true
  pub ring_four : adjacency (shape_of 2 2) 4 0 3 ≡ false
  pub ringed : After (shape_of 2 2) (0 ∷ 254 ∷ 254 ∷ 254 ∷ []) (on_eight 0 3 1 any_ratio) (0 ∷ 254 ∷ 254 ∷ 254 ∷ []) 0 1
  pub unringed : After (shape_of 2 2) (0 ∷ 254 ∷ 254 ∷ 1 ∷ []) (on_eight 0 3 1 any_ratio) (2 ∷ 254 ∷ 254 ∷ 3 ∷ []) 1 0
  pub ringed_four : After (shape_of 2 2) (0 ∷ 254 ∷ 254 ∷ 1 ∷ []) (on 0 3 1 any_ratio) (0 ∷ 254 ∷ 254 ∷ 1 ∷ []) 0 2

-- ## All of them

-- an enhancement of a frame by so many neighbours leaves the plane q, retones k components and keeps j back
abbrev pub EnhancingBy : ℕ → List ℕ → Shape → ℕ → ℕ → Rule → List ℕ → ℕ → ℕ → Type 0
EnhancingBy number frame z last area rule q k j =
    chain_effect (enhanced z (intensity frame) last area rule number) ≡ record { plane = q; retoned = k; kept = j }

abbrev pub Enhancing : List ℕ → Shape → ℕ → ℕ → Rule → List ℕ → ℕ → ℕ → Type 0
Enhancing = EnhancingBy 4

-- the grey frame of the rows 10 200, 200 20 and 200 200
abbrev pub grey_j : List ℕ
grey_j =
    10 ∷ 10 ∷ 10 ∷ 200 ∷ 200 ∷ 200
    ∷ 200 ∷ 200 ∷ 200 ∷ 20 ∷ 20 ∷ 20
    ∷ 200 ∷ 200 ∷ 200 ∷ 200 ∷ 200 ∷ 200 ∷ []

-- the grey frame 10 20
abbrev pub grey_k : List ℕ
grey_k = 10 ∷ 10 ∷ 10 ∷ 20 ∷ 20 ∷ 20 ∷ []

-- the grey frame 7 7
abbrev pub grey_flat : List ℕ
grey_flat = 7 ∷ 7 ∷ 7 ∷ 7 ∷ 7 ∷ 7 ∷ []

-- P6, LF, 2 1, LF, 255, LF and the first of them
abbrev pub file_p : List ℕ
file_p = ascii "P6\n2 1\n255\n" ++ grey_k

-- the same with comments: right after P6, right after a digit and ended by CR, two in a row of which one is empty
abbrev pub commented_p : List ℕ
commented_p = ascii "P6# by hand\n2#1\r1 #\n# 15\n255\n" ++ grey_k

-- 4D 4C 50 01 00 01 00 00 7F 00 00 01 00 00 00 00 00 9C 63
abbrev pub list_q : List ℕ
list_q = 77 ∷ 76 ∷ 80 ∷ 1 ∷ 0 ∷ 1 ∷ 0 ∷ 0 ∷ 127 ∷ 0 ∷ 0 ∷ 1 ∷ 0 ∷ 0 ∷ 0 ∷ 0 ∷ 0 ∷ 156 ∷ 99 ∷ []

-- the same in version 2, and example J's pass by eight neighbours
abbrev pub list_q2 : List ℕ
list_q2 =
    77 ∷ 76 ∷ 80 ∷ 2 ∷ 0 ∷ 1 ∷ 0
    ∷ 0 ∷ 127 ∷ 0 ∷ 0 ∷ 1 ∷ 0 ∷ 0 ∷ 0 ∷ 0 ∷ 0 ∷ 156 ∷ 99 ∷ 4 ∷ 0 ∷ 0 ∷ 0 ∷ []

abbrev pub list_j2 : List ℕ
list_j2 =
    77 ∷ 76 ∷ 80 ∷ 2 ∷ 0 ∷ 1 ∷ 0
    ∷ 0 ∷ 127 ∷ 0 ∷ 0 ∷ 1 ∷ 0 ∷ 0 ∷ 0 ∷ 0 ∷ 0 ∷ 156 ∷ 99 ∷ 8 ∷ 0 ∷ 0 ∷ 0 ∷ []

-- J's pass, then one whose interval is out of order
abbrev pub list_y2 : List ℕ
list_y2 =
    77 ∷ 76 ∷ 80 ∷ 2 ∷ 0 ∷ 2 ∷ 0
    ∷ 0 ∷ 127 ∷ 0 ∷ 0 ∷ 1 ∷ 0 ∷ 0 ∷ 0 ∷ 0 ∷ 0 ∷ 156 ∷ 99 ∷ 8 ∷ 0 ∷ 0 ∷ 0
    ∷ 9 ∷ 8 ∷ 0 ∷ 0 ∷ 1 ∷ 0 ∷ 0 ∷ 0 ∷ 0 ∷ 0 ∷ 156 ∷ 99 ∷ 4 ∷ 0 ∷ 0 ∷ 0 ∷ []

-- one pass of each rule, as a list
abbrev pub passes_w : List Pass
passes_w = on 0 127 1 any_ratio ∷ on 128 255 1 (Limited 10) ∷ on 0 255 1 (Affine 2 100 10000) ∷ []

abbrev pub list_w : List ℕ
list_w =
    77 ∷ 76 ∷ 80 ∷ 1 ∷ 0 ∷ 3 ∷ 0
    ∷ 0 ∷ 127 ∷ 0 ∷ 0 ∷ 1 ∷ 0 ∷ 0 ∷ 0 ∷ 0 ∷ 0 ∷ 156 ∷ 99
    ∷ 128 ∷ 255 ∷ 1 ∷ 0 ∷ 1 ∷ 0 ∷ 0 ∷ 0 ∷ 10 ∷ 0 ∷ 0 ∷ 0
    ∷ 0 ∷ 255 ∷ 2 ∷ 2 ∷ 1 ∷ 0 ∷ 0 ∷ 0 ∷ 100 ∷ 0 ∷ 16 ∷ 39 ∷ []

-- E's pass so many times
abbrev pub times_e : ℕ → List Pass
times_e n = map (λ j. on 0 127 1 any_ratio) (from 0 n)

-- so many passes get a number, 0 where they are not refused: in memory, in a file of either version, and to be
-- converted into an output of as many bytes as 1,024 passes would take
pub record Many (count number : ℕ) : Type 0 where
  pub in_memory : passes_refusal (times_e count) ≡ number
  pub in_file : (e : Edition) → list_refusal (encode e (times_e count)) ≡ number
  pub to_convert : (e : Edition) → convert_refusal (encode e (times_e count)) 16391 ≡ number

pub record Starred : Type 0 where
  -- every rule on its own, with its boundaries
  pub tones : ToneExamples
  pub passes : PassExamples
  pub eight : Eight
  pub extrema : ExtremaExamples
  pub parallel : ParallelExamples
  pub K : Enhancing grey_k (row 2) 0 20 any_ratio (128 ∷ 255 ∷ []) 1 0
  pub L : Enhancing grey_k (row 2) 1 1 any_ratio (192 ∷ 255 ∷ []) 2 0
  -- one value: kept back on both levels; on level 0 alone where its area is below the least
  pub flat : Enhancing grey_flat (row 2) 1 2 (Plain 80 300) (7 ∷ 7 ∷ []) 0 2
  pub flat_small : Enhancing grey_flat (row 2) 1 3 (Plain 80 300) (7 ∷ 7 ∷ []) 0 1
  -- the affine rule may retone one value, on both levels
  pub flat_affine : Enhancing grey_flat (row 2) 1 2 (Affine 1 0 10000) (255 ∷ 255 ∷ []) 2 0
  -- by eight neighbours 43 and 85, which level 0 leaves of 10 and 20, are one component of level 1
  pub J-four : Enhancing grey_j (shape_of 2 3) 1 2 any_ratio (43 ∷ 255 ∷ 255 ∷ 85 ∷ 255 ∷ 255 ∷ []) 1 1
  pub J-eight : EnhancingBy 8 grey_j (shape_of 2 3) 1 2 any_ratio (64 ∷ 255 ∷ 255 ∷ 127 ∷ 255 ∷ 255 ∷ []) 2 1
  -- K, L and M by components
  pub published : PublishedExamples
  pub N : recolour (200 ∷ 100 ∷ 0 ∷ []) (120 ∷ []) ≡ 240 ∷ 120 ∷ 0 ∷ []
  pub N' : recolour (200 ∷ 100 ∷ 0 ∷ []) (150 ∷ []) ≡ 255 ∷ 128 ∷ 0 ∷ []
  pub O : (j : ℕ) → recolour (0 ∷ 0 ∷ 1 ∷ []) (j ∷ []) ≡ 0 ∷ 0 ∷ 0 ∷ []
  -- the program writes the frame as it was read
  pub P : program_output file_p ≡ file_p
  -- comments are read as whitespace, and none is written
  pub P-commented : program_output commented_p ≡ file_p
  -- the list is that of E's pass, is not refused, and does E
  pub Q-is : encode First (on 0 127 1 any_ratio ∷ []) ≡ list_q
  pub Q-accepted : list_refusal list_q ≡ 0
  pub Q : run_effect (pass_neighbours (row 5)) (passes_of list_q) row_e
      ≡ record { plane = 64 ∷ 127 ∷ 200 ∷ 10 ∷ 10 ∷ []; retoned = 1; kept = 1 }
  -- in version 2 it does E too, by four neighbours, and J's does J by eight
  pub Q2-is : encode Second (on 0 127 1 any_ratio ∷ []) ≡ list_q2
  pub Q2-accepted : list_refusal list_q2 ≡ 0
  pub Q2 : run_effect (pass_neighbours (row 5)) (passes_of list_q2) row_e
      ≡ record { plane = 64 ∷ 127 ∷ 200 ∷ 10 ∷ 10 ∷ []; retoned = 1; kept = 1 }
  pub J2 : run_effect (pass_neighbours (shape_of 2 2)) (passes_of list_j2) plane_j
      ≡ record { plane = 64 ∷ 200 ∷ 200 ∷ 127 ∷ []; retoned = 1; kept = 0 }
  -- converted; 20, before 14 and after a later record's 5; 14
  pub Q-up : converted list_q ≡ list_q2
  pub Q-down : converted list_q2 ≡ list_q
  pub Q-accepts : convert_refusal list_q 23 ≡ 0
  pub Q-short : convert_refusal list_q 22 ≡ 14
  pub J-twenty : convert_refusal list_j2 0 ≡ 20
  pub Y-five : convert_refusal list_y2 0 ≡ 5
  -- up to 320 passes are a list, and 16 is given from 321 on
  pub many_319 : Many 319 0
  pub many_320 : Many 320 0
  pub many_321 : Many 321 16
  pub many_1024 : Many 1024 16
  -- a list of all three rules
  pub W-is : encode First passes_w ≡ list_w
  pub W-accepted : list_refusal list_w ≡ 0
  pub W : run_effect (pass_neighbours (row 5)) (passes_of list_w) row_e
      ≡ record { plane = 123 ∷ 184 ∷ 255 ∷ 19 ∷ 19 ∷ []; retoned = 3; kept = 1 }

-- ## The hypotheses of demand 3 can be met

-- the plane of the grey frame, over which example A's pass is called three times: with room and by eight neighbours,
-- with a queue that is too short, and with the ends of its interval exchanged; so every accepted call carries 8
pub record Demand3Met : Type 0 where
  pub filled : IntensityOutcome 2 1 grey_k (0 ∷ 0 ∷ []) (gives []) (10 ∷ 20 ∷ [])
  pub calls : Sequence (row 2) (10 ∷ 20 ∷ [])
      (call_on 2 2 (on_eight 0 255 1 any_ratio) ∷ call_on 2 1 (on 0 255 1 any_ratio)
      ∷ call_on 2 2 (on 255 0 1 any_ratio)
      ∷ [])
      (gives (1 ∷ 0 ∷ []) ∷ refuses 4 ∷ refuses 5 ∷ []) (128 ∷ 255 ∷ [])
  pub carry : AcceptedCarry 8
      (call_on 2 2 (on_eight 0 255 1 any_ratio) ∷ call_on 2 1 (on 0 255 1 any_ratio)
      ∷ call_on 2 2 (on 255 0 1 any_ratio)
      ∷ [])
      (gives (1 ∷ 0 ∷ []) ∷ refuses 4 ∷ refuses 5 ∷ [])

-- ## The hypotheses on sections in parallel can be met

-- calls of the dark and of the bright half from one plane, in both orders, with marks of several lengths; and the same
-- calls on two copies
pub record ParallelMet : Type 0 where
  pub calls : Sequence (row 4) row_h (call_on 4 4 dark ∷ call_on 5 4 bright ∷ [])
      (gives (1 ∷ 0 ∷ []) ∷ gives (1 ∷ 0 ∷ []) ∷ []) row_h'
  pub turned : Sequence (row 4) row_h (call_on 4 5 bright ∷ call_on 4 4 dark ∷ [])
      (gives (1 ∷ 0 ∷ []) ∷ gives (1 ∷ 0 ∷ []) ∷ []) row_h'
  pub accepted : AllAccepted (gives (1 ∷ 0 ∷ []) ∷ gives (1 ∷ 0 ∷ []) ∷ [])
  pub disjoint : PairwiseDisjoint (dark ∷ bright ∷ [])
  pub permuted : Permutation (passes_in (call_on 4 4 dark ∷ call_on 5 4 bright ∷ []))
      (passes_in (call_on 4 5 bright ∷ call_on 4 4 dark ∷ []))
  pub worked : Worked (row 4) row_h (dark_work ∷ bright_work ∷ [])
  pub work_passes_lem : work_passes (dark_work ∷ bright_work ∷ []) ≡ dark ∷ bright ∷ []
