-- Every number of a refusal that the definitions give is that of a refusal of the code: `named`. Assumes nothing.
--
--   named                  each of the numbers 1 to 20 is that of a refusal
--   order_few, test_few    orders of such numbers, and tests, give no others
--   intensity_few, …       so do the orders of the calls
use Rattle.std.specs.Prelude.{ℕ, zero, suc, ◌+◌, ◌*◌, ◌<◌, ◌≤◌, ◌≡◌, Bool, true, false, not, ◌||◌, List, [], ◌∷◌}
use Rattle.std.specs.Prelude.{map, length, ltb, eqb}
use Rattle.std.proofs.Common.{refl, arith}
use lib.ListN.{get_or}
use borrow.Author.Tests.{eqb-true}
use Rattle.planes.specs.Lists.{from, every}
use Rattle.planes.specs.Refusals.{number, when, ◌▷◌, side_refusal, pixel_refusal, length_refusal, room_refusal}
use Rattle.planes.specs.Refusals.{bad_side, output_refusal, size_refusal, greatest_pixels}
use Rattle.planes.specs.Shapes.{pixels, shape_refusal, lent_refusal}
use Rattle.planes.specs.declared.Shape.{Shape}
use Rattle.planes.specs.declared.refusal.Refusal.{Refusal}
use Rattle.planes.specs.declared.refusal.Refusal.TheVariants.{Sides, Pixels, Length, Room, Interval, Area, Ratios}
use Rattle.planes.specs.declared.refusal.Refusal.TheVariants.{Clip, Level, Header, Maxval, Raster, Trailing, Output}
use Rattle.planes.specs.declared.refusal.Refusal.TheVariants.{Version, Count, Record, Slopes, Neighbours, NoPlace}
use Rattle.planes.proofs.Lists.{every_out}
use Rattle.tones.specs.declared.Rule.{Rule}
use Rattle.tones.specs.declared.Rule.TheVariants.{Plain, Limited, Affine}
use Rattle.tones.specs.declared.RuleNumbers.{RuleNumbers}
use Rattle.tones.specs.Refusals.{rule_refusal}
use Rattle.tones.specs.Numbers.{malformed, form_refusal}
use Rattle.colours.specs.Calls.{intensity_refusal, recolour_refusal}
use Rattle.texts.specs.Heading.{heading}
use Rattle.netpbm.specs.Writing.{write_refusal}
use Rattle.model.specs.declared.Pass.{Pass}
use Rattle.model.specs.Calls.{area_refusal, neighbour_refusal, numbers_refusal}
use Rattle.levels.specs.declared.Settings.{Settings}
use Rattle.levels.specs.Levels.{level_refusal, settings_refusal}
use Rattle.enhance.specs.Calls.{memory_refusal}
use Rattle.listformat.specs.declared.Edition.{Edition}
use Rattle.listformat.specs.declared.Edition.TheVariants.{First, Second}
use Rattle.listformat.specs.Format.{head_length, other, edition_of, count_of, record_start, passes_of, malformed_at}
use Rattle.listformat.specs.Format.{misnamed, miscounted, head_refusal, pass_at}
use Rattle.listchecks.specs.Refusals.{first_refusal, record_refusal, record_refusals, list_refusal, place_refusal}
use Rattle.listchecks.specs.Refusals.{places_refusal}
use Rattle.conversion.specs.Conversion.{converted, convert_refusal}
use Rattle.cnumbers.specs.Numbers.{counts_refusal}
use Rattle.capi.specs.Calls.{pass_refusal_of, list_refusal_of, enhance_refusal_of}

-- ## The numbers 1 to 20

all_refusals : List Refusal
all_refusals =
    Sides ∷ Pixels ∷ Length ∷ Room ∷ Interval ∷ Area ∷ Ratios ∷ Clip ∷ Level ∷ Header ∷ Maxval ∷ Raster ∷ Trailing
    ∷ Output ∷ Version ∷ Count ∷ Record ∷ Slopes ∷ Neighbours ∷ NoPlace ∷ []

in_place : ℕ → Bool
in_place i = eqb (number (get_or all_refusals i NoPlace)) (i + 1)

all_in_place : every in_place (from 0 20) ≡ true
unfolding in_place all_refusals
all_in_place = refl

pub named : (k : ℕ) → k < 20 → (r : Refusal) × (number r ≡ suc k)
unfolding in_place
named k h =
    let r = get_or all_refusals k NoPlace in
    (r, omega (arith, eqb-true (number r) (k + 1) (every_out in_place 20 all_in_place k h)))

-- ## Orders and tests

abbrev pub Few : ℕ → Type 0
Few x = x ≤ 20

pub order_few : (x y : ℕ) → Few x → Few y → Few (x ▷ y)
order_few zero y h k = k
order_few (suc x) y h k = h

pub test_few : (t : Bool) (k : ℕ) → Few k → Few (when t k)
test_few true k h = h
test_few false k h = omega arith

first_few : {A : Type 0} (f : A → ℕ) → ((x : A) → Few (f x)) → (xs : List A) → Few (first_refusal (map f xs))
first_few f each [] = omega arith
first_few f each (x ∷ xs) = order_few (f x) (first_refusal (map f xs)) (each x) (first_few f each xs)

-- ## The orders of the calls

size_few : (w h limit : ℕ) → Few (size_refusal w h limit)
unfolding size_refusal side_refusal pixel_refusal
size_few w h limit = order_few _ _ (test_few (bad_side w || bad_side h) 1 (omega arith))
    (test_few (ltb limit (w * h)) 2 (omega arith))

length_few : (size needed : ℕ) → Few (length_refusal size needed)
unfolding length_refusal
length_few size needed = test_few (not (eqb size needed)) 3 (omega arith)

room_few : (n marks queue : ℕ) → Few (room_refusal n marks queue)
unfolding room_refusal
room_few n marks queue = test_few (ltb marks n || ltb queue n) 4 (omega arith)

output_few : (output needed : ℕ) → Few (output_refusal output needed)
unfolding output_refusal
output_few output needed = test_few (ltb output needed) 14 (omega arith)

shape_few : (z : Shape) → Few (shape_refusal z)
unfolding shape_refusal side_refusal pixel_refusal
shape_few z = order_few _ _ (test_few (bad_side z.w || bad_side z.h) 1 (omega arith))
    (test_few (ltb greatest_pixels (pixels z)) 2 (omega arith))

lent_few : (z : Shape) (plane marks queue : ℕ) → Few (lent_refusal z plane marks queue)
unfolding lent_refusal
lent_few z plane marks queue =
    order_few _ _ (shape_few z)
    (order_few _ _ (length_few plane (pixels z)) (room_few (pixels z) marks queue))

pub intensity_few : (w h frame plane : ℕ) → Few (intensity_refusal w h frame plane)
unfolding intensity_refusal
intensity_few w h frame plane =
    order_few _ _ (size_few w h greatest_pixels)
    (order_few _ _ (length_few plane (w * h)) (length_few frame (3 * (w * h))))

pub recolour_few : (w h frame plane output : ℕ) → Few (recolour_refusal w h frame plane output)
unfolding recolour_refusal
recolour_few w h frame plane output =
    order_few _ _ (size_few w h greatest_pixels)
    (order_few _ _ (length_few plane (w * h))
    (order_few _ _ (length_few frame (3 * (w * h))) (output_few output (3 * (w * h)))))

pub write_few : (w h raster output : ℕ) → Few (write_refusal w h raster output)
unfolding write_refusal
write_few w h raster output =
    order_few _ _ (size_few w h greatest_pixels)
    (order_few _ _ (length_few raster (3 * (w * h))) (output_few output (length (heading w h) + raster)))

area_few : (area : ℕ) → Few (area_refusal area)
unfolding area_refusal
area_few area = test_few (eqb area 0 || ltb greatest_pixels area) 6 (omega arith)

rule_few : (r : Rule) → Few (rule_refusal r)
unfolding rule_refusal
rule_few (Plain low high) = test_few (ltb high low || ltb 25500 high) 7 (omega arith)
rule_few (Limited k) = test_few (ltb 1000 k) 8 (omega arith)
rule_few (Affine segments smin smax) =
    test_few (eqb segments 0 || ltb 16 segments || ltb smax smin || ltb 10000 smax) 18 (omega arith)

neighbour_few : (k : ℕ) → Few (neighbour_refusal k)
unfolding neighbour_refusal
neighbour_few k = test_few (not (eqb k 4 || eqb k 8)) 19 (omega arith)

numbers_few : (s : Pass) → Few (numbers_refusal s)
unfolding numbers_refusal
numbers_few s =
    order_few _ _ (test_few (ltb s.b s.a) 5 (omega arith))
    (order_few _ _ (area_few s.area) (order_few _ _ (rule_few s.rule) (neighbour_few s.neighbours)))

form_few : (n : RuleNumbers) → Few (form_refusal n)
form_few n = test_few (malformed n) 17 (omega arith)

counts_few : (lent : ℕ) → Few (counts_refusal lent)
counts_few lent = test_few (ltb lent 2) 14 (omega arith)

pub pass_few : (z : Shape) (n : RuleNumbers) (s : Pass) (plane marks queue numbers : List ℕ)
    → Few (pass_refusal_of z n s plane marks queue numbers)
unfolding pass_refusal_of
pass_few z n s plane marks queue numbers =
    order_few _ _ (lent_few z (length plane) (length marks) (length queue))
    (order_few _ _ (form_few n) (order_few _ _ (numbers_few s) (counts_few (length numbers))))

head_few : (bs : List ℕ) → Few (head_refusal bs)
unfolding head_refusal
head_few bs =
    order_few _ _ (test_few (ltb (length bs) head_length) 16 (omega arith))
    (order_few _ _ (test_few (misnamed bs) 15 (omega arith)) (test_few (miscounted bs) 16 (omega arith)))

record_few : (e : Edition) (bs : List ℕ) (i : ℕ) → Few (record_refusal e bs i)
unfolding record_refusal
record_few e bs i =
    order_few _ _ (test_few (malformed_at e bs i) 17 (omega arith)) (numbers_few (pass_at e bs i))

list_few : (bs : List ℕ) → Few (list_refusal bs)
unfolding list_refusal record_refusals
list_few bs =
    order_few _ _ (head_few bs)
    (first_few (λ j. record_refusal (edition_of bs) bs (record_start (edition_of bs) j))
    (λ j. record_few (edition_of bs) bs (record_start (edition_of bs) j)) (from 0 (count_of bs)))

pub run_list_few : (z : Shape) (list plane marks queue numbers : List ℕ)
    → Few (list_refusal_of z list plane marks queue numbers)
run_list_few z list plane marks queue numbers =
    order_few _ _ (order_few _ _ (lent_few z (length plane) (length marks) (length queue)) (list_few list))
    (counts_few (length numbers))

place_few : (e : Edition) (s : Pass) → Few (place_refusal e s)
place_few First s = test_few (eqb s.neighbours 8) 20 (omega arith)
place_few Second s = omega arith

pub convert_few : (bs : List ℕ) (output : ℕ) → Few (convert_refusal bs output)
unfolding convert_refusal places_refusal
convert_few bs output =
    order_few _ _ (list_few bs)
    (order_few _ _
    (first_few (place_refusal (other (edition_of bs))) (place_few (other (edition_of bs))) (passes_of bs))
    (output_few output (length (converted bs))))

settings_few : (t : Settings) → Few (settings_refusal t)
unfolding settings_refusal level_refusal
settings_few t =
    order_few _ _ (test_few (ltb 7 t.last) 9 (omega arith))
    (order_few _ _ (area_few t.area) (order_few _ _ (rule_few t.rule) (neighbour_few t.neighbours)))

memory_few : (z : Shape) (frame plane marks queue output : ℕ) → Few (memory_refusal z frame plane marks queue output)
unfolding memory_refusal
memory_few z frame plane marks queue output =
    order_few _ _ (shape_few z)
    (order_few _ _ (length_few plane (pixels z))
    (order_few _ _ (length_few frame (3 * pixels z))
    (order_few _ _ (room_few (pixels z) marks queue) (output_few output (3 * pixels z)))))

pub enhance_few : (z : Shape) (n : RuleNumbers) (t : Settings) (frame plane marks queue output numbers : List ℕ)
    → Few (enhance_refusal_of z n t frame plane marks queue output numbers)
unfolding enhance_refusal_of
enhance_few z n t frame plane marks queue output numbers =
    order_few _ _
    (memory_few z (length frame) (length plane) (length marks) (length queue) (length output))
    (order_few _ _ (form_few n) (order_few _ _ (settings_few t) (counts_few (length numbers))))
