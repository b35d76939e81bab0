-- Branches, sections with the levels below them, by numbers in the marks. A pixel's mark is the number of the section
-- that is due for it, and 0 where none is: those of an inert component are not entered again. Definitions only.
--
--   lower_half, upper_half
--              the branches of a section's halves
--   pass_on    the pass on a section
--   Ready      a plane with room for it, and settings that are not refused
--   Due        a section is due
--   Halves     a section is treated, and its halves are due
--   Apart      what a branch leaves of plane and marks
--   gone_on    the components of sufficient area that left before a section was due
--   owing      an effect with more components that were kept back
--   all_told   the counts of a section, with those of the components that leave on the levels below
--   Equalised  what `equalise` does, in terms of the model's recursion
--   Halved     what `split` does
use Rattle.std.specs.Prelude.{ℕ, suc, ◌+◌, ◌-◌, ◌*◌, ◌/◌, ◌^◌, ◌≤◌, ◌<◌, ◌≡◌, ◌⊎◌, Bool, false, List, ◌++◌}
use Rattle.planes.specs.Lists.{at, Beyond}
use Rattle.planes.specs.Shapes.{pixels, Lent}
use Rattle.planes.specs.declared.Shape.{Shape}
use Rattle.rows.specs.Stretches.{None}
use Rattle.model.specs.declared.Pass.{Pass}
use Rattle.model.specs.Neighbourhoods.{pass_neighbours}
use Rattle.model.specs.declared.Counts.{Counts}
use Rattle.model.specs.Effects.{Effect, run_effect}
use Rattle.model.specs.Outcomes.{came}
use Rattle.model.specs.Enhancement.{deep}
use Rattle.sections.specs.Sections.{gone, Coded}
use Rattle.retoning.specs.declared.Treatment.{Treatment}
use Rattle.levels.specs.Levels.{Wide, Numbered, Away}
use Rattle.levels.specs.declared.Settings.{Settings}
use Rattle.branches.specs.declared.Branch.{Branch}

-- ## Sections

-- the section's values up to the middle, and those above it; of its branch's numbers but its own, the first half and
-- the second
abbrev pub lower_half : Branch → Branch
lower_half s = record { a = s.a; b = (s.a + s.b) / 2; code = s.code + 1; span = (s.span - 1) / 2 }

abbrev pub upper_half : Branch → Branch
upper_half s = record {
  a = (s.a + s.b) / 2 + 1;
  b = s.b;
  code = s.code + 1 + (s.span - 1) / 2;
  span = (s.span - 1) / 2;
}

-- the pass on [a, b]
abbrev pub pass_on : Settings → ℕ → ℕ → Pass
pass_on t a b = record { a = a; b = b; area = t.area; rule = t.rule; neighbours = t.neighbours }

-- a plane of the shape with room for it, and settings whose last level and area are not refused
pub record Ready (z : Shape) (plane marks queue : ℕ) (t : Settings) : Type 0 where
  pub lent : Lent z plane marks queue
  pub last : t.last ≤ 7
  pub area : 1 ≤ t.area

-- the pixels of a section of the settings have the code, but for inert components
abbrev pub CodedOn : (z : Shape) (t : Settings) (a b code : ℕ) (plane marks : List ℕ) → Type 0
CodedOn z t a b code = Coded (pass_neighbours z (pass_on t a b)) (pixels z) code (pass_on t a b)

-- the section's pixels have its number, but for inert components, and no pixel has another one of its branch; where the
-- section is not due, no pixel has its number either
pub record Due (z : Shape) (a b code span : ℕ) (due : Bool) (t : Settings) (plane marks : List ℕ) : Type 0 where
  pub d : ℕ
  pub numbered : Numbered t.last a b d code span
  pub coded : CodedOn z t a b code plane marks
  pub marks_are : (p : ℕ) → p < pixels z → (at marks p ≡ code) ⊎ Away code span (at marks p)
  pub found : due ≡ false → None marks code 0 (pixels z)

-- the same of both halves of a section
pub record Halves (z : Shape) (a b code span : ℕ) (lows highs : Bool) (t : Settings) (plane marks : List ℕ)
    : Type 0 where
  pub d : ℕ
  pub numbered : Numbered t.last a b (suc d) code span
  pub low : CodedOn z t a ((a + b) / 2) (code + 1) plane marks
  pub high : CodedOn z t ((a + b) / 2 + 1) b (code + 1 + (span - 1) / 2) plane marks
  pub marks_are : (p : ℕ) → p < pixels z
      → ((at marks p ≡ code + 1) ⊎ (at marks p ≡ code + 1 + (span - 1) / 2)) ⊎ Away code span (at marks p)
  pub low_found : lows ≡ false → None marks (code + 1) 0 (pixels z)
  pub high_found : highs ≡ false → None marks (code + 1 + (span - 1) / 2) 0 (pixels z)

-- ## What a branch leaves

-- values stay in the section, and outside it as they are; the branch's numbers become 0, and other marks stay
pub record Apart (n a b code span : ℕ) (plane marks plane' marks' : List ℕ) : Type 0 where
  pub inside : (p : ℕ) → p < n → a ≤ at plane p → at plane p ≤ b → (a ≤ at plane' p) × (at plane' p ≤ b)
  pub outside : (p : ℕ) → p < n → (at plane p < a) ⊎ (b < at plane p) → at plane' p ≡ at plane p
  pub cleared : (p : ℕ) → p < n → code ≤ at marks p → at marks p < code + span → at marks' p ≡ 0
  pub stays : (p : ℕ) → p < n → Away code span (at marks p) → at marks' p ≡ at marks p

-- marks and queue keep their lengths and all entries from n on
pub record Rest (n : ℕ) (marks queue marks' queue' : List ℕ) : Type 0 where
  pub marks_rest : Beyond n marks marks'
  pub queue_rest : Beyond n queue queue'

-- components of sufficient area of a section that have not its number: they left before, and were counted for all
-- levels down to the last
abbrev pub gone_on : (z : Shape) (t : Settings) (a b code : ℕ) (plane marks : List ℕ) → ℕ
gone_on z t a b code = gone (pass_neighbours z (pass_on t a b)) (pixels z) code (pass_on t a b)

-- an effect with as many more components that were kept back
abbrev pub owing : ℕ → Effect → Effect
owing j e = record { plane = e.plane; retoned = e.retoned; kept = e.kept + j }

-- what is told of a section's components, with x levels below it: a component that leaves is kept back on these too
abbrev pub all_told : ℕ → Treatment → Counts
all_told x r = record { retoned = r.retoned; kept = r.kept + x * r.left }

-- a section with the d levels below it: each component that left before is kept back on all d + 1 levels
pub record Equalised (z : Shape) (a b code span : ℕ) (t : Settings) (plane marks queue plane' marks' queue' : List ℕ)
    (r : Counts) : Type 0 where
  pub model : (d k : ℕ) → Wide t.last a b d k
      → owing ((d + 1) * gone_on z t a b code plane marks) (came plane' r)
      ≡ run_effect (pass_neighbours z) (deep k t.area t.rule t.neighbours d a) plane
  pub apart : Apart (pixels z) a b code span plane marks plane' marks'
  pub rest : Rest (pixels z) marks queue marks' queue'

-- components that left before either half was due
abbrev pub gone_below : (z : Shape) (t : Settings) (a b code span : ℕ) (plane marks : List ℕ) → ℕ
gone_below z t a b code span plane marks =
    gone_on z t a ((a + b) / 2) (code + 1) plane marks
    + gone_on z t ((a + b) / 2 + 1) b (code + 1 + (span - 1) / 2) plane marks

-- both halves with the d levels below them
pub record Halved (z : Shape) (a b code span : ℕ) (t : Settings) (plane marks queue plane' marks' queue' : List ℕ)
    (r : Counts) : Type 0 where
  pub model : (d k : ℕ) → Wide t.last a b (suc d) k
      → owing ((d + 1) * gone_below z t a b code span plane marks) (came plane' r)
      ≡ (let half = deep k t.area t.rule t.neighbours d in
      run_effect (pass_neighbours z) (half a ++ half (a + 2 ^ (d + k))) plane)
  pub apart : Apart (pixels z) a b code span plane marks plane' marks'
  pub rest : Rest (pixels z) marks queue marks' queue'
