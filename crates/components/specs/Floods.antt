-- The flood of a component. Marks and queue are named before and, with a prime, after. Definitions only.
--
--   Seen           one value more was counted and measured
--   Floodable      what a flood requires of marks and queue
--   Flooded        what a flood takes
--   region_values  the values of a component
--   Gauged         what a flood tells of them
--   FloodAsks      what `flood` requires
--   FloodGives     what `flood` does, by some neighbours
use Rattle.std.specs.Prelude.{ℕ, ◌+◌, ◌≤◌, ◌<◌, min, max, ◌≡◌, cond, List, [], map, length, set}
use Rattle.planes.specs.Lists.{at, from, keep, count}
use Rattle.planes.specs.Neighbours.{Near}
use Rattle.planes.specs.Enumerations.{Enumerates}
use Rattle.planes.specs.Shapes.{pixels}
use Rattle.planes.specs.declared.Shape.{Shape}
use Rattle.histograms.specs.Histograms.{Measured, Tally}
use Rattle.histograms.specs.declared.Measures.{Measures}
use Rattle.components.specs.Regions.{region}

-- the value v was counted, and taken into the measures
pub record Seen (v : ℕ) (c : Measures) (counts : List ℕ) (c' : Measures) (counts' : List ℕ) : Type 0 where
  pub size : c'.size ≡ c.size + 1
  pub least_is : c'.least ≡ min c.least v
  pub greatest_is : c'.greatest ≡ max c.greatest v
  pub counts_are : counts' ≡ set counts v (at counts v + 1)

-- marks and a queue for a plane, and a pixel of it that has the code
pub record Floodable (marks queue : List ℕ) (z : Shape) (code start : ℕ) : Type 0 where
  pub covered : pixels z ≤ length marks
  pub spare : pixels z ≤ length queue
  pub real : 1 ≤ code
  pub inside : start < pixels z
  pub has : at marks start ≡ code

-- the m first entries of the queue are the pixels of the component of `start`, each once; their marks are 0; all other
-- marks and entries, and both lengths, are what they were
pub record Flooded (near : Near) (n code start : ℕ) (marks queue marks' queue' : List ℕ) (m : ℕ) : Type 0 where
  pub size : m ≡ count (region near n marks code start) (from 0 n)
  pub enumerates : Enumerates queue' m n (region near n marks code start)
  pub marks_are : (p : ℕ) → at marks' p ≡ cond (region near n marks code start p) 0 (at marks p)
  pub rest : (k : ℕ) → m ≤ k → at queue' k ≡ at queue k
  pub marks_length : length marks' ≡ length marks
  pub queue_length : length queue' ≡ length queue

-- the values of the component of `start`, in reading order
unfoldable pub region_values : Near → ℕ → List ℕ → ℕ → ℕ → List ℕ → List ℕ
region_values near n marks code start plane = map (at plane) (keep (region near n marks code start) (from 0 n))

-- what a flood tells of the component of `start`: its number of pixels, its least and greatest value, and the counts
-- of its values
pub record Gauged (near : Near) (n code start : ℕ) (plane marks : List ℕ) (c : Measures) (counts' : List ℕ) : Type 0
  where
    pub measured : Measured (region_values near n marks code start plane) c
    pub tally : Tally (region_values near n marks code start plane) counts'

-- the plane is whole, and nothing was counted yet
abbrev pub FloodAsks : (plane marks queue counts : List ℕ) (z : Shape) (code start : ℕ) → Type 0
FloodAsks plane marks queue counts z code start =
    Floodable marks queue z code start × ((length plane ≡ pixels z) × Tally [] counts)

-- by these neighbours the component of `start` was taken, measured and counted
abbrev pub FloodGives : (near : Near) (n code start : ℕ) (plane marks queue marks' queue' counts' : List ℕ)
    (r : Measures) → Type 0
FloodGives near n code start plane marks queue marks' queue' counts' r =
    Flooded near n code start marks queue marks' queue' r.size × Gauged near n code start plane marks r counts'
