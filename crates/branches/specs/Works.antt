-- Branches in the memory that a run works on. Definitions only.
--
--   Usable        settings that are not refused
--   DueIn         a section is due
--   HalvesIn      a section is treated, and its halves are due
--   EqualisedIn   what `equalise` does
--   HalvedIn      what `split` does
use Rattle.std.specs.Prelude.{◌≤◌, Bool}
use Rattle.model.specs.declared.Counts.{Counts}
use Rattle.painting.specs.declared.Sides.{Sides}
use Rattle.levels.specs.declared.Settings.{Settings}
use Rattle.works.specs.declared.Work.{Work}
use Rattle.works.specs.Works.{Same}
use Rattle.branches.specs.declared.Branch.{Branch}
use Rattle.branches.specs.Branches.{Due, Halves, Equalised, Halved}

-- the last level and the area are not refused
pub record Usable (t : Settings) : Type 0 where
  pub last : t.last ≤ 7
  pub area : 1 ≤ t.area

abbrev pub DueIn : Work → Branch → Bool → Settings → Type 0
DueIn s b due t = Due s.shape b.a b.b b.code b.span due t s.plane.now s.marks.now

abbrev pub HalvesIn : Work → Branch → Sides → Settings → Type 0
HalvesIn s b on t = Halves s.shape b.a b.b b.code b.span on.low on.high t s.plane.now s.marks.now

-- the same memory, in which the section with the levels below it has been treated
pub record EqualisedIn (b : Branch) (t : Settings) (s u : Work) (r : Counts) : Type 0 where
  pub same : Same s u
  pub done : Equalised s.shape b.a b.b b.code b.span t s.plane.now s.marks.now s.queue.now
      u.plane.now u.marks.now u.queue.now r

-- the same of both halves
pub record HalvedIn (b : Branch) (t : Settings) (s u : Work) (r : Counts) : Type 0 where
  pub same : Same s u
  pub done : Halved s.shape b.a b.b b.code b.span t s.plane.now s.marks.now s.queue.now
      u.plane.now u.marks.now u.queue.now r
