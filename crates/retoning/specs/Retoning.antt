-- The treatment of one component, found and measured: it is retoned, kept back or left alone, and given its next marks.
-- Definitions only.
--
--   small     a component below the least area: no pass with this area changes it
--   inert     a component that neither the pass nor any later one on a part of its section changes
--   leaves    an inert component of sufficient area: every one of these passes keeps it back
--   Toned     what becomes of its values
--   Done      what becomes of it, marks and all
--   DoneBy    the same, by any list of its values
--   alone_by  what is told of an inert one
--   untold    what is told of none
--   together  what is told of some and others
use Rattle.std.specs.Prelude.{ℕ, ◌+◌, ◌<◌, ◌≡◌, Bool, false, cond, ◌&&◌, ◌||◌, List, length, ltb}
use Rattle.planes.specs.Lists.{at}
use Rattle.histograms.specs.declared.Measures.{Measures}
use Rattle.histograms.specs.Histograms.{values, Alike, Outside}
use Rattle.tones.specs.Lone.{lone}
use Rattle.model.specs.declared.Pass.{Pass}
use Rattle.model.specs.Passes.{sufficient, changes, kept_back, retone}
use Rattle.painting.specs.declared.Next.{Next}
use Rattle.painting.specs.Painting.{number, no_sides, joined, On, Clear}
use Rattle.retoning.specs.declared.Treatment.{Treatment}

-- a component with the values vs is too small for the pass
unfoldable pub small : Pass → List ℕ → Bool
small s vs = ltb (length vs) s.area

-- too small, or lone under its rule
unfoldable pub inert : Pass → List ℕ → Bool
inert s vs = small s vs || lone s.rule vs

-- it has the least area, and is lone under its rule
unfoldable pub leaves : Pass → List ℕ → Bool
leaves s vs = sufficient s vs && lone s.rule vs

-- a component of the queue's first m pixels that has the values vs
pub record Toned (s : Pass) (vs plane queue plane' : List ℕ) (m : ℕ) : Type 0 where
  pub size : length plane' ≡ length plane
  pub drawn : (i : ℕ) → i < m → at plane' (at queue i) ≡ retone s vs (at plane (at queue i))
  pub stays : (p : ℕ) → ((i : ℕ) → i < m → at queue i ≡ p → ⊥) → at plane' p ≡ at plane p

-- 1 where a test holds, else 0
abbrev pub one_if : Bool → ℕ
one_if t = cond t 1 0

-- the same; it counts where it is retoned, where it is kept back, and where it leaves; and its pixels have their next
-- marks, unless it is inert
pub record Done (s : Pass) (t : Next) (vs plane marks queue plane' marks' : List ℕ) (m : ℕ) (r : Treatment)
    : Type 0 where
  pub toned : Toned s vs plane queue plane' m
  pub retones : r.retoned ≡ one_if (changes s vs)
  pub keeps : r.kept ≡ one_if (kept_back s vs)
  pub leaves_it : r.left ≡ one_if (leaves s vs)
  pub size : length marks' ≡ length marks
  pub drawn : (i : ℕ) → i < m
      → at marks' (at queue i) ≡ cond (inert s vs) (at marks (at queue i)) (number t (at plane' (at queue i)))
  pub stays : (p : ℕ) → ((i : ℕ) → i < m → at queue i ≡ p → ⊥) → at marks' p ≡ at marks p
  pub none : (side : Bool) → Clear side r.sides → inert s vs ≡ false
      → (i : ℕ) → i < m → On t side (at plane' (at queue i)) → ⊥

-- the same for every list of the component's values; of the counts, only those of its values may have changed
pub record DoneBy (s : Pass) (t : Next) (c : Measures) (plane marks queue counts plane' marks' counts' : List ℕ)
    (r : Treatment) : Type 0 where
  pub done : (vs : List ℕ) → Alike vs (values plane queue c.size)
      → Done s t vs plane marks queue plane' marks' c.size r
  pub counts_rest : Outside c.least c.greatest counts counts'

-- what is told of no component, and of some and others
abbrev pub untold : Treatment
untold = record { retoned = 0; kept = 0; left = 0; sides = no_sides }

abbrev pub together : Treatment → Treatment → Treatment
together q r = record {
  retoned = q.retoned + r.retoned;
  kept = q.kept + r.kept;
  left = q.left + r.left;
  sides = joined q.sides r.sides;
}

-- what is told of an inert component that is too small, and of one that is not
abbrev pub alone_by : Bool → Treatment
alone_by few = record { retoned = 0; kept = cond few 0 1; left = cond few 0 1; sides = no_sides }
