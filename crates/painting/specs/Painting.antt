-- Marks of a section's pixels, and the painting of a component. Definitions only.
--
--   Marked      a section's pixels are marked with 1
--   number      the next mark of a pixel, by its value
--   Listed      the first entries of a queue are pixels that have marks
--   no_sides    no pixel is on a side of the middle
--   joined      the sides of the middle of pixels and of others
--   On, Clear   the side of the middle that a value is on, and that no pixel is on a side
--   Painted     listed pixels have new values, and their next marks
use Rattle.std.specs.Prelude.{ℕ, ◌<◌, ◌≡◌, Bool, false, cond, ◌||◌, List, length, leb}
use Rattle.planes.specs.Lists.{at, Beyond}
use Rattle.histograms.specs.Histograms.{Pixels}
use Rattle.model.specs.declared.Pass.{Pass}
use Rattle.model.specs.Passes.{within}
use Rattle.painting.specs.declared.Next.{Next}
use Rattle.painting.specs.declared.Sides.{Sides}

-- ## Marks

-- of the first k pixels, whose values are bytes, those of the section are marked with 1 and the others with 0; the
-- other marks are as they were
pub record Marked (s : Pass) (plane marks marks' : List ℕ) (k : ℕ) : Type 0 where
  pub bytes : (p : ℕ) → p < k → at plane p < 256
  pub drawn : (p : ℕ) → p < k → at marks' p ≡ cond (within s (at plane p)) 1 0
  pub rest : Beyond k marks marks'

-- the next mark of a pixel of value v: `low` up to `mid`, `high` above
abbrev pub number : Next → ℕ → ℕ
number t v = cond (leb v t.mid) t.low t.high

-- the first m entries of the queue are pixels of the plane, and each of them has a mark
pub record Listed (marks plane queue : List ℕ) (m : ℕ) : Type 0 where
  pub pixels : Pixels plane queue m
  pub marked : (i : ℕ) → i < m → at queue i < length marks

-- ## Sides of the middle

-- v is on a side of the middle: true for the values up to it, false for those above
abbrev pub On : Next → Bool → ℕ → Type 0
On t side v = leb v t.mid ≡ side

-- no pixel is on a side
abbrev pub no_sides : Sides
no_sides = record { low = false; high = false }

-- what pixels have that are told of by either
abbrev pub joined : Sides → Sides → Sides
joined r r' = record { low = r.low || r'.low; high = r.high || r'.high }

-- the flags of the sides say that none of some pixels is on this one
abbrev pub Clear : Bool → Sides → Type 0
Clear side s = cond side s.low s.high ≡ false

-- the queue's first m pixels have the values of f and their next marks, and the flags tell of the sides that these
-- values are on; all other pixels are as they were
pub record Painted (f : ℕ → ℕ) (t : Next) (plane marks queue plane' marks' : List ℕ) (m : ℕ) (r : Sides)
    : Type 0 where
  pub size : length plane' ≡ length plane
  pub marks_size : length marks' ≡ length marks
  pub drawn : (i : ℕ) → i < m → at plane' (at queue i) ≡ f (at plane (at queue i))
  pub numbered : (i : ℕ) → i < m → at marks' (at queue i) ≡ number t (f (at plane (at queue i)))
  pub stays : (p : ℕ) → ((i : ℕ) → i < m → at queue i ≡ p → ⊥)
      → (at plane' p ≡ at plane p) × (at marks' p ≡ at marks p)
  pub none : (side : Bool) → Clear side r → (i : ℕ) → i < m → On t side (f (at plane (at queue i))) → ⊥
