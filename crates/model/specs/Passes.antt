-- A section pass, as functions that compute, over any neighbour relation. Definitions only.
--
--   within           a value is in the section [a, b] of a pass
--   inside           neighbours that are both in the section; the pixels linked by it are the section's components
--   component_values  the values of a pixel's component, in reading order
--   sufficient       a component with these values has at least the least area
--   changes          it is retoned: its area is sufficient, and it is not kept back
--   kept_back         it is kept back, though its area is sufficient
--   passed           the plane after the pass
--   component_count   the number of components whose values pass a test, each counted at its first pixel
--   pass_count, pass_kept, pass_sufficient   of those that are retoned, that are kept back, that have a sufficient area
use Rattle.std.specs.Prelude.{ℕ, Bool, not, ◌&&◌, cond, List, map, length, leb}
use Rattle.planes.specs.Lists.{from, count, at}
use Rattle.planes.specs.Neighbours.{Near, component, first}
use Rattle.tones.specs.Tones.{tone, kept}
use Rattle.model.specs.declared.Pass.{Pass}

abbrev pub within : Pass → ℕ → Bool
within s v = leb s.a v && leb v s.b

unfoldable pub inside : Near → Pass → List ℕ → Near
inside near s p i j = within s (at p i) && within s (at p j) && near i j

unfoldable pub component_values : Near → Pass → List ℕ → ℕ → List ℕ
component_values near s p i = map (at p) (component (length p) (inside near s p) i)

abbrev pub sufficient : Pass → List ℕ → Bool
sufficient s vs = leb s.area (length vs)

unfoldable pub changes : Pass → List ℕ → Bool
changes s vs = sufficient s vs && not (kept s.rule s.a s.b vs)

unfoldable pub kept_back : Pass → List ℕ → Bool
kept_back s vs = sufficient s vs && kept s.rule s.a s.b vs

-- what the value v becomes in a component that has the values vs
unfoldable pub retone : Pass → List ℕ → ℕ → ℕ
retone s vs v = cond (changes s vs) (tone s.rule s.a s.b vs v) v

-- what pixel i becomes
unfoldable pub new_tone : Near → Pass → List ℕ → ℕ → ℕ
new_tone near s p i = cond (within s (at p i)) (retone s (component_values near s p i) (at p i)) (at p i)

unfoldable pub passed : Near → Pass → List ℕ → List ℕ
passed near s p = map (new_tone near s p) (from 0 (length p))

-- ## Counts

-- pixel i is the first of a component whose values pass the test
abbrev pub counted : (List ℕ → Bool) → Near → Pass → List ℕ → ℕ → Bool
counted f near s p i = within s (at p i) && f (component_values near s p i) && first (length p) (inside near s p) i

unfoldable pub component_count : (List ℕ → Bool) → Near → Pass → List ℕ → ℕ
component_count f near s p = count (counted f near s p) (from 0 (length p))

abbrev pub pass_count : Near → Pass → List ℕ → ℕ
pass_count near s = component_count (changes s) near s

abbrev pub pass_kept : Near → Pass → List ℕ → ℕ
pass_kept near s = component_count (kept_back s) near s

abbrev pub pass_sufficient : Near → Pass → List ℕ → ℕ
pass_sufficient near s = component_count (sufficient s) near s
