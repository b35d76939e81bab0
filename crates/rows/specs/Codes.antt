-- Pixels whose marks have one code, over any neighbour relation. Definitions only.
--
--   coded    a pixel has the code, as a test
--   alike    neighbours that both have the code
--   Joined   a chain of neighbours that have the code leads from one pixel to another
--   Shut     no neighbour of a pixel has the code
use Rattle.std.specs.Prelude.{ℕ, ◌≡◌, Bool, true, ◌&&◌, List, eqb}
use Rattle.planes.specs.Lists.{at}
use Rattle.planes.specs.Neighbours.{Near, Chain}

abbrev pub coded : List ℕ → ℕ → ℕ → Bool
coded marks code p = eqb (at marks p) code

unfoldable pub alike : Near → List ℕ → ℕ → Near
alike near marks code i j = eqb (at marks i) code && eqb (at marks j) code && near i j

-- p has the code, and a chain of neighbours that have it leads from p to q, of n pixels
pub record Joined (near : Near) (n : ℕ) (marks : List ℕ) (code p q : ℕ) : Type 0 where
  pub has : at marks p ≡ code
  pub chain : Chain (alike near marks code) n p q

abbrev pub Shut : Near → ℕ → List ℕ → ℕ → Type 0
Shut near code marks p = (x : ℕ) → near p x ≡ true → at marks x ≡ code → ⊥
