-- The search for the next pixel that has a code. Definitions only.
--
--   Searchable   what a search requires: marks of a plane, and a pixel of it or its end
--   FirstFrom    a pixel is the first from one on that has the code
--   found_reply  the reply of each case of what a search finds
--   NextPixel    what a search promises of its reply
use Rattle.std.specs.Prelude.{ℕ, ◌≤◌, ◌<◌, ◌≡◌, List, [], ◌∷◌, length, Option, Some, None as Nothing}
use Rattle.planes.specs.Lists.{at}
use Rattle.planes.specs.Shapes.{pixels}
use Rattle.planes.specs.Replies.{Reply, refuses, gives}
use Rattle.planes.specs.declared.Shape.{Shape}
use Rattle.rows.specs.Stretches.{None}

-- a mark for each pixel of a plane, and a pixel of it or one past the last
pub record Searchable (marks : List ℕ) (z : Shape) (from : ℕ) : Type 0 where
  pub covered : pixels z ≤ length marks
  pub inside : from ≤ pixels z

-- p is the first pixel from `low` on, of n, that has the code
pub record FirstFrom (marks : List ℕ) (code low n p : ℕ) : Type 0 where
  pub past : low ≤ p
  pub below : p < n
  pub has : at marks p ≡ code
  pub none : None marks code low p

-- the pixel that is found is the one value; where nothing is found there is none, and no case refuses
abbrev pub found_reply : Option ℕ → Reply
found_reply (Some p) = gives (p ∷ [])
found_reply Nothing = gives []

-- the first pixel from `low` on, of n, that has the code, or that there is none
abbrev pub NextPixel : List ℕ → ℕ → ℕ → ℕ → Reply → Type 0
NextPixel marks code low n (refuses k) = ⊥
NextPixel marks code low n (gives []) = None marks code low n
NextPixel marks code low n (gives (p ∷ [])) = FirstFrom marks code low n p
NextPixel marks code low n (gives (p ∷ q ∷ rest)) = ⊥
