-- Regional maxima and minima: largest connected sets of one value whose outside neighbours are all lower, or all
-- higher. A constant plane is both. Definitions only.
--
--   flat            neighbours of one value; the pixels linked by it to one are its flat zone
--   extreme         a pixel's flat zone is a regional maximum (over ltb) or minimum (over gtb)
--   maxima, minima  how many there are, each counted at its first pixel
--   Contains        a regional extremum of p lies whole in the flat zone of a pixel of q
use Rattle.std.specs.Prelude.{ℕ, ◌<◌, ◌≡◌, Bool, true, not, ◌&&◌, ◌||◌, List, length, ltb, eqb}
use Rattle.planes.specs.Lists.{from, every, count, at}
use Rattle.planes.specs.Neighbours.{Near, linked, first}

unfoldable pub flat : Near → List ℕ → Near
flat near p i j = eqb (at p i) (at p j) && near i j

abbrev pub implies : Bool → Bool → Bool
implies s t = not s || t

abbrev pub gtb : ℕ → ℕ → Bool
gtb x y = ltb y x

-- every pixel k outside i's flat zone that is next to a pixel j of it is lower (higher, for minima)
unfoldable pub extreme : (ℕ → ℕ → Bool) → Near → List ℕ → ℕ → Bool
extreme lower near p i =
    let zone = linked (flat near p) (length p) i in
    let pixels = from 0 (length p) in
    every (λ j. every (λ k. implies (zone j && near j k && not (zone k)) (lower (at p k) (at p i))) pixels) pixels

unfoldable pub extremes : (ℕ → ℕ → Bool) → Near → List ℕ → ℕ
extremes lower near p = count (λ i. extreme lower near p i && first (length p) (flat near p) i) (from 0 (length p))

abbrev pub maxima : Near → List ℕ → ℕ
maxima = extremes ltb

abbrev pub minima : Near → List ℕ → ℕ
minima = extremes gtb

-- a pixel whose whole flat zone in p is a regional extremum of p and lies in the flat zone of i in q
pub record Contains (lower : ℕ → ℕ → Bool) (near : Near) (p q : List ℕ) (i : ℕ) : Type 0 where
  pub pixel : ℕ
  pub within : pixel < length p
  pub extremal : extreme lower near p pixel ≡ true
  pub held : (x : ℕ) → x < length p → linked (flat near p) (length p) pixel x ≡ true
      → linked (flat near q) (length p) i x ≡ true
