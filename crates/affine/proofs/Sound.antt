-- The piecewise affine rule is sound: on [a, b] it never falls, and it stays in [a, b]. The places and the heights of
-- the points never fall; a line's tones lie between those of its ends. Assumes nothing.
use Prim.Native.Nat.{ℕ, zero, suc, ◌+◌, ◌-◌, ◌*◌, ◌≤◌, ◌<◌}
use mathlib.Core.Path.{◌≡◌, sym, ap, ◌∙◌}
use mathlib.Core.Logic.{⊎_elim}
use mathlib.Core.Bool.{Bool, cond}
use mathlib.Core.List.{List, ◌∷◌}
use native.Mathlib.Nat.{le_refl, le_trans, le_of_eq, div-zero, zero-mul, mul-le-mul_left, mul-pos}
use native.Mathlib.Nat.{add-mul, add-sub_of_le}
use native.Mathlib.Omega.{arith}
use lib.Ieee.Nearest.{div_mono}
use lib.ListN.{length}
use borrow.Author.Tests.{le-leb, lt-leb}
use Rattle.planes.proofs.Tests.{less_or_not}
use Rattle.planes.specs.Rounding.{rounded}
use Rattle.histograms.specs.Values.{scaled}
use Rattle.histograms.specs.Sound.{Sound}
use Rattle.histograms.proofs.Scaled.{scaled_mono, scaled_above, scaled_below}
use Rattle.points.specs.declared.Slopes.{Slopes}
use Rattle.points.specs.declared.Point.{Point}
use Rattle.points.specs.Points.{top_of, up_to}
use Rattle.points.proofs.Rising.{Rising, last, more, top_high, all_rise}
use Rattle.affine.specs.Affine.{line_tone, joined, affine_top, affine_tone}

-- ## Parts of different wholes

-- a part of nothing is none
scaled_zero : (a b x : ℕ) → scaled a b x 0 ≡ a
scaled_zero a b x = omega (arith, div-zero (2 * ((b - a) * x) + 0))

rounded_cross : (x m y k : ℕ) → 0 < m → 0 < k → x * k ≤ y * m → rounded x m ≤ rounded y k
rounded_cross x m y k hm hk h =
    div_mono (2 * x + m) (2 * m) (2 * y + k) (2 * k) (omega arith) (omega arith) (omega arith)

-- x of y is no more than x' of y d, where x d is no more than x'; and the other way round
scaled_up : (a b x y x' d : ℕ) → 0 < d → x * d ≤ x' → scaled a b x y ≤ scaled a b x' (y * d)
scaled_up a b x zero x' d pos h = omega (arith, scaled_zero a b x)
scaled_up a b x (suc y) x' d pos h =
    let cross : (b - a) * x * (suc y * d) ≤ (b - a) * x' * suc y
    = omega (arith, mul-le-mul_left ((b - a) * suc y) h) in
    omega (
      arith,
      rounded_cross ((b - a) * x) (suc y) ((b - a) * x') (suc y * d) (omega arith)
          (mul-pos (omega arith) pos) cross,
    )

scaled_down : (a b x y x' d : ℕ) → 0 < d → x' ≤ x * d → scaled a b x' (y * d) ≤ scaled a b x y
scaled_down a b x zero x' d pos h =
    omega (arith, ap (scaled a b x') (zero-mul d) ∙ scaled_zero a b x', scaled_zero a b x)
scaled_down a b x (suc y) x' d pos h =
    let cross : (b - a) * x' * suc y ≤ (b - a) * x * (suc y * d)
    = omega (arith, mul-le-mul_left ((b - a) * suc y) h) in
    omega (
      arith,
      rounded_cross ((b - a) * x') (suc y * d) ((b - a) * x) (suc y) (mul-pos (omega arith) pos)
          (omega arith) cross,
    )

-- ## Lines

-- the height on a line is no more than that of its end: the line rises from h to g over d, of which e are gone
pub part_le : (h g d e : ℕ) → h ≤ g → e ≤ d → h * d + (g - h) * e ≤ g * d
part_le h g d e heights along =
    let whole : g * d ≡ h * d + (g - h) * d = sym (ap (◌* d) (add-sub_of_le heights)) ∙ add-mul h (g - h) d in
    omega (arith, mul-le-mul_left {m = e} {n = d} (g - h) along, whole)

module _ (a b y : ℕ) {p q : Point} (heights : p.height ≤ q.height) {v : ℕ} (from : p.place ≤ v)
    (to : v < q.place) where
  abbrev d : ℕ
  d = q.place - p.place

  -- the tone on a line lies between those of its ends
  line-lower : scaled a b p.height y ≤ line_tone a b y p q v
  line-lower = scaled_up a b p.height y _ d (omega arith) (omega arith)

  line-upper : line_tone a b y p q v ≤ scaled a b q.height y
  line-upper =
      scaled_down a b q.height y _ d (omega arith) (part_le p.height q.height d (v - p.place) heights (omega arith))

line_mono : (a b y : ℕ) (p q : Point) {v u : ℕ} → v ≤ u → line_tone a b y p q v ≤ line_tone a b y p q u
line_mono a b y p q {v} {u} vu =
    let more = mul-le-mul_left {m = v - p.place} {n = u - p.place} (q.height - p.height) (omega arith) in
    scaled_mono a b (y * (q.place - p.place)) (omega arith)

-- ## Lines that are joined

module _ (a b y : ℕ) where
  -- where the next point is not after v, its line or a later one has v; else p's line has
  pub joined_next : (p q : Point) (qs : List Point) {v : ℕ} → q.place ≤ v
      → joined a b y p (q ∷ qs) v ≡ joined a b y q qs v
  unfolding joined
  joined_next p q qs {v} l =
      ap (λ (t : Bool). cond t (joined a b y q qs v) (line_tone a b y p q v)) (le-leb q.place v l)

  pub joined_line : (p q : Point) (qs : List Point) {v : ℕ} → v < q.place
      → joined a b y p (q ∷ qs) v ≡ line_tone a b y p q v
  unfolding joined
  joined_line p q qs {v} l =
      ap (λ (t : Bool). cond t (joined a b y q qs v) (line_tone a b y p q v)) (lt-leb q.place v l)

  -- no lower than the first point
  joined-lower : {p : Point} {qs : List Point} → Rising p qs → {v : ℕ} → p.place ≤ v
      → scaled a b p.height y ≤ joined a b y p qs v
  unfolding joined
  joined-lower last from = le_refl _
  joined-lower {p} (more {q = q} {qs = qs} places heights rest) {v} from = ⊎_elim
      (λ (l : v < q.place). le_trans (line-lower a b y heights from l) (le_of_eq (sym (joined_line p q qs l))))
      (λ l. le_trans (scaled_mono a b y heights)
      (le_trans (joined-lower rest l) (le_of_eq (sym (joined_next p q qs l)))))
      (less_or_not v q.place)

  -- no higher than the last
  joined-upper : {p : Point} {qs : List Point} → Rising p qs → {v : ℕ} → p.place ≤ v
      → joined a b y p qs v ≤ scaled a b (top_of p qs).height y
  unfolding joined
  joined-upper last from = le_refl _
  joined-upper {p} (more {q = q} {qs = qs} places heights rest) {v} from = ⊎_elim
      (λ (l : v < q.place). le_trans (le_of_eq (joined_line p q qs l))
      (le_trans (line-upper a b y heights from l) (scaled_mono a b y (top_high rest))))
      (λ l. le_trans (le_of_eq (joined_next p q qs l)) (joined-upper rest l))
      (less_or_not v q.place)

  joined-mono : {p : Point} {qs : List Point} → Rising p qs → {v u : ℕ} → p.place ≤ v → v ≤ u
      → joined a b y p qs v ≤ joined a b y p qs u
  unfolding joined
  joined-mono last from vu = le_refl _
  joined-mono {p} (more {q = q} {qs = qs} places heights rest) {v} {u} from vu = ⊎_elim
      (λ (l : v < q.place). le_trans (le_of_eq (joined_line p q qs l)) (⊎_elim
      (λ (g : u < q.place). le_trans (line_mono a b y p q vu) (le_of_eq (sym (joined_line p q qs g))))
      (λ g. le_trans (line-upper a b y heights from l)
      (le_trans (joined-lower rest g) (le_of_eq (sym (joined_next p q qs g)))))
      (less_or_not u q.place)))
      (λ l. le_trans (le_of_eq (joined_next p q qs l))
      (le_trans (joined-mono rest l vu) (le_of_eq (sym (joined_next p q qs (le_trans l vu))))))
      (less_or_not v q.place)

-- ## The rule

pub affine_sound : (s : Slopes) (a b : ℕ) (vs : List ℕ) → a ≤ b → Sound a b (affine_tone s a b vs)
unfolding affine_tone affine_top
affine_sound s a b vs ab =
    let y = affine_top s a b vs in
    let rising = all_rise s a b (up_to vs) (length vs) in
    record {
      rises = λ v u av vu _. joined-mono a b y rising av vu;
      above = λ v av _. le_trans (scaled_above a b 0 y) (joined-lower a b y rising av);
      below = λ v av _. le_trans (joined-upper a b y rising av) (scaled_below a b y y ab (le_refl y));
    }
