-- Numbers and their bytes, low byte first; what stands in a list from an index on. Assumes nothing.
use Prim.Native.Nat.{ℕ, zero, suc, ◌+◌, ◌*◌, ◌/◌, ◌%◌, ◌≤◌, ◌<◌}
use mathlib.Core.Path.{◌≡◌, refl, sym, ap, ap₂, ◌∙◌}
use mathlib.Core.List.{List, [], ◌∷◌, map}
use native.Mathlib.Nat.{mod-eq_of_lt, add-zero, zero-add}
use native.Mathlib.Omega.{arith}
use lib.ListN.{length, get_or, take, drop}
use lib.Seq.{drop-cons, get_or-drop}
use Rattle.planes.specs.Lists.{from, at}
use Rattle.listformat.specs.Format.{bytes16, bytes32}

-- ## From a number to its bytes and back

pub join16 : (x : ℕ) → x < 65536 → x % 256 + 256 * (x / 256 % 256) ≡ x
join16 x h = omega arith

pub join32 : (x : ℕ) → x < 4294967296
    → x % 256 + 256 * (x / 256 % 256) + 65536 * (x / 65536 % 256 + 256 * (x / 65536 / 256 % 256)) ≡ x
join32 x h = omega arith

low : (x y : ℕ) → x < 256 → (x + 256 * y) % 256 ≡ x
low x y h = omega arith

high : (x y : ℕ) → x < 256 → (x + 256 * y) / 256 ≡ y
high x y h = omega arith

pub split16 : (x y : ℕ) → x < 256 → y < 256 → bytes16 (x + 256 * y) ≡ x ∷ y ∷ []
split16 x y h k = ap₂ (λ (i j : ℕ). i ∷ j ∷ []) (low x y h) (ap (◌% 256) (high x y h) ∙ mod-eq_of_lt k)

pub split32 : (x y z t : ℕ) → x < 256 → y < 256 → z < 256 → t < 256
    → bytes32 (x + 256 * y + 65536 * (z + 256 * t)) ≡ x ∷ y ∷ z ∷ t ∷ []
split32 x y z t h k l m =
    let n = x + 256 * y + 65536 * (z + 256 * t) in
    let q = z + 256 * t in
    let e : n ≡ x + 256 * (y + 256 * q) = omega arith in
    let upper : n / 256 ≡ y + 256 * q = ap (◌/ 256) e ∙ high x (y + 256 * q) h in
    let last : n / 65536 ≡ q = div-65536 (x + 256 * y) q (omega arith) in
    ap₂ (λ (i j : ℕ). i ∷ j ∷ bytes16 (n / 65536)) (ap (◌% 256) e ∙ low x (y + 256 * q) h)
    (ap (◌% 256) upper ∙ low y q k)
    ∙ ap (λ (i : ℕ). x ∷ y ∷ bytes16 i) last
    ∙ ap (λ (r : List ℕ). x ∷ y ∷ r) (split16 z t l m)
  where
    div-65536 : (i j : ℕ) → i < 65536 → (i + 65536 * j) / 65536 ≡ j
    div-65536 i j h = omega arith

-- ## Bytes from an index on

pub at_drop : (bs : List ℕ) (o i k : ℕ) → o + i ≡ k → at (drop o bs) i ≡ at bs k
at_drop bs o i k e = get_or-drop o bs i 0 ∙ ap (at bs) e

pub take_at : (bs : List ℕ) (o k : ℕ) → o + k ≤ length bs → take k (drop o bs) ≡ map (at bs) (from o k)
take_at bs o zero h = refl
take_at bs o (suc k) h =
    let e : drop o bs ≡ at bs o ∷ drop (suc o) bs = drop-cons bs o 0 (omega arith) in
    ap (take (suc k)) e ∙ ap (at bs o ∷◌) (take_at bs (suc o) k (omega arith))

-- what stands at an index of a list over the numbers below n
pub map_at : {X : Type 0} (f : ℕ → X) (none : X) (n k : ℕ) → k < n → get_or (map f (from 0 n)) k none ≡ f k
map_at f none n k h = go 0 n k h ∙ ap f (zero-add k)
  where
    go : (i n k : ℕ) → k < n → get_or (map f (from i n)) k none ≡ f (i + k)
    go i zero k h = absurd (omega arith)
    go i (suc n) zero h = ap f (sym (add-zero i))
    go i (suc n) (suc k) h =
        let e : suc i + k ≡ i + suc k = omega arith in
        go (suc i) n k (omega arith) ∙ ap f e
