-- Bytes placed in a list: one byte, and one run after another. Assumes nothing.
use Prim.Native.Nat.{ℕ, suc, ◌+◌, ◌≤◌, ◌<◌}
use mathlib.Core.Path.{◌≡◌, sym, ap, ◌∙◌}
use mathlib.Core.List.{List, [], ◌∷◌, ◌++◌, append_assoc}
use native.Mathlib.Numerals.{add-one}
use native.Mathlib.Omega.{arith}
use lib.ListN.{length, take, drop, set, length-append, length-drop}
use lib.Seq.{length-take-le, set_split, append_snoc, take_at, drop-append-add, drop-drop}
use Rattle.texts.specs.Placing.{placed, Put}

module _ (output : List ℕ) (at : ℕ) where
  head-length : (u : List ℕ) → at ≤ length output → length (take at output ++ u) ≡ at + length u
  head-length u h = length-append (take at output) u ∙ ap (λ (n : ℕ). n + length u) (length-take-le at output h)

  pub length_placed : (u : List ℕ) → at + length u ≤ length output → length (placed output at u) ≡ length output
  length_placed u h =
      let whole = length-append (take at output ++ u) (drop (at + length u) output) in
      let head = head-length u (omega arith) in
      let rest = length-drop (at + length u) output in
      omega arith

  pub placed_one : (b : ℕ) → at < length output → set output at b ≡ placed output at (b ∷ [])
  placed_one b h =
      let seam = append_snoc (take at output) b (drop (suc at) output) in
      set_split output at b h ∙ rw (add-one at) (sym seam)

  pub placed_more : (u v : List ℕ) → at + (length u + length v) ≤ length output
      → placed (placed output at u) (at + length u) v ≡ placed output at (u ++ v)
  placed_more u v h =
      let head = take at output ++ u in
      let tail = drop (at + length u) output in
      let counted : length head ≡ at + length u = head-length u (omega arith) in
      let before : take (at + length u) (head ++ tail) ≡ head = take_at head tail (at + length u) counted in
      let both : at + length u + length v ≡ at + length (u ++ v) = omega (arith, length-append u v) in
      let after : drop (at + length u + length v) (head ++ tail) ≡ drop (at + length (u ++ v)) output =
      ap (λ (n : ℕ). drop (n + length v) (head ++ tail)) (sym counted) ∙ drop-append-add head tail (length v)
      ∙ drop-drop (length v) (at + length u) output ∙ ap (λ (n : ℕ). drop n output) both in
      let tail' = drop (at + length (u ++ v)) output in
      rw (before, after) (ap (λ (l : List ℕ). l ++ tail') (append_assoc (take at output) u v))

-- one run of bytes, and another after it
pub put_more : {output output' output'' : List ℕ} {at r s : ℕ} {u v : List ℕ} → Put output at u r output'
    → Put output' r v s output'' → at + (length u + length v) ≤ length output → Put output at (u ++ v) s output''
put_more {output} {output'} {output''} {at} {r} {s} {u} {v} p q h =
    let first : r ≡ at + length u = p.next in
    let second : s ≡ r + length v = q.next in
    record {
      next = omega (arith, length-append u v);
      leaves = q.leaves ∙ rw (p.leaves, first) (placed_more output at u v h);
    }

pub put_length : {output output' : List ℕ} {at r : ℕ} {u : List ℕ} → Put output at u r output'
    → at + length u ≤ length output → length output' ≡ length output
put_length {output} {output'} {at} {r} {u} p h = ap length p.leaves ∙ length_placed output at u h
