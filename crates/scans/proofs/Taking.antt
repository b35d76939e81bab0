-- All pixels of a plane, taken in reading order: what stands in the place of the first entries of marks and queue.
-- Assumes nothing.
use Rattle.std.proofs.Common.{ℕ, ◌+◌, ◌-◌, ◌≤◌, ◌<◌, ◌≡◌, List, ◌++◌, length, take, drop, replicate, sym, ◌∙◌}
use Rattle.std.proofs.Common.{ap, arith, length-append, length-drop, length-take-le}
use Rattle.std.proofs.lemmas.List.{get_or_append_left, get_or-append_right, get_or-drop, length-replicate}
use Rattle.std.proofs.lemmas.List.{get_or-replicate}
use Rattle.planes.specs.Lists.{at, Beyond}
use Rattle.scans.specs.Taking.{PlaneTaken}

-- n entries stand in the place of the first n of a list
beyond_first : (n : ℕ) (xs ys : List ℕ) → n ≤ length xs → length ys ≡ n → Beyond n xs (ys ++ drop n xs)
beyond_first n xs ys h e = record {
  size = rw length-append (rw length-drop (omega arith));
  rest = λ k l.
      let same : n + (k - n) ≡ k = omega arith in
      get_or-append_right ys (drop n xs) n k 0 e l ∙ get_or-drop n xs (k - n) 0 ∙ ap (at xs) same;
}

-- the first n marks were filled with 0, and the first k entries of the queue, which are all of n, are their own numbers
pub plane_taken : (m n k : ℕ) (marks queue ms qs : List ℕ) → n ≡ m → n ≤ length marks → n ≤ length queue
    → ms ≡ replicate (length (take n marks)) 0 → length qs ≡ length (take n queue) → length (take n queue) ≤ k
    → ((p : ℕ) → p < k → at qs p ≡ p) → PlaneTaken m marks queue (ms ++ drop n marks) (qs ++ drop n queue)
plane_taken m n k marks queue ms qs same hm hq e l all f =
    let few = length-take-le n marks hm in
    let some = length-take-le n queue hq in
    let size : length ms ≡ n = ap length e ∙ length-replicate (length (take n marks)) 0 ∙ few in
    rw (sym same) (record {
      off = λ p h.
          get_or_append_left ms (drop n marks) 0 p (omega arith) ∙ ap (λ (s : List ℕ). at s p) e
          ∙ get_or-replicate (length (take n marks)) p 0 0 (omega arith);
      listed = λ p h. get_or_append_left qs (drop n queue) 0 p (omega arith) ∙ f p (omega arith);
      marks_rest = beyond_first n marks ms hm size;
      queue_rest = beyond_first n queue qs hq (l ∙ some);
    })
