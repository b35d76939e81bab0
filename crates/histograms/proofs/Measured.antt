-- Measures and counts of values: of one value more, of a queue's pixels one by one, of the same values in another
-- order, and what a component leaves when its counts are cleared. Assumes nothing.
use Prim.Native.Nat.{ℕ, zero, suc, ◌+◌, ◌≤◌, ◌<◌, min, max}
use mathlib.Core.Path.{◌≡◌, refl, sym, ap, ◌∙◌}
use mathlib.Core.Logic.{⊎_elim}
use mathlib.Core.Bool.{Bool, true, false, cond}
use mathlib.Core.List.{List, [], ◌∷◌, ◌++◌, map-append}
use mathlib.Mathlib.Data.Bool.Basic.{and_elim_left, and_elim_right}
use native.Mathlib.Nat.{le_antisymm, min-le_left, not-suc-le-zero, le_of_suc-le-suc}
use native.Mathlib.Omega.{arith}
use native.Mathlib.Numerals.{add-one}
use lib.ListN.{length, set, take, length-set, length-map, length-take}
use lib.Seq.{take-suc}
use lib.Dec.{eqb}
use borrow.Author.Tests.{eq-eqb, ne_eqb, eqb-true}
use Rattle.planes.specs.Lists.{every, count, at}
use Rattle.planes.proofs.Counts.{count_le, count_snoc}
use Rattle.planes.proofs.Stores.{at_set}
use Rattle.planes.proofs.Tests.{eq_or_not, less_or_not}
use Rattle.histograms.specs.Values.{greatest, least}
use Rattle.histograms.specs.Histograms.{values, Alike, Measured, Tally, Outside, Inside, Refilled}
use Rattle.histograms.specs.declared.Measures.{Measures}
use Rattle.histograms.proofs.Values.{In, least_le, least_in, greatest_ge, greatest_in}

-- ## One value more

pub least_snoc : (vs : List ℕ) (x : ℕ) → 1 ≤ length vs → least (vs ++ (x ∷ [])) ≡ min (least vs) x
least_snoc [] x h = absurd (omega arith)
least_snoc (y ∷ []) x h = refl
least_snoc (y ∷ z ∷ zs) x h = omega (arith, least_snoc (z ∷ zs) x (omega arith))

greatest_snoc : (vs : List ℕ) (x : ℕ) → greatest (vs ++ (x ∷ [])) ≡ max (greatest vs) x
greatest_snoc [] x = omega arith
greatest_snoc (y ∷ ys) x = omega (arith, greatest_snoc ys x)

one_more : (f : ℕ → Bool) (vs : List ℕ) (x : ℕ) → f x ≡ true → count f (vs ++ (x ∷ [])) ≡ count f vs + 1
one_more f vs x e = omega (arith, count_snoc f vs x ∙ ap (λ t. cond t 1 0 + count f vs) e)

no_more : (f : ℕ → Bool) (vs : List ℕ) (x : ℕ) → f x ≡ false → count f (vs ++ (x ∷ [])) ≡ count f vs
no_more f vs x e = omega (arith, count_snoc f vs x ∙ ap (λ t. cond t 1 0 + count f vs) e)

tally_snoc : {vs counts : List ℕ} (x : ℕ) → Tally vs counts → x < 256
    → Tally (vs ++ (x ∷ [])) (set counts x (at counts x + 1))
tally_snoc {vs} {counts} x t small = record {
  size = simp length-set t.size;
  entry = λ v. at_set (λ n. n ≡ count (eqb v) (vs ++ (x ∷ []))) counts x v (at counts x + 1)
      (omega (arith, t.size))
      (λ (s : v ≡ x). omega (
        arith,
        t.entry x,
        ap (λ u. count (eqb u) vs) s,
        one_more (eqb v) vs x (eq-eqb v x s),
      ))
      (λ o. omega (arith, t.entry v, no_more (eqb v) vs x (ne_eqb v x o)));
}

-- no value occurs more often than there are values
pub tally_few : {vs counts : List ℕ} (v : ℕ) → Tally vs counts → at counts v ≤ length vs
tally_few {vs} v t = omega (arith, t.entry v, count_le (eqb v) vs)

-- ## A list's first values, one by one

take_more : (vs : List ℕ) (i : ℕ) → i < length vs → take (i + 1) vs ≡ take i vs ++ (at vs i ∷ [])
take_more vs i lt = rw (add-one, take-suc vs i 0 lt)

pub tally_taken : (vs : List ℕ) (i v : ℕ) {counts : List ℕ} → Tally (take i vs) counts → i < length vs → v ≡ at vs i
    → v < 256 → Tally (take (i + 1) vs) (set counts v (at counts v + 1))
tally_taken vs i v t lt is small = rw (take_more vs i lt, sym is) (tally_snoc v t small)

pub tally_begun : (vs : List ℕ) (i v : ℕ) {counts : List ℕ} → Tally (take i vs) counts → at counts v ≤ i
tally_begun vs i v t = omega (arith, tally_few v t, length-take i vs, min-le_left i (length vs))

-- the first value, and then a list's values one by one: the first counts once more
pub least_taken : (x : ℕ) (vs : List ℕ) (i : ℕ) → i < length vs
    → least (x ∷ take (i + 1) vs) ≡ min (least (x ∷ take i vs)) (at vs i)
least_taken x vs i lt =
    ap (λ us. least (x ∷ us)) (take_more vs i lt) ∙ least_snoc (x ∷ take i vs) (at vs i) (omega arith)

pub greatest_taken : (vs : List ℕ) (i : ℕ) → i < length vs
    → greatest (take (i + 1) vs) ≡ max (greatest (take i vs)) (at vs i)
greatest_taken vs i lt = ap greatest (take_more vs i lt) ∙ greatest_snoc (take i vs) (at vs i)

pub least_whole : (vs : List ℕ) → 1 ≤ length vs → least (at vs 0 ∷ vs) ≡ least vs
least_whole [] some = absurd (omega arith)
least_whole (x ∷ []) some = omega arith
least_whole (x ∷ y ∷ ys) some = omega arith

pub greatest_whole : (vs : List ℕ) → 1 ≤ length vs → greatest (at vs 0 ∷ vs) ≡ greatest vs
greatest_whole [] some = absurd (omega arith)
greatest_whole (x ∷ xs) some = omega arith

-- ## Values of a queue's pixels, one by one

pub values_more : (plane queue : List ℕ) (i : ℕ) → i < length queue
    → values plane queue (i + 1) ≡ values plane queue i ++ (at plane (at queue i) ∷ [])
values_more plane queue i lt = rw (take_more queue i lt, map-append)

pub tally_more : (plane queue : List ℕ) (i : ℕ) {counts : List ℕ} → Tally (values plane queue i) counts
    → i < length queue → at plane (at queue i) < 256
    → Tally (values plane queue (i + 1)) (set counts (at plane (at queue i)) (at counts (at plane (at queue i)) + 1))
tally_more plane queue i t lt small = rw (values_more plane queue i lt) (tally_snoc (at plane (at queue i)) t small)

pub tally_le : (plane queue : List ℕ) (i v : ℕ) {counts : List ℕ} → Tally (values plane queue i) counts
    → at counts v ≤ i
tally_le plane queue i v t = omega (
  arith,
  tally_few v t,
  length-map (take i queue) (at plane),
  length-take i queue,
  min-le_left i (length queue),
)

pub greatest_more : (plane queue : List ℕ) (i : ℕ) → i < length queue
    → greatest (values plane queue (i + 1)) ≡ max (greatest (values plane queue i)) (at plane (at queue i))
greatest_more plane queue i lt =
    ap greatest (values_more plane queue i lt)
    ∙ greatest_snoc (values plane queue i) (at plane (at queue i))

-- ## The same values in another order

in-alike : {vs ws : List ℕ} (v : ℕ) → Alike vs ws → In v vs → In v ws
in-alike v A i z = i (A.same v ∙ z)

pub alike_turned : {vs ws : List ℕ} → Alike vs ws → Alike ws vs
alike_turned A = record { same = λ v. sym (A.same v); size = sym A.size }

least_below : {vs ws : List ℕ} → 1 ≤ length vs → Alike vs ws → least ws ≤ least vs
least_below {vs} {ws} some A = least_le (least vs) ws (in-alike _ A (least_in vs some))

greatest_above : {vs ws : List ℕ} → 1 ≤ length vs → Alike vs ws → greatest vs ≤ greatest ws
greatest_above {vs} {ws} some A = greatest_ge (greatest vs) ws (in-alike _ A (greatest_in vs some))

pub least_alike : {vs ws : List ℕ} → 1 ≤ length vs → Alike vs ws → least vs ≡ least ws
least_alike some A = le_antisymm (least_below (omega (arith, A.size)) (alike_turned A)) (least_below some A)

pub greatest_alike : {vs ws : List ℕ} → 1 ≤ length vs → Alike vs ws → greatest vs ≡ greatest ws
greatest_alike some A = le_antisymm (greatest_above some A) (greatest_above (omega (arith, A.size)) (alike_turned A))

pub measured_alike : {vs ws : List ℕ} {c : Measures} → 1 ≤ length vs → Alike vs ws → Measured vs c → Measured ws c
measured_alike some A m = record {
  size = m.size ∙ A.size;
  least_is = m.least_is ∙ least_alike some A;
  greatest_is = m.greatest_is ∙ greatest_alike some A;
}

pub tally_alike : {vs ws counts : List ℕ} → Alike vs ws → Tally vs counts → Tally ws counts
tally_alike A t = record { size = t.size; entry = λ v. t.entry v ∙ A.same v }

-- ## Counts that are cleared

-- measured values lie in [least, greatest]
pub measured_inside : {vs : List ℕ} {c : Measures} → Measured vs c → Inside c.least c.greatest vs
measured_inside {vs} m = record {
  low = λ v l. ⊎_elim
      (λ (z : count (eqb v) vs ≡ 0). z)
      (λ (i : In v vs). absurd (omega (arith, m.least_is, least_le v vs i)))
      (eq_or_not (count (eqb v) vs) 0);
  high = λ v l. ⊎_elim
      (λ (z : count (eqb v) vs ≡ 0). z)
      (λ (i : In v vs). absurd (omega (arith, m.greatest_is, greatest_ge v vs i)))
      (eq_or_not (count (eqb v) vs) 0);
}

-- counts that are all 0, as they are made
zero_at : (l : List ℕ) → every (eqb 0) l ≡ true → (v : ℕ) → at l v ≡ 0
zero_at [] e v = refl
zero_at (x ∷ xs) e zero = sym (eqb-true 0 x (and_elim_left (eqb 0 x) (every (eqb 0) xs) e))
zero_at (x ∷ xs) e (suc v) = zero_at xs (and_elim_right (eqb 0 x) (every (eqb 0) xs) e) v

pub blank : (counts : List ℕ) → length counts ≡ 256 → every (eqb 0) counts ≡ true → Tally [] counts
blank counts size e = record { size = size; entry = zero_at counts e }

-- a value that is counted has a count
past_end : (l : List ℕ) (v : ℕ) → length l ≤ v → at l v ≡ 0
past_end [] v h = refl
past_end (x ∷ xs) zero h = absurd (not-suc-le-zero h)
past_end (x ∷ xs) (suc v) h = past_end xs v (le_of_suc-le-suc h)

pub tally_byte : {vs counts : List ℕ} {c : Measures} → 1 ≤ length vs → Measured vs c → Tally vs counts
    → c.greatest < 256
tally_byte {vs} {counts} {c} some m t = ⊎_elim
    (λ (l : c.greatest < 256). l)
    (λ (l : 256 ≤ c.greatest). absurd (greatest_in vs some (sym (t.entry (greatest vs))
    ∙ past_end counts (greatest vs) (omega (arith, t.size, m.greatest_is)))))
    (less_or_not c.greatest 256)

-- the counts of a component, changed and then cleared in [least, greatest], are all 0
pub cleared : {vs counts counts' counts'' : List ℕ} {c : Measures} → Measured vs c → Tally vs counts
    → Outside c.least c.greatest counts counts'
    → Refilled (λ v. 0) c.least (c.greatest + 1) counts' counts'' → Tally [] counts''
cleared {vs} {counts'' = counts''} {c} m t o r =
    let inside = measured_inside m in
    let same : (v : ℕ) → (c.least ≤ v → v ≤ c.greatest → ⊥) → at counts'' v ≡ count (eqb v) vs = λ v out.
    r.old v (λ low high. out low (omega arith)) ∙ o.rest v out ∙ t.entry v in
    record {
      size = r.size ∙ o.size ∙ t.size;
      entry = λ v. ⊎_elim
          (λ (l : v < c.least). same v (λ low high. omega arith) ∙ inside.low v l)
          (λ (l : c.least ≤ v). ⊎_elim
          (λ (h : c.greatest < v). same v (λ low high. omega arith) ∙ inside.high v h)
          (λ (h : v ≤ c.greatest). r.new v l (omega arith))
          (less_or_not c.greatest v))
          (less_or_not v c.least);
    }
