-- The recursion by sections, each before its lower and its upper half, ends as the passes level by level do, in the
-- same plane with the same sum of counts: passes on disjoint intervals change places. For any neighbour relations, of
-- each pass its own. Assumes nothing.
use Prim.Native.Nat.{ℕ, zero, suc, ◌+◌, ◌-◌, ◌^◌, ◌≤◌, ◌<◌}
use mathlib.Core.Path.{◌≡◌, refl, sym, ap, ap₂, subst, ◌∙◌}
use mathlib.Core.Logic.{inl}
use mathlib.Core.Bool.{Bool}
use mathlib.Core.List.{List, [], ◌∷◌, ◌++◌, append_assoc}
use native.Mathlib.Nat.{add_assoc, add-zero, suc-add, zero-add}
use native.Mathlib.Omega.{arith}
use lib.ListN.{length}
use lib.Pow.{pow_pos}
use Rattle.planes.specs.Lists.{from}
use Rattle.planes.specs.Neighbours.{Near}
use Rattle.planes.proofs.Counts.{count_le, length_from}
use Rattle.tones.specs.declared.Rule.{Rule}
use Rattle.model.specs.declared.Pass.{Pass}
use Rattle.model.specs.Passes.{changes, kept_back, passed, counted, component_count}
use Rattle.model.specs.Effects.{Effect, nothing, then, pass_effect, run_effect, Same}
use Rattle.model.specs.Runs.{All, none, more, Disjoint}
use Rattle.model.specs.Enhancement.{section, level, levels, passes, deep, recursive}
use Rattle.model.proofs.Apart.{turn, commute, counts_stay}

-- ## Runs of passes

-- a section has no more components than there are pixels
pub pass_few : (f : List ℕ → Bool) (near : Near) (s : Pass) (p : List ℕ) → component_count f near s p ≤ length p
unfolding component_count
pass_few f near s p = omega (arith, count_le (counted f near s p) (from 0 (length p)), length_from 0 (length p))

pub all_append : {P : Pass → Type 0} {xs ys : List Pass} → All P xs → All P ys → All P (xs ++ ys)
all_append none b = b
all_append (more x a) b = more x (all_append a b)

pub all_map : {P Q : Pass → Type 0} {xs : List Pass} → ((s : Pass) → P s → Q s) → All P xs → All Q xs
all_map f none = none
all_map f (more {s = s} x a) = more (f s x) (all_map f a)

-- a pass with a ≤ b, and one away from it
abbrev pub Away : Pass → Pass → Type 0
Away s t = (s.a ≤ s.b) × (t.a ≤ t.b) × Disjoint s t

-- effects with equal fields
pub effect_same : {p q : List ℕ} {j k i l : ℕ} → p ≡ q → j ≡ k → i ≡ l
    → ◌≡◌ {A = Effect} (record { plane = p; retoned = j; kept = i }) (record { plane = q; retoned = k; kept = l })
effect_same {p} {q} {j} {k} {i} {l} e d c =
    ap₂ (λ (p : List ℕ) (j : ℕ). record { plane = p; retoned = j; kept = i }) e d
    ∙ ap (λ (i : ℕ). record { plane = q; retoned = k; kept = i }) c

pub then_assoc : (e f g : Effect) → then (then e f) g ≡ then e (then f g)
then_assoc e f g = effect_same refl
    (add_assoc e.retoned f.retoned g.retoned)
    (add_assoc e.kept f.kept g.kept)

-- nothing before an effect, and nothing after it
pub nothing_then : (p : List ℕ) (e : Effect) → then (nothing p) e ≡ e
nothing_then p e = effect_same refl (zero-add e.retoned) (zero-add e.kept)

pub then_nothing : (e : Effect) → then e (nothing e.plane) ≡ e
then_nothing e = effect_same refl (add-zero e.retoned) (add-zero e.kept)

module _ (by : Pass → Near) where
  pub same_refl : (xs : List Pass) → Same by xs xs
  same_refl xs = record { effects = λ p. refl }

  pub same_trans : {xs ys zs : List Pass} → Same by xs ys → Same by ys zs → Same by xs zs
  same_trans a b = record { effects = λ p. a.effects p ∙ b.effects p }

  same-sym : {xs ys : List Pass} → Same by xs ys → Same by ys xs
  same-sym a = record { effects = λ p. sym (a.effects p) }

  pub same_cons : (s : Pass) {xs ys : List Pass} → Same by xs ys → Same by (s ∷ xs) (s ∷ ys)
  unfolding run_effect
  same_cons s a = record { effects = λ p. ap (then (pass_effect by s p)) (a.effects (pass_effect by s p).plane) }

  same_after : (zs : List Pass) {xs ys : List Pass} → Same by xs ys → Same by (zs ++ xs) (zs ++ ys)
  same_after [] a = a
  same_after (z ∷ zs) a = same_cons z (same_after zs a)

  -- a run of passes after another
  pub run_append : (xs ys : List Pass) (p : List ℕ)
      → run_effect by (xs ++ ys) p ≡ then (run_effect by xs p) (run_effect by ys (run_effect by xs p).plane)
  unfolding run_effect
  run_append [] ys p = sym (nothing_then p (run_effect by ys p))
  run_append (x ∷ xs) ys p =
      let now = pass_effect by x p in
      let first = run_effect by xs now.plane in
      ap (then now) (run_append xs ys now.plane) ∙ sym (then_assoc now first (run_effect by ys first.plane))

  same-before : {xs ys : List Pass} (zs : List Pass) → Same by xs ys → Same by (xs ++ zs) (ys ++ zs)
  same-before {xs} {ys} zs a = record {
    effects = λ p. run_append xs zs p
        ∙ ap (λ (e : Effect). then e (run_effect by zs e.plane)) (a.effects p)
        ∙ sym (run_append ys zs p);
  }

  -- two passes apart change places; so does a pass with a list, and a list with a list
  pub swap : (s t : Pass) (zs : List Pass) → Away s t → Same by (s ∷ t ∷ zs) (t ∷ s ∷ zs)
  unfolding run_effect
  swap s t zs w = record {
    effects = λ p. effect_same (ap (λ (q : List ℕ). (run_effect by zs q).plane) (one p))
        (sums changes (λ (e : Effect). e.retoned) p) (sums kept_back (λ (e : Effect). e.kept) p);
  }
    where
      one : (p : List ℕ) → passed (by t) t (passed (by s) s p) ≡ passed (by s) s (passed (by t) t p)
      one p = sym (commute by s t w.2 w.0 w.1 p)

      -- the count of the components that pass a test, and the effect's number of them
      sums : (f : Pass → List ℕ → Bool) (k : Effect → ℕ) (p : List ℕ)
          → component_count (f s) (by s) s p + (component_count (f t) (by t) t (passed (by s) s p)
          + k (run_effect by zs (passed (by t) t (passed (by s) s p))))
          ≡ component_count (f t) (by t) t p + (component_count (f s) (by s) s (passed (by t) t p)
          + k (run_effect by zs (passed (by s) s (passed (by t) t p))))
      sums f k p =
          ap₂ (λ (i : ℕ) (q : List ℕ). component_count (f s) (by s) s p + (i + k (run_effect by zs q)))
          (counts_stay by t s (turn s t w.2) w.1 w.0 p (f t)) (one p)
          ∙ omega (arith, counts_stay by s t w.2 w.0 w.1 p (f s))

  past : (s : Pass) (ys zs : List Pass) → All (Away s) ys → Same by (s ∷ ys ++ zs) (ys ++ s ∷ zs)
  past s [] zs none = same_refl (s ∷ zs)
  past s (y ∷ ys) zs (more w a) = same_trans (swap s y (ys ++ zs) w) (same_cons y (past s ys zs a))

  block : (xs ys zs : List Pass) → All (λ x. All (Away x) ys) xs → Same by (xs ++ (ys ++ zs)) (ys ++ (xs ++ zs))
  block [] ys zs none = same_refl (ys ++ zs)
  block (x ∷ xs) ys zs (more w a) = same_trans (same_cons x (block xs ys zs a)) (past x ys (xs ++ zs) w)

-- ## Sections that halve

-- the lists of the levels i .. i + m - 1, joined
pub joined : (ℕ → List Pass) → ℕ → ℕ → List Pass
joined x i zero = []
joined x i (suc m) = x i ++ joined x (suc i) m

-- a width and its half
pub double : (d k : ℕ) → 2 ^ (suc d + k) ≡ 2 ^ (d + k) + 2 ^ (d + k)
double d k = ap (2 ^◌) (suc-add d k) ∙ omega arith

-- with the last level's width 2 ^ k: a section of width 2 ^ (d + k) and the d levels below it
module _ (k area : ℕ) (rule : Rule) (number : ℕ) where
  -- the level l below it
  pub wide : ℕ → ℕ → ℕ → List Pass
  wide d a zero = section area rule number a (2 ^ (d + k)) ∷ []
  wide zero a (suc l) = []
  wide (suc d) a (suc l) = wide d a l ++ wide d (a + 2 ^ (d + k)) l

  -- a section that lies in [lo, hi)
  abbrev In : ℕ → ℕ → Pass → Type 0
  In lo hi s = (lo ≤ s.a) × (s.a ≤ s.b) × (s.b < hi)

  wide-in : (d a l : ℕ) → All (In a (a + 2 ^ (d + k))) (wide d a l)
  unfolding wide section
  wide-in d a zero = let h = pow_pos (d + k) in more {s = section area rule number a (2 ^ (d + k))} (omega arith) none
  wide-in zero a (suc l) = none
  wide-in (suc d) a (suc l) =
      let e = double d k in
      let half : ℕ = 2 ^ (d + k) in
      all_append
      (all_map (λ s (h : In a (a + half) s). omega arith) (wide-in d a l))
      (all_map (λ s (h : In (a + half) (a + half + half) s). omega arith) (wide-in d (a + half) l))

all_joined : {P : Pass → Type 0} (x : ℕ → List Pass) → ((l : ℕ) → All P (x l)) → (i m : ℕ) → All P (joined x i m)
unfolding joined
all_joined x h i zero = none
all_joined x h i (suc m) = all_append (h i) (all_joined x h (suc i) m)

joined_shift : (x : ℕ → List Pass) (i m : ℕ) → joined (λ l. x (suc l)) i m ≡ joined x (suc i) m
unfolding joined
joined_shift x i zero = refl
joined_shift x i (suc m) = ap (x (suc i) ++◌) (joined_shift x (suc i) m)

module _ (by : Pass → Near) where
  same_of : {xs ys : List Pass} → xs ≡ ys → Same by xs ys
  same_of {xs} e = subst (Same by xs) e (same_refl by xs)

  -- two families of lists that are apart, list by list in turn or one family after the other
  interleave : (x y : ℕ → List Pass) → ((l r : ℕ) → All (λ s. All (Away s) (y r)) (x l)) → (i m : ℕ)
      → Same by (joined (λ l. x l ++ y l) i m) (joined x i m ++ joined y i m)
  unfolding joined
  interleave x y h i zero = same_refl by []
  interleave x y h i (suc m) =
      let jx = joined x (suc i) m in
      let jy = joined y (suc i) m in
      let past = same-sym by (block by jx (y i) jy (all_joined x (λ l. h l i) (suc i) m)) in
      same_trans by (same_after by (x i ++ y i) (interleave x y h (suc i) m))
      (same_trans by (same_of (append_assoc (x i) (y i) (jx ++ jy)))
      (same_trans by (same_after by (x i) past)
      (same_of (sym (append_assoc (x i) jx (y i ++ jy))))))

  module _ (k area : ℕ) (rule : Rule) (number : ℕ) where
    -- the lists of the two halves are apart
    apart-halves : (d a l r : ℕ)
        → All (λ s. All (Away s) (wide k area rule number d (a + 2 ^ (d + k)) r)) (wide k area rule number d a l)
    apart-halves d a l r =
        let half : ℕ = 2 ^ (d + k) in
        all_map (λ s (g : In k area rule number a (a + half) s).
        all_map (λ t (h : In k area rule number (a + half) (a + half + half) t). (g.1, h.1, inl (omega arith)))
        (wide-in k area rule number d (a + half) r))
        (wide-in k area rule number d a l)

    -- the two halves, level by level or one after the other
    halves : (d a m : ℕ)
        → Same by (joined (λ l. wide k area rule number d a l ++ wide k area rule number d (a + 2 ^ (d + k)) l) 0 m)
        (joined (wide k area rule number d a) 0 m ++ joined (wide k area rule number d (a + 2 ^ (d + k))) 0 m)
    halves d a m =
        let half = wide k area rule number d in
        interleave (half a) (half (a + 2 ^ (d + k))) (apart-halves d a) 0 m

    pub deep_wide : (d a : ℕ) → Same by (deep k area rule number d a) (joined (wide k area rule number d a) 0 (suc d))
    unfolding deep wide joined
    deep_wide zero a = same_refl by _
    deep_wide (suc d) a =
        let a' = a + 2 ^ (d + k) in
        same_cons by (section area rule number a (2 ^ (suc d + k)))
        (same_trans by (same-before by (deep k area rule number d a') (deep_wide d a))
        (same_trans by (same_after by (joined (wide k area rule number d a) 0 (suc d)) (deep_wide d a'))
        (same_trans by (same-sym by (halves d a (suc d)))
        (same_of (joined_shift (wide k area rule number (suc d) a) 0 (suc d))))))

-- ## An enhancement's recursion and its list of passes

-- the levels below the two halves are the levels 1 to m + 1, section by section
listed : (m area : ℕ) (rule : Rule) (number : ℕ) → m < 7
    → (let half = wide (7 - m) area rule number m in
    joined (λ l. half 0 l ++ half (0 + 2 ^ (m + (7 - m))) l) 0 (suc m))
    ≡ levels (from 1 (suc m)) area rule number
unfolding joined wide levels level section
listed zero area rule number h = refl
listed (suc zero) area rule number h = refl
listed (suc (suc zero)) area rule number h = refl
listed (suc (suc (suc zero))) area rule number h = refl
listed (suc (suc (suc (suc zero)))) area rule number h = refl
listed (suc (suc (suc (suc (suc zero))))) area rule number h = refl
listed (suc (suc (suc (suc (suc (suc zero)))))) area rule number h = refl
listed (suc (suc (suc (suc (suc (suc (suc m))))))) area rule number h = absurd (omega arith)

module _ (by : Pass → Near) where
  pub recursion_listed : (last area : ℕ) (rule : Rule) (number : ℕ) → last ≤ 7
      → Same by (recursive last area rule number) (passes last area rule number)
  unfolding recursive passes level levels section
  recursion_listed zero area rule number h = same_refl by _
  recursion_listed (suc m) area rule number h =
      let a = 0 + 2 ^ (m + (7 - m)) in
      let lower = deep_wide by (7 - m) area rule number m 0 in
      let upper = deep_wide by (7 - m) area rule number m a in
      same_cons by (section 1 rule number 0 256)
      (same_trans by (same-before by (deep (7 - m) area rule number m a) lower)
      (same_trans by (same_after by (joined (wide (7 - m) area rule number m 0) 0 (suc m)) upper)
      (same_trans by (same-sym by (halves by (7 - m) area rule number m 0 (suc m)))
      (same_of by (listed m area rule number h)))))
