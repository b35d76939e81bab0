-- The lines that are ahead of a point: from point i on they are those of the whole; and entries filled along them.
-- Assumes nothing.
--
--   Onward         what is left of the points gives, from point i on, the tones that the whole gives
--   onward_first   point 0
--   onward_next    the next point
--   onward_line    the line to the next point
--   end_tone       the last point
--   filled_next    entries of the next line
use Prim.Native.Nat.{ℕ, suc, ◌+◌, ◌-◌, ◌≤◌, ◌<◌, max}
use mathlib.Core.Path.{◌≡◌, sym, ap, subst, ◌∙◌}
use mathlib.Core.Logic.{⊎_elim}
use mathlib.Core.List.{List}
use native.Mathlib.Nat.{le_trans}
use native.Mathlib.Omega.{arith}
use Rattle.planes.proofs.Tests.{less_or_not}
use Rattle.histograms.specs.Values.{scaled}
use Rattle.histograms.specs.Histograms.{Refilled}
use Rattle.points.specs.declared.Slopes.{Slopes}
use Rattle.points.specs.declared.Point.{Point}
use Rattle.points.specs.Points.{next_point, start, points_after, points}
use Rattle.points.proofs.Ahead.{left_next, none_left}
use Rattle.affine.specs.Affine.{line_tone, joined}
use Rattle.affine.proofs.Sound.{joined_next, joined_line}

module _ (s : Slopes) (a b y : ℕ) (c : ℕ → ℕ) (m : ℕ) where
  abbrev n : ℕ
  n = s.segments

  -- the k points after point i, p
  abbrev left : ℕ → ℕ → Point → List Point
  left = points_after s a b c m

  -- the tones of the whole
  abbrev pub whole : ℕ → ℕ
  whole = joined a b y (start a) (points s a b c m)

  pub record Onward (i : ℕ) (p : Point) : Type 0 where
    pub tone : (k v : ℕ) → i + k ≡ n → p.place ≤ v → joined a b y p (left k i p) v ≡ whole v

  pub onward_first : Onward 0 (start a)
  onward_first =
      let all : (k : ℕ) → 0 + k ≡ n → k ≡ n = λ k e. omega arith in
      record { tone = λ k v e av. ap (λ (j : ℕ). joined a b y (start a) (left j 0 (start a)) v) (all k e) }

  -- q is the point after point i, p
  module _ (i : ℕ) (p q : Point) (is : q ≡ next_point s a b c m (i + 1) p) (h : Onward i p) where
    abbrev next : Point
    next = next_point s a b c m (i + 1) p

    pub onward_next : p.place ≤ q.place → Onward (i + 1) q
    onward_next = subst (λ (x : Point). p.place ≤ x.place → Onward (i + 1) x) (sym is) (λ from. record {
      tone = λ k v e qv.
          sym (joined_next a b y p next (left k (i + 1) next) qv)
          ∙ sym (ap (λ (ps : List Point). joined a b y p ps v) (left_next s a b c m k i p))
          ∙ h.tone (suc k) v (omega arith) (le_trans from qv);
    })

    pub onward_line : i < n → (v : ℕ) → p.place ≤ v → v < q.place → line_tone a b y p q v ≡ whole v
    onward_line more =
        subst (λ (x : Point). (v : ℕ) → p.place ≤ v → v < x.place → line_tone a b y p x v ≡ whole v) (sym is)
        (λ v from to.
        let k = n - i - 1 in
        sym (joined_line a b y p next (left k (i + 1) next) to)
        ∙ sym (ap (λ (ps : List Point). joined a b y p ps v) (left_next s a b c m k i p))
        ∙ h.tone (suc k) v (omega arith) from)

  -- from the place of the last point on, the tones are its height's
  pub end_tone : (p : Point) → Onward n p → (v : ℕ) → p.place ≤ v → scaled a b p.height y ≡ whole v
  unfolding joined
  end_tone p h v from =
      sym (ap (λ (ps : List Point). joined a b y p ps v) (none_left s a b c m n p)) ∙ h.tone 0 v (omega arith) from

-- ## Entries of the next line

-- the entries from x on up to the place p, and then up to the place q
pub filled_next : {f g : ℕ → ℕ} {x p q : ℕ} {l l' l'' : List ℕ} → Refilled f x (max x p) l l'
    → Refilled g (max p x) (max (max p x) q) l' l'' → p ≤ q → ((v : ℕ) → p ≤ v → v < q → g v ≡ f v)
    → Refilled f x (max x q) l l''
filled_next {x = x} {p} {q} h t pq same = record {
  size = t.size ∙ h.size;
  new = λ v xv vz. ⊎_elim
      (λ (vp : v < p). t.old v (λ ev _. omega arith) ∙ h.new v xv (omega arith))
      (λ pv. t.new v (omega arith) (omega arith) ∙ same v pv (omega arith))
      (less_or_not v p);
  old = λ v out. t.old v (λ ev vz. out (omega arith) (omega arith)) ∙ h.old v (λ xv ve. out xv (omega arith));
}
