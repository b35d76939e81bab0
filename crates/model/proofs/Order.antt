-- A pass keeps neighbours in order: one that was no higher stays no higher. For any relation inside the symmetric one
-- by which the pass takes its components, and any rule that is sound (never falls, stays in [a, b]). Assumes nothing.
use Prim.Native.Nat.{ℕ, ◌≤◌, ◌<◌}
use mathlib.Core.Path.{◌≡◌, refl}
use mathlib.Core.Logic.{◌⊎◌, inl, inr}
use mathlib.Core.Bool.{Bool, true, false, cond, ◌&&◌}
use mathlib.Core.List.{List}
use mathlib.Mathlib.Data.Bool.Basic.{and_elim_left, and_elim_right, and_intro}
use native.Mathlib.Nat.{le_trans, le_of_lt}
use native.Mathlib.Omega.{arith}
use lib.ListN.{length}
use lib.Dec.{leb}
use borrow.Author.Tests.{leb-true, leb-false, le-leb}
use Rattle.planes.specs.Lists.{at}
use Rattle.planes.specs.Neighbours.{Near}
use Rattle.planes.specs.Order.{Keeps}
use Rattle.planes.specs.Shapes.{Symmetric, Narrower}
use Rattle.planes.proofs.Lists.{all_at, length_all}
use Rattle.tones.specs.Tones.{tone}
use Rattle.histograms.specs.Sound.{Sound}
use Rattle.tones.proofs.Sound.{tone_sound}
use Rattle.model.specs.declared.Pass.{Pass}
use Rattle.model.proofs.Components.{in_tone, out_tone, same_values}
use Rattle.model.specs.Passes.{within, component_values, changes, retone, new_tone, passed}

-- ## A pass

pub retone_sound : (s : Pass) (vs : List ℕ) → s.a ≤ s.b → Sound s.a s.b (retone s vs)
unfolding retone
retone_sound s vs ab = go (changes s vs)
  where
    go : (t : Bool) → Sound s.a s.b (λ v. cond t (tone s.rule s.a s.b vs v) v)
    go true = tone_sound s.rule s.a s.b vs ab
    go false = record { rises = λ v u _ h _. h; above = λ v h _. h; below = λ v _ h. h }

pub in-of : (s : Pass) (v : ℕ) → within s v ≡ true → (s.a ≤ v) × (v ≤ s.b)
in-of s v e =
    let above = and_elim_left (leb s.a v) (leb v s.b) e in
    let below = and_elim_right (leb s.a v) (leb v s.b) e in
    (leb-true s.a v above, leb-true v s.b below)

pub in-to : (s : Pass) (v : ℕ) → s.a ≤ v → v ≤ s.b → within s v ≡ true
in-to s v l h = and_intro (le-leb s.a v l) (le-leb v s.b h)

pub out_of : (s : Pass) (v : ℕ) → within s v ≡ false → (v < s.a) ⊎ (s.b < v)
out_of s v e = go (leb s.a v) refl e
  where
    go : (t : Bool) → leb s.a v ≡ t → (t && leb v s.b) ≡ false → (v < s.a) ⊎ (s.b < v)
    go true d f = inr (leb-false v s.b f)
    go false d f = inl (leb-false s.a v d)

-- of a relation `near` inside the symmetric relation `wider` that the pass's components are taken by
module _ (near wider : Near) (within-it : Narrower near wider) (symm : Symmetric wider) (s : Pass) (ab : s.a ≤ s.b)
    (p : List ℕ) where
  pub order : (i j : ℕ) → i < length p → j < length p → near i j ≡ true → at p i ≤ at p j
      → new_tone wider s p i ≤ new_tone wider s p j
  order i j hi hj e h = go (within s (at p i)) (within s (at p j)) refl refl
    where
      S : (vs : List ℕ) → Sound s.a s.b (retone s vs)
      S vs = retone_sound s vs ab

      vi : ℕ
      vi = at p i

      vj : ℕ
      vj = at p j

      go : (t u : Bool) → within s vi ≡ t → within s vj ≡ u → new_tone wider s p i ≤ new_tone wider s p j
      go true true wi wj =
          let one = same_values wider symm s p i j hi hj wi wj (within-it i j e) in
          rw (in_tone wider s p i wi, in_tone wider s p j wj, one)
          ((S (component_values wider s p j)).rises vi vj (in-of s vi wi).0 h (in-of s vj wj).1)
      go true false wi wj = rw (in_tone wider s p i wi, out_tone wider s p j wj)
          (elim (out_of s vj wj) [
            | inl k ↦ absurd (omega (arith, in-of s vi wi, k, h))
            | inr k ↦ le_trans ((S (component_values wider s p i)).below vi (in-of s vi wi).0 (in-of s vi wi).1)
                (le_of_lt k)
          ])
      go false true wi wj = rw (out_tone wider s p i wi, in_tone wider s p j wj)
          (elim (out_of s vi wi) [
            | inl k ↦ le_trans (le_of_lt k)
                ((S (component_values wider s p j)).above vj (in-of s vj wj).0 (in-of s vj wj).1)
            | inr k ↦ absurd (omega (arith, in-of s vj wj, k, h))
          ])
      go false false wi wj = rw (out_tone wider s p i wi, out_tone wider s p j wj) h

-- ## The plane after a pass

module _ (near : Near) where
  pub length_passed : (s : Pass) (p : List ℕ) → length (passed near s p) ≡ length p
  unfolding passed
  length_passed s p = length_all (new_tone near s p) (length p)

  pub passed_at : (s : Pass) (p : List ℕ) (i : ℕ) → i < length p → at (passed near s p) i ≡ new_tone near s p i
  unfolding passed
  passed_at s p i h = all_at (new_tone near s p) (length p) i h

pub passed_keeps : (near wider : Near) → Narrower near wider → Symmetric wider → (s : Pass) (p : List ℕ) → s.a ≤ s.b
    → Keeps near (length p) p (passed wider s p)
passed_keeps near wider within-it symm s p ab = record {
  ordered = λ i j hi hj e h. rw (passed_at wider s p i hi, passed_at wider s p j hj)
      (order near wider within-it symm s ab p i j hi hj e h);
}
