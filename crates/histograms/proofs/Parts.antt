-- A part of a list in the list, after a loop over the part: its entries, and those below and above it. Assumes nothing.
use Rattle.std.proofs.Common.{ℕ, ◌≡◌, ◌+◌, ◌-◌, ◌≤◌, ◌<◌, List, length, rules, arith, ◌∙◌, ⊎_elim}
use Rattle.std.proofs.lemmas.List.{places}
use borrow.Rule.Slice.PartMut.{put_mid}
use Rattle.planes.specs.Lists.{at}
use Rattle.planes.proofs.Tests.{less_or_not}
use Rattle.histograms.specs.Histograms.{Refilled}

module _ (a k : ℕ) (l part : List ℕ) (room : a + k ≤ length l) (size : length part ≡ k) where
  whole-size : length (put_mid a k l part) ≡ length l
  whole-size = search (rules, places)

  below : (v : ℕ) → v < a → at (put_mid a k l part) v ≡ at l v
  below v va = search (rules, places)

  inside : (j : ℕ) → j < k → at (put_mid a k l part) (a + j) ≡ at part j
  inside j jk = search (rules, places)

  above : (v : ℕ) → a + k ≤ v → at (put_mid a k l part) v ≡ at l v
  above v kv = search (rules, places)

  -- the part from a on, of k entries, whose entry j is that of a + j
  pub refilled_part : {f : ℕ → ℕ} → ((j : ℕ) → j < k → at part j ≡ f (a + j))
      → Refilled f a (a + k) l (put_mid a k l part)
  refilled_part {f} h = record {
    size = whole-size;
    new = λ v av ve.
        let is : a + (v - a) ≡ v = omega arith in
        rw is at (inside (v - a) (omega arith) ∙ h (v - a) (omega arith));
    old = λ v out. ⊎_elim
        (λ (b : v < a). below v b)
        (λ b. above v (past b (λ g. out b g)))
        (less_or_not v a);
  }
    where
      past : {v : ℕ} → a ≤ v → (v < a + k → ⊥) → a + k ≤ v
      past {v} b o = ⊎_elim (λ (g : v < a + k). absurd (o g)) (λ g. g) (less_or_not v (a + k))
