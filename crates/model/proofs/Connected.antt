-- A plane of bytes is connected under the neighbours of its shape, by 4 and by 8; and all passes of an enhancement
-- carry its own number of neighbours. So the model's enhancement is the published recursion by these neighbours.
-- Assumes nothing.
use Prim.Native.Nat.{ℕ, zero, suc, ◌+◌, ◌-◌, ◌*◌, ◌^◌, ◌≤◌, ◌<◌}
use mathlib.Core.Path.{◌≡◌, refl, sym, ap, ◌∙◌}
use mathlib.Core.List.{List, [], ◌∷◌, map}
use native.Mathlib.Nat.{mul-pos}
use native.Mathlib.Omega.{arith}
use lib.ListN.{length}
use Rattle.planes.specs.Lists.{at, from}
use Rattle.planes.specs.Neighbours.{Near}
use Rattle.planes.specs.Shapes.{pixels, adjacency}
use Rattle.planes.specs.declared.Shape.{Shape}
use Rattle.planes.proofs.Links.{linked_iff}
use Rattle.planes.proofs.Shapes.{adjacency_sym, adjacency_chain}
use Rattle.tones.specs.declared.Rule.{Rule}
use Rattle.model.specs.declared.Pass.{Pass}
use Rattle.model.specs.Neighbourhoods.{pass_neighbours}
use Rattle.model.specs.Calls.{chain_effect}
use Rattle.model.specs.Runs.{Carries, All, none, more}
use Rattle.model.specs.Effects.{pass_effect, run_effect, then, always}
use Rattle.model.specs.Enhancement.{section, level, levels, passes, call_of, enhanced, deep, recursive}
use Rattle.model.specs.Published.{published, Connected}
use Rattle.model.proofs.Neighbourhoods.{pass_by}
use Rattle.model.proofs.Chains.{accepted}
use Rattle.model.proofs.Recursion.{all_append}
use Rattle.model.proofs.Enhancement.{Accepted, enhanced_recursion}
use Rattle.model.proofs.Published.{published_run}

pub plane_connected : (z : Shape) (number : ℕ) (p : List ℕ) → 1 ≤ z.w → 0 < length p
    → ((x : ℕ) → x < length p → at p x ≤ 255) → Connected (adjacency z number) p
plane_connected z number p wide some bytes = record {
  some = some;
  bytes = bytes;
  joined = λ x hx. (linked_iff (adjacency z number) (length p) 0 x some hx).1
      (adjacency_chain z number (length p) wide x hx);
}

-- ## Passes that carry one number

-- they run by one relation
pub run_carries : (z : Shape) (number : ℕ) {ss : List Pass} → All (Carries number) ss → (p : List ℕ)
    → run_effect (pass_neighbours z) ss p ≡ run_effect (always (adjacency z number)) ss p
unfolding run_effect
run_carries z number none p = refl
run_carries z number (more {s} {ss} e a) p =
    let by = pass_by z s e in
    ap (λ (near : Near). then (pass_effect (always near) s p)
    (run_effect (pass_neighbours z) ss (pass_effect (always near) s p).plane)) by
    ∙ ap (then (pass_effect (always (adjacency z number)) s p))
    (run_carries z number a (pass_effect (always (adjacency z number)) s p).plane)

module _ (area : ℕ) (rule : Rule) (number : ℕ) where
  deep-carries : (k d a : ℕ) → All (Carries number) (deep k area rule number d a)
  unfolding deep section
  deep-carries k zero a = more refl none
  deep-carries k (suc d) a =
      more refl (all_append (deep-carries k d a) (deep-carries k d (a + 2 ^ (d + k))))

  recursive-carries : (last : ℕ) → All (Carries number) (recursive last area rule number)
  unfolding recursive section
  recursive-carries zero = more refl none
  recursive-carries (suc m) =
      more refl (all_append (deep-carries (7 - m) m 0) (deep-carries (7 - m) m (0 + 2 ^ (m + (7 - m)))))

  sections-carry : (area' l : ℕ) (js : List ℕ)
      → All (Carries number) (map (λ j. section area' rule number (j * 2 ^ (8 - l)) (2 ^ (8 - l))) js)
  unfolding section
  sections-carry area' l [] = none
  sections-carry area' l (j ∷ js) = more refl (sections-carry area' l js)

  levels-carry : (ls : List ℕ) → All (Carries number) (levels ls area rule number)
  unfolding levels level
  levels-carry [] = none
  levels-carry (l ∷ ls) = all_append (sections-carry area l (from 0 (2 ^ l))) (levels-carry ls)

  -- all passes of an enhancement
  pub passes_carry : (last : ℕ) → All (Carries number) (passes last area rule number)
  unfolding passes level
  passes_carry last = all_append (sections-carry 1 0 (from 0 (2 ^ 0))) (levels-carry (from 1 last))

-- ## The enhancement

module _ (z : Shape) where
  head_of : {P : Pass → Type 0} {s : Pass} {ss : List Pass} → All P (s ∷ ss) → P s
  head_of (more x a) = x

  pub enhanced_published : (last area : ℕ) (rule : Rule) (number : ℕ) (p : List ℕ) → last ≤ 7 → length p ≡ pixels z
      → ((x : ℕ) → x < length p → at p x ≤ 255) → All (Accepted z) (passes last area rule number)
      → chain_effect (enhanced z p last area rule number) ≡ published (adjacency z number) last area rule p
  unfolding passes level call_of
  enhanced_published last area rule number p l size bytes a =
      let lent = (accepted z (pixels z) _ (head_of a)).0 in
      let some : 0 < length p = omega (arith, mul-pos lent.size.wide lent.size.high) in
      let c = plane_connected z number p lent.size.wide some bytes in
      enhanced_recursion z last area rule number p l size a
      ∙ run_carries z number (recursive-carries area rule number last) p
      ∙ sym (published_run (adjacency z number) (adjacency_sym z number) area rule p c number last l)
