-- A plane whose pixels all have one code is one component, by 4 and by 8 neighbours: the chain of neighbours from its
-- first pixel to any other has that code all along. So the pixels taken in reading order, one after the other, are that
-- component, and their values are the plane itself. Assumes nothing.
use Prim.Native.Nat.{ℕ, ◌≤◌, ◌<◌}
use mathlib.Core.Path.{◌≡◌, sym, ap, ◌∙◌}
use mathlib.Core.Logic.{inl, inr}
use mathlib.Core.Bool.{Bool, true, false, cond, ◌&&◌}
use mathlib.Core.List.{List}
use native.Mathlib.Omega.{arith}
use lib.ListN.{length}
use lib.Seq.{ext_get_or}
use borrow.Author.Tests.{le-ltb}
use Rattle.planes.specs.Lists.{at}
use Rattle.planes.specs.Neighbours.{Near, linked}
use Rattle.planes.specs.Enumerations.{Enumerates}
use Rattle.planes.specs.Shapes.{pixels, adjacency}
use Rattle.planes.specs.declared.Shape.{Shape}
use Rattle.planes.proofs.Tests.{less_or_not}
use Rattle.planes.proofs.Links.{chain_map}
use Rattle.planes.proofs.Enumerations.{entries_size}
use Rattle.planes.proofs.Shapes.{adjacency_chain}
use Rattle.histograms.specs.Histograms.{values}
use Rattle.histograms.proofs.Components.{values_size, values_at}
use Rattle.scans.specs.Taking.{PlaneTaken}
use Rattle.rows.specs.Codes.{alike}
use Rattle.rows.proofs.Codes.{alike_of}
use Rattle.components.specs.Regions.{region}
use Rattle.components.specs.Floods.{Flooded}
use Rattle.components.proofs.Regions.{region_of}

-- ## All pixels are one component

-- all pixels of a plane have the code
module _ (z : Shape) (number code : ℕ) (marks : List ℕ) (wide : 1 ≤ z.w)
    (all : (p : ℕ) → p < pixels z → at marks p ≡ code) where
  abbrev near : Near
  near = adjacency z number

  -- the chain that leads to p has the code all along
  pub plane_region : (p : ℕ) → p < pixels z → region near (pixels z) marks code 0 p ≡ true
  plane_region p h =
      let same = chain_map (pixels z) near (alike near marks code)
      (λ u v hu hv e. alike_of near code marks (all u hu) (all v hv) e)
      (omega arith) (adjacency_chain z number (pixels z) wide p h) in
      region_of near (pixels z) code marks 0 p (omega arith) h same.1

-- no pixel past the first n is in a region
region_past : (near : Near) (n code : ℕ) (marks : List ℕ) (s p : ℕ) → n ≤ p → region near n marks code s p ≡ false
unfolding region
region_past near n code marks s p h = ap (◌&& linked (alike near marks code) n s p) (le-ltb p n h)

-- ## All pixels taken

module _ {n : ℕ} {marks queue marks' queue' : List ℕ} (T : PlaneTaken n marks queue marks' queue')
    (room : n ≤ length queue) where
  -- the queue lists a set that has all n pixels
  lists-all : (S : ℕ → Bool) → ((p : ℕ) → p < n → S p ≡ true) → Enumerates queue' n n S
  lists-all S has = record {
    fits = omega (arith, T.queue_rest.size);
    below = λ k l. omega (arith, T.listed k l);
    inside = λ k l. ap S (T.listed k l) ∙ has k l;
    distinct = λ j k l h e. absurd (omega (arith, T.listed j (omega arith), T.listed k h));
    every = λ p h e. record { index = p; below = h; holds = T.listed p h };
  }

  -- and its marks are 0, where it has no others
  all-off : (S : ℕ → Bool) → ((p : ℕ) → p < n → S p ≡ true) → ((p : ℕ) → n ≤ p → S p ≡ false)
      → (p : ℕ) → at marks' p ≡ cond (S p) 0 (at marks p)
  all-off S has none p = elim (less_or_not p n) [
    | inl h ↦ rw (has p h) (T.off p h)
    | inr h ↦ rw (none p h) (T.marks_rest.rest p h)
  ]

  -- the values of the pixels taken are the plane, in its own order
  pub values_plane : {plane : List ℕ} → length plane ≡ n → values plane queue' n ≡ plane
  values_plane {plane} e =
      let fits : n ≤ length queue' = omega (arith, T.queue_rest.size) in
      let size = values_size plane queue' n fits in
      ext_get_or 0 (values plane queue' n) plane (size ∙ sym e)
      (λ k l. let below : k < n = omega arith in
      values_at plane queue' n fits k below ∙ ap (at plane) (T.listed k below))

-- where they all had one code, they are one component, flooded; m is their number
pub plane_flooded : (z : Shape) (number code : ℕ) {marks queue marks' queue' : List ℕ} → 1 ≤ z.w
    → PlaneTaken (pixels z) marks queue marks' queue' → pixels z ≤ length queue
    → ((p : ℕ) → p < pixels z → at marks p ≡ code) → {m : ℕ} → m ≡ pixels z
    → Flooded (adjacency z number) (pixels z) code 0 marks queue marks' queue' m
plane_flooded z number code {marks} wide T room all e =
    let component = plane_region z number code marks wide all in
    let one = region (adjacency z number) (pixels z) marks code 0 in
    let pixels-are = lists-all T room one component in
    rw e (record {
      size = entries_size pixels-are;
      enumerates = pixels-are;
      marks_are = all-off T room one component (region_past (adjacency z number) (pixels z) code marks 0);
      rest = T.queue_rest.rest;
      marks_length = T.marks_rest.size;
      queue_length = T.queue_rest.size;
    })
