-- A flood up to the turn that is due: what was taken (`Flooding`), and what is known of the pixels seen so far
-- (`Gauging`). What a turn requires, that it goes on to the next, and that after the last turn the component was taken,
-- measured and counted, whatever the neighbours are. Assumes nothing.
use Prim.Native.Nat.{ℕ, ◌≤◌, ◌<◌}
use mathlib.Core.Path.{◌≡◌, sym, subst}
use mathlib.Core.List.{List, []}
use native.Mathlib.Omega.{arith}
use lib.ListN.{length}
use Rattle.planes.specs.Lists.{at}
use Rattle.planes.specs.Neighbours.{Near}
use Rattle.planes.specs.Refusals.{greatest_pixels}
use Rattle.planes.specs.Shapes.{pixels}
use Rattle.planes.specs.declared.Shape.{Shape}
use Rattle.histograms.specs.Histograms.{values, Tally}
use Rattle.histograms.specs.declared.Measures.{Measures}
use Rattle.histograms.proofs.Measured.{tally_le}
use Rattle.rows.proofs.Taken.{taken_kept}
use Rattle.spreading.specs.Spreads.{Spread, Spreadable}
use Rattle.components.specs.Floods.{Seen, Floodable, Flooded, FloodGives}
use Rattle.components.proofs.Gauging.{Gauging, gauging_none, gauging_next, gauged}
use Rattle.components.proofs.Flooding.{Flooding, head_off, few_entries, turn, finish}

-- what a flood of `start` has taken since marks₀ and queue₀
abbrev pub FloodingTo : Near → Shape → ℕ → ℕ → List ℕ → List ℕ → List ℕ → List ℕ → ℕ → ℕ → Type 0
FloodingTo near z code start = Flooding near z.w (pixels z) code start

-- what is known of the entries before the head
abbrev pub GaugingTo : List ℕ → ℕ → List ℕ → List ℕ → Measures → Type 0
GaugingTo plane start queue counts seen =
    Gauging (at plane start) (values plane queue seen.size) counts seen.least seen.greatest

-- the invariant: what was taken and seen since the marks and the queue were marks₀ and queue₀
pub record Going (near : Near) (z : Shape) (code start : ℕ) (plane marks₀ queue₀ : List ℕ) (marks queue counts : List ℕ)
    (seen : Measures) (tail : ℕ) : Type 0 where
  pub gauging : GaugingTo plane start queue counts seen
  pub flooding : FloodingTo near z code start marks₀ queue₀ marks queue seen.size tail

-- where the loop begins
pub going_none : {near : Near} {z : Shape} {code start : ℕ} (plane : List ℕ) {marks₀ queue₀ marks queue counts : List ℕ}
    {tail : ℕ} → Tally [] counts → FloodingTo near z code start marks₀ queue₀ marks queue 0 tail
    → Going near z code start plane marks₀ queue₀ marks queue counts
    (record { size = 0; least = at plane start; greatest = at plane start }) tail
going_none {start = start} plane {queue = queue} none F = record {
  gauging = gauging_none plane queue (at plane start) none;
  flooding = F;
}

-- ## A turn

module _ {near : Near} {w n code start head tail : ℕ} {marks₀ queue₀ marks queue : List ℕ}
    (K : Flooding near w n code start marks₀ queue₀ marks queue head tail) (due : head < tail) where
  -- the pixel at the head is one, and the queue has the entry
  pub head_inside : at queue head < n
  head_inside = K.searched.below head due

  pub head_room : head < length queue
  head_room = omega (arith, K.room.spare)

  -- what `see` requires
  pub may_see : (plane counts : List ℕ) (low high : ℕ) → length plane ≡ n
      → Gauging (at plane start) (values plane queue head) counts low high
      → (at queue head < length plane)
      × ((head < greatest_pixels) × (at counts (at plane (at queue head)) < greatest_pixels))
  may_see plane counts low high whole G =
      let few = few_entries K in
      let counted = tally_le plane queue head (at plane (at queue head)) G.tally in
      (omega (arith, head_inside), (omega (arith, K.room.few), omega (arith, K.room.few)))

-- what spreading from it requires
pub spreadable : {near : Near} {z : Shape} {code start head tail : ℕ} {marks₀ queue₀ marks queue : List ℕ}
    → FloodingTo near z code start marks₀ queue₀ marks queue head tail → head < tail
    → Spreadable marks queue z code (at queue head) tail
spreadable K due = record {
  reachable = record { inside = head_inside K due; off = head_off K due; room = K.room };
  shut = K.rows _ due;
}

-- what is next to the pixel at the head was taken, and its value was seen
module _ {near : Near} {z : Shape} {code start tail tail' : ℕ} {plane marks₀ queue₀ : List ℕ}
    {marks queue counts marks' queue' counts' : List ℕ} {seen seen' : Measures}
    (K : Going near z code start plane marks₀ queue₀ marks queue counts seen tail)
    (due : seen.size < tail) (byte : at plane (at queue seen.size) < 256)
    (S : Spread near near z.w (pixels z) code (at queue seen.size) marks queue tail marks' queue' tail')
    (N : Seen (at plane (at queue seen.size)) seen counts seen' counts') where
  pub going_on : length queue' ≡ length queue
      → Going near z code start plane marks₀ queue₀ marks' queue' counts' seen' tail'
  going_on same_queue = record {
    gauging = rw (N.size, N.least_is, N.greatest_is, N.counts_are)
        (gauging_next plane queue seen.size K.gauging (head_room K.flooding due) byte queue' same_queue
        (λ k h. (taken_kept S.reaches.taken).1 k (omega arith)));
    flooding =
        subst (λ (head : ℕ). FloodingTo near z code start marks₀ queue₀ marks' queue' head tail') (sym N.size)
        (turn K.flooding due S);
  }

-- ## After the last turn

module _ {near : Near} {z : Shape} {code start tail : ℕ} {marks₀ queue₀ marks queue : List ℕ}
    (F : Floodable marks₀ queue₀ z code start) (seen : Measures)
    (K : FloodingTo near z code start marks₀ queue₀ marks queue seen.size tail) (last : tail ≤ seen.size) where
  taken : Flooded near (pixels z) code start marks₀ queue₀ marks queue seen.size
  taken =
      let all : tail ≡ seen.size = omega (arith, K.order) in
      subst (Flooded near (pixels z) code start marks₀ queue₀ marks queue) all (finish K F.inside F.has last)

  pub flooded : (plane : List ℕ) {counts : List ℕ} → GaugingTo plane start queue counts seen
      → FloodGives near (pixels z) code start plane marks₀ queue₀ marks queue counts seen
  flooded plane G = (taken, gauged taken F.inside plane G)
