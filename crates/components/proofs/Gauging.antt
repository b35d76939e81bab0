-- What a flood knows of the pixels that it has spread from: the counts of their values, and the least and the greatest
-- of these and of the value that it began with. That is the value of the first pixel, so in the end, when all pixels of
-- the component have been spread from, it is one of theirs. Assumes nothing.
use Prim.Native.Nat.{ℕ, ◌+◌, ◌≤◌, ◌<◌, min, max}
use mathlib.Core.Path.{◌≡◌, refl, sym, ap, ◌∙◌}
use mathlib.Core.List.{List, [], ◌∷◌}
use native.Mathlib.Nat.{min-eq_right, max-eq_right, max-zero}
use native.Mathlib.Omega.{arith}
use lib.ListN.{length, set}
use lib.Seq.{ext_get_or}
use Rattle.planes.specs.Lists.{at}
use Rattle.planes.specs.Neighbours.{Near}
use Rattle.planes.specs.Enumerations.{Place}
use Rattle.histograms.specs.Values.{least, greatest}
use Rattle.histograms.specs.Histograms.{values, Alike, Measured, Tally}
use Rattle.histograms.specs.declared.Measures.{Measures}
use Rattle.histograms.proofs.Values.{In, in-at, least_le, greatest_ge}
use Rattle.histograms.proofs.Components.{values_size, values_at, alike_of}
use Rattle.histograms.proofs.Measured.{least_snoc, values_more, tally_more, greatest_more}
use Rattle.histograms.proofs.Measured.{alike_turned, tally_alike, measured_alike}
use Rattle.components.specs.Floods.{Flooded, region_values, Gauged}
use Rattle.components.proofs.Regions.{region_self}

-- the counts of the values vs, and the least and the greatest of s and vs
pub record Gauging (s : ℕ) (vs counts : List ℕ) (low high : ℕ) : Type 0 where
  pub tally : Tally vs counts
  pub least_is : low ≡ least (s ∷ vs)
  pub greatest_is : high ≡ greatest (s ∷ vs)

-- ## No values

pub gauging_none : (plane queue : List ℕ) (s : ℕ) {counts : List ℕ} → Tally [] counts
    → Gauging s (values plane queue 0) counts s s
gauging_none plane queue s t = record {
  tally = t;
  least_is = refl;
  greatest_is = sym (max-zero s);
}

-- ## One value more

-- the first m values go by the first m entries
values_same : (plane queue queue' : List ℕ) (m : ℕ) → m ≤ length queue → m ≤ length queue'
    → ((k : ℕ) → k < m → at queue' k ≡ at queue k) → values plane queue' m ≡ values plane queue m
values_same plane queue queue' m h h' kept =
    let size = values_size plane queue' m h' in
    ext_get_or 0 (values plane queue' m) (values plane queue m) (size ∙ sym (values_size plane queue m h))
    (λ k l. let km : k < m = omega arith in
    values_at plane queue' m h' k km ∙ ap (at plane) (kept k km) ∙ sym (values_at plane queue m h k km))

-- entry i of the queue is one more, and the entries up to it stay
module _ (plane queue : List ℕ) (i : ℕ) {s low high : ℕ} {counts : List ℕ}
    (G : Gauging s (values plane queue i) counts low high) (room : i < length queue)
    (byte : at plane (at queue i) < 256) where
  abbrev v : ℕ
  v = at plane (at queue i)

  gauging-more : Gauging s (values plane queue (i + 1)) (set counts v (at counts v + 1)) (min low v) (max high v)
  gauging-more = record {
    tally = tally_more plane queue i G.tally room byte;
    least_is = rw (values_more plane queue i room, G.least_is)
        (sym (least_snoc (s ∷ values plane queue i) v (omega arith)));
    greatest_is = omega (arith, G.greatest_is, greatest_more plane queue i room);
  }

  pub gauging_next : (queue' : List ℕ) → length queue' ≡ length queue
      → ((k : ℕ) → k < i + 1 → at queue' k ≡ at queue k)
      → Gauging s (values plane queue' (i + 1)) (set counts v (at counts v + 1)) (min low v) (max high v)
  gauging_next queue' size kept =
      rw (values_same plane queue queue' (i + 1) (omega arith) (omega arith) kept) gauging-more

-- ## All values

least_again : (s : ℕ) (vs : List ℕ) → In s vs → least (s ∷ vs) ≡ least vs
least_again s [] i = absurd (i refl)
least_again s (x ∷ vs) i = min-eq_right (least_le s (x ∷ vs) i)

module _ {near : Near} {n code start : ℕ} {marks₀ queue₀ marks queue : List ℕ} {m : ℕ}
    (F : Flooded near n code start marks₀ queue₀ marks queue m) (inside : start < n) (plane : List ℕ) where
  place : Place queue m start
  place = F.enumerates.every start inside (region_self near n code marks₀ start inside)

  first-in : In (at plane start) (values plane queue m)
  first-in =
      let room = F.enumerates.fits in
      let there = in-at (values plane queue m) place.index
      (omega (arith, place.below, values_size plane queue m room)) in
      rw (values_at plane queue m room place.index place.below, place.holds) at there

  is-region : Alike (values plane queue m) (region_values near n marks₀ code start plane)
  unfolding region_values
  is-region = alike_turned (alike_of F.enumerates plane)

  module _ {counts : List ℕ} {low high : ℕ} (G : Gauging (at plane start) (values plane queue m) counts low high)
    where
      abbrev c : Measures
      c = record { size = m; least = low; greatest = high }

      all-measured : Measured (values plane queue m) c
      all-measured = record {
        size = sym (values_size plane queue m F.enumerates.fits);
        least_is = G.least_is ∙ least_again (at plane start) (values plane queue m) first-in;
        greatest_is = G.greatest_is ∙ max-eq_right (greatest_ge (at plane start) (values plane queue m) first-in);
      }

      pub gauged : Gauged near n code start plane marks₀ c counts
      gauged =
          let size = values_size plane queue m F.enumerates.fits in
          record {
            measured = measured_alike (omega (arith, place.below)) is-region all-measured;
            tally = tally_alike is-region G.tally;
          }
