-- Entries at the values of listed pixels: a law for a turn of the loop. Assumes nothing.
use Prim.Native.Nat.{ℕ, ◌+◌, ◌<◌}
use mathlib.Core.Path.{◌≡◌, sym, ap, ◌∙◌}
use mathlib.Core.Logic.{⊎_elim}
use mathlib.Core.List.{List}
use native.Mathlib.Omega.{arith}
use lib.ListN.{length, set}
use Rattle.planes.specs.Lists.{at}
use Rattle.planes.proofs.Stores.{at_set}
use Rattle.planes.proofs.Tests.{eq_or_not}
use Rattle.histograms.specs.Histograms.{Component, Refilled}
use Rattle.limited.specs.Limited.{Filled}

pub filled_more : {f : ℕ → ℕ} {plane queue table : List ℕ} (i v x : ℕ) → Filled f plane queue table i
    → v ≡ at plane (at queue i) → v < length table → x ≡ f v → Filled f plane queue (set table v x) (i + 1)
filled_more {f} {plane} {queue} {table} i v x h is room eq =
    let value : ℕ → ℕ = λ j. at plane (at queue j) in
    record {
      entry = λ j ji. at_set (λ n. n ≡ f (value j)) table v (value j) x room
          (λ (e : value j ≡ v). eq ∙ ap f (sym e))
          (λ o. ⊎_elim
          (λ (e : j ≡ i). absurd (o (ap value e ∙ sym is)))
          (λ n. h.entry j (omega arith))
          (eq_or_not j i));
    }

-- entries of all values of [a, b], where a component has its values, are entries of the listed pixels' values
pub filled_all : {f : ℕ → ℕ} {plane queue l table : List ℕ} {m a b : ℕ} → Component plane queue m a b
    → Refilled f a (b + 1) l table → Filled f plane queue table m
filled_all c h = record { entry = λ i im. h.new _ (c.within i im).0 (omega (arith, (c.within i im).1)) }
