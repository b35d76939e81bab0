-- A rule's table for measures and counts, where its test keeps the values and where it does not, and so for a
-- component. Assumes nothing.
use Prim.Native.Nat.{ℕ, ◌≤◌}
use mathlib.Core.Path.{◌≡◌, sym, ◌∙◌}
use mathlib.Core.Bool.{Bool, true, false}
use mathlib.Core.List.{List}
use Rattle.planes.specs.Lists.{at}
use Rattle.histograms.specs.Histograms.{Gathered, Histogram}
use Rattle.histograms.specs.Tables.{Tabled, Ruled, RuleTables}
use Rattle.histograms.specs.declared.Measures.{Measures}
use Rattle.histograms.proofs.Histograms.{histogram_of, gathered_within}

-- the values themselves, where a test with the answer r keeps them
pub ruled_kept : {kept : List ℕ → Bool} {tone : List ℕ → ℕ → ℕ} {c : Measures} {r : Bool} {counts table : List ℕ}
    → ((vs : List ℕ) → Histogram vs counts c → r ≡ kept vs) → r ≡ true
    → ((v : ℕ) → c.least ≤ v → v ≤ c.greatest → at table v ≡ v) → Ruled kept tone c counts table false
ruled_kept {kept} {c = c} k e same =
    let kept_back : (vs : List ℕ) → Histogram vs _ c → kept vs ≡ true = λ vs h. sym (k vs h) ∙ e in
    record {
      answer = λ vs h. rw (kept_back vs h);
      exact = λ vs h v lv vg. rw (kept_back vs h) (same v lv vg);
    }

-- the tones, where it does not
pub ruled_toned : {kept : List ℕ → Bool} {tone : List ℕ → ℕ → ℕ} {c : Measures} {r : Bool} {counts table : List ℕ}
    → ((vs : List ℕ) → Histogram vs counts c → r ≡ kept vs) → r ≡ false
    → Tabled tone c counts table → Ruled kept tone c counts table true
ruled_toned {kept} {c = c} k e t =
    let not_kept : (vs : List ℕ) → Histogram vs _ c → kept vs ≡ false = λ vs h. sym (k vs h) ∙ e in
    record {
      answer = λ vs h. rw (not_kept vs h);
      exact = λ vs h v lv vg. rw (not_kept vs h) (t.exact vs h v lv vg);
    }

-- a rule's table for what is gathered of a component is one for the component
pub tables_of : {kept : List ℕ → Bool} {tone : List ℕ → ℕ → ℕ} {plane queue counts table : List ℕ} {c : Measures}
    {a b : ℕ} {r : Bool}
    → Gathered plane queue counts c a b → Ruled kept tone c counts table r
    → RuleTables kept tone plane queue table c.size r
tables_of g u vs s =
    let h = histogram_of g s in
    let within = gathered_within g in
    record { answer = u.answer vs h; entry = λ i im. u.exact vs h _ (within i im).0 (within i im).1 }
