-- Where the plain rule ends: the greatest value becomes b, and so does the value b. Assumes nothing.
use Prim.Native.Nat.{ℕ, ◌≤◌}
use mathlib.Core.Path.{◌≡◌, ap, ◌∙◌}
use mathlib.Core.List.{List}
use lib.ListN.{length}
use Rattle.histograms.specs.Values.{scaled, greatest}
use Rattle.plain.specs.Plain.{plain_tone}
use Rattle.histograms.specs.Histograms.{Inside}
use Rattle.histograms.proofs.Values.{inside_all, count_greatest}
use Rattle.histograms.proofs.Scaled.{scaled_all}

pub plain_greatest : (a b : ℕ) (vs : List ℕ) → a ≤ b → 1 ≤ length vs → plain_tone a b vs (greatest vs) ≡ b
unfolding plain_tone
plain_greatest a b vs ab some =
    ap (λ c. scaled a b c (length vs)) (count_greatest vs) ∙ scaled_all a b (length vs) ab some

pub plain_end : (a b : ℕ) (vs : List ℕ) → a ≤ b → 1 ≤ length vs → Inside a b vs → plain_tone a b vs b ≡ b
unfolding plain_tone
plain_end a b vs ab some s =
    ap (λ c. scaled a b c (length vs)) (inside_all s) ∙ scaled_all a b (length vs) ab some
