-- Bytes that stand at the beginning of the output, as one run and as a written frame. Assumes nothing.
use Prim.Native.Nat.{ℕ}
use mathlib.Core.Path.{◌≡◌, sym, ap, ◌∙◌}
use mathlib.Core.List.{List, [], ◌∷◌, ◌++◌}
use native.Mathlib.Nat.{zero-add}
use native.Mathlib.Omega.{arith}
use lib.ListN.{length, take, drop, length-append, length-take}
use lib.Seq.{take_at, drop_at}
use Rattle.planes.specs.Replies.{gives}
use Rattle.texts.specs.Placing.{Put}
use Rattle.netpbm.specs.Writing.{encoding, WriteOutcome}
use Rattle.texts.proofs.Writing.{wrote_size, wrote_bytes, wrote_beyond}
use Rattle.printing.specs.Printing.{Emitted}

-- bytes that were put from the beginning on
pub emitted_put : {bytes output output' : List ℕ} {r : ℕ} → Put output 0 bytes r output'
    → Emitted bytes output r output'
emitted_put {bytes} {output} {output'} {r} p =
    let whole : r ≡ length bytes = p.next ∙ zero-add (length bytes) in
    let all : output' ≡ bytes ++ drop r output =
    p.leaves ∙ ap (λ (n : ℕ). bytes ++ drop n output) (sym p.next) in
    let counted = ap length all ∙ length-append bytes (drop r output) in
    record {
      within = omega arith;
      written = ap (take r) all ∙ take_at bytes (drop r output) r (sym whole);
      beyond = ap (drop r) all ∙ drop_at bytes (drop r output) r (sym whole);
    }

-- a frame that was written
pub emitted_wrote : (raster : List ℕ) (w h : ℕ) {output output' : List ℕ} {size : ℕ}
    → WriteOutcome raster w h output (gives (size ∷ [])) output'
    → Emitted (encoding raster w h) output size output'
emitted_wrote raster w h {output' = output'} {size = size} wrote =
    let counted = sym (length-take size output') ∙ ap length (wrote_bytes wrote) ∙ sym (wrote_size wrote) in
    record { within = omega arith; written = wrote_bytes wrote; beyond = wrote_beyond wrote }
