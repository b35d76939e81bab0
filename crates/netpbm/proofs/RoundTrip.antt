-- What writing leaves reads back: the first bytes of the output, as many as writing answered, are read with the same
-- width and height, the raster stands at the offset that reading answers, and no number sign, so no comment, before it.
--
--   reads_back   at any limit that the frame keeps
--   round_trip   at the library's own limit, which every written frame keeps
--
-- Assumes nothing.
use Prim.Native.Nat.{ℕ, ◌-◌, ◌*◌, ◌≤◌, ◌<◌}
use mathlib.Core.Path.{◌≡◌, refl, ap, ◌∙◌}
use mathlib.Core.Bool.{true}
use mathlib.Core.List.{List, [], ◌∷◌, ◌++◌, append_assoc}
use native.Mathlib.Omega.{arith}
use lib.ListN.{length, take, drop, length-append}
use lib.Seq.{drop_at}
use Rattle.planes.specs.Lists.{every}
use Rattle.planes.specs.Refusals.{greatest_pixels}
use Rattle.planes.specs.Replies.{gives}
use Rattle.planes.proofs.Lists.{every_both, every_append}
use Rattle.texts.specs.Ascii.{is_digit, Numeral, decimal}
use Rattle.texts.specs.Heading.{heading}
use Rattle.texts.proofs.Decimal.{decimal_numeral}
use Rattle.gaps.specs.Bytes.{is_white, is_sign, not_sign}
use Rattle.gaps.specs.Gaps.{Gap, white, one}
use Rattle.gaps.proofs.Bytes.{digit_not_sign}
use Rattle.headers.specs.Headers.{IsHeader}
use Rattle.headers.specs.Uncommented.{signless}
use Rattle.headers.proofs.Uncommented.{before_rest}
use Rattle.netpbm.specs.Reading.{Frame, read_answer}
use Rattle.netpbm.specs.Frames.{IsFrame}
use Rattle.netpbm.specs.Writing.{encoding, WriteOutcome}
use Rattle.netpbm.proofs.Frames.{accepted_iff}
use Rattle.texts.proofs.Writing.{wrote_size, wrote_bytes}
use Rattle.netpbm.proofs.Writing.{wrote_writable}

one_space : (b : ℕ) → is_white b ≡ true → Gap (b ∷ [])
one_space b e = one (white e)

line_feed : is_white 10 ≡ true
unfolding is_white
line_feed = refl

space : is_white 32 ≡ true
unfolding is_white
space = refl

-- the written bytes are a header, with no comment, and a raster
written_header : (raster : List ℕ) (w h : ℕ) → w < 1000000 → h < 1000000
    → IsHeader (encoding raster w h) w h 255 raster
unfolding heading
written_header raster w h wide high = record {
  gap₁ = 10 ∷ [];
  w_digits = decimal w;
  gap₂ = 32 ∷ [];
  h_digits = decimal h;
  gap₃ = 10 ∷ [];
  maxval_digits = decimal 255;
  separator = 10;
  parts = refl;
  gap₁_is = one_space 10 line_feed;
  w_is = decimal_numeral w wide;
  gap₂_is = one_space 32 space;
  h_is = decimal_numeral h high;
  gap₃_is = one_space 10 line_feed;
  maxval_is = decimal_numeral 255 (omega arith);
  separator_is = line_feed;
}

-- no number sign stands in the heading
digits_plain : {x : ℕ} {s : List ℕ} → Numeral x s → every not_sign s ≡ true
digits_plain {s = s} n =
    every_both is_digit is_digit not_sign (λ b e _. rw (digit_not_sign b e)) s n.digits n.digits

heading_plain : (w h : ℕ) → w < 1000000 → h < 1000000 → every not_sign (heading w h) ≡ true
unfolding heading is_sign
heading_plain w h wide high =
    let end : List ℕ = 10 ∷ (decimal 255 ++ (10 ∷ [])) in
    let nested : heading w h ≡ 80 ∷ 54 ∷ 10 ∷ (decimal w ++ (32 ∷ (decimal h ++ end))) = simp append_assoc in
    let maxval = every_append not_sign (decimal 255) (10 ∷ [])
    (digits_plain (decimal_numeral 255 (omega arith))) refl in
    let from-h = every_append not_sign (decimal h) end (digits_plain (decimal_numeral h high)) maxval in
    let from-w = every_append not_sign (decimal w) (32 ∷ (decimal h ++ end)) (digits_plain (decimal_numeral w wide))
    from-h in
    ap (every not_sign) nested ∙ from-w

signless_frame : (raster : List ℕ) (w h : ℕ) → w < 1000000 → h < 1000000
    → signless (encoding raster w h) raster ≡ true
signless_frame raster w h wide high =
    ap (every not_sign) (before_rest (heading w h) raster) ∙ heading_plain w h wide high

-- the first `size` bytes of an output, read back
pub record ReadsBack (raster : List ℕ) (w h limit size : ℕ) (output' : List ℕ) : Type 0 where
  pub answers : read_answer (take size output') limit ≡ Frame w h (size - length raster)
  pub stands : drop (size - length raster) (take size output') ≡ raster
  pub uncommented : signless (take size output') raster ≡ true

module _ (raster : List ℕ) (w h : ℕ) {output : List ℕ} {size : ℕ} {output' : List ℕ}
    (wrote : WriteOutcome raster w h output (gives (size ∷ [])) output') where
  pub reads_back : (limit : ℕ) → w * h ≤ limit → ReadsBack raster w h limit size output'
  reads_back limit few =
      let frame = encoding raster w h in
      let fine = wrote_writable raster w h wrote in
      let s = fine.size in
      let whole = wrote_size wrote in
      let counted = length-append (heading w h) raster in
      let place : length (heading w h) ≡ size - length raster = omega arith in
      let is-frame : IsFrame frame limit w h (size - length raster) =
      record {
        raster = raster;
        header = written_header raster w h (omega arith) (omega arith);
        sized = record { wide = s.wide; narrow = s.narrow; high = s.high; low = s.low; few = few };
        filled = fine.filled;
        placed = omega arith;
      } in
      record {
        answers = rw (wrote_bytes wrote) ((accepted_iff frame limit w h (size - length raster)).1 is-frame);
        stands = rw (wrote_bytes wrote) (drop_at (heading w h) raster (size - length raster) place);
        uncommented = rw (wrote_bytes wrote) (signless_frame raster w h (omega arith) (omega arith));
      }

  pub round_trip : ReadsBack raster w h greatest_pixels size output'
  round_trip = reads_back greatest_pixels (wrote_writable raster w h wrote).size.few
