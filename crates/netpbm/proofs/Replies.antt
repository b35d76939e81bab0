-- What reading replies, by the parts of a frame. Assumes nothing.
--
--   read_reply_lem, read-back  the reply of the answer, and the answer with that reply
--   malformed_reply            10 exactly where no header begins the bytes
--   headed_reply               after a header, the first refusal that applies to its numbers and to the raster, or its
--                              values
--   framed_reply               the values of a frame exactly where the bytes are one
--   refused_some               no refusal has the number 0
use Prim.Native.Nat.{ℕ, zero, suc, ◌-◌}
use mathlib.Core.Path.{◌≡◌, refl, sym, ap, ◌∙◌}
use mathlib.Core.Logic.{◌↔◌}
use mathlib.Core.List.{List, [], ◌∷◌}
use lib.ListN.{length}
use Rattle.planes.specs.Lists.{at}
use Rattle.planes.specs.Replies.{refuses, gives, replied}
use Rattle.planes.proofs.Replies.{refuses_not_gives, refuses_same, gives_same, replied_refuses}
use Rattle.gaps.specs.Parsers.{Parsed, failed, parsed}
use Rattle.headers.specs.Grammar.{Numbers, header}
use Rattle.headers.specs.Headers.{IsHeader}
use Rattle.headers.proofs.Headers.{header_accepts}
use Rattle.std.specs.Prelude.{Result, Ok, Err}
use Rattle.planes.specs.declared.refusal.Refusal.{Refusal}
use Rattle.netpbm.specs.declared.Header.{Header}
use Rattle.netpbm.specs.Reading.{frame_refusal, header_reply, Answer, Refused, Frame, answer_of, answer_reply}
use Rattle.netpbm.specs.Reading.{framed, answered, reply_for, read_reply, read_answer}
use Rattle.netpbm.specs.Frames.{IsFrame}
use Rattle.netpbm.proofs.Frames.{accepted_iff, malformed_iff}

-- the case of a reply
pub header_refuses : (r : Answer) {k : ℕ} → answer_reply r ≡ refuses k → r ≡ Refused k
header_refuses (Refused j) e = ap Refused (refuses_same e)
header_refuses (Frame w h offset) e = absurd (refuses_not_gives (sym e))

header_gives : (r : Answer) {w h offset : ℕ} → answer_reply r ≡ gives (w ∷ h ∷ offset ∷ []) → r ≡ Frame w h offset
header_gives (Refused j) e = absurd (refuses_not_gives e)
header_gives (Frame x y z) {w} {h} {offset} e =
    let same = gives_same e in
    ap (λ (x : ℕ). Frame x y z) (ap (λ (vs : List ℕ). at vs 0) same)
    ∙ ap (λ (y : ℕ). Frame w y z) (ap (λ (vs : List ℕ). at vs 1) same)
    ∙ ap (λ (z : ℕ). Frame w h z) (ap (λ (vs : List ℕ). at vs 2) same)

header_same : (x y : Answer) → answer_reply x ≡ answer_reply y → x ≡ y
header_same x (Refused k) e = header_refuses x e
header_same x (Frame w h offset) e = header_gives x e

framed_replied : (number w h offset : ℕ) → answer_reply (framed number w h offset)
    ≡ replied number (w ∷ h ∷ offset ∷ [])
framed_replied zero w h offset = refl
framed_replied (suc k) w h offset = refl

-- the reply of the answer
pub read_reply_lem : (bytes : List ℕ) (limit : ℕ) → answer_reply (read_answer bytes limit) ≡ read_reply bytes limit
unfolding read_answer read_reply
read_reply_lem bytes limit = go (header bytes)
  where
    go : (p : Parsed Numbers) → answer_reply (answered bytes limit p) ≡ reply_for bytes limit p
    go failed = refl
    go (parsed n raster) =
        framed_replied (frame_refusal n.width n.height n.maxval (length raster) limit) n.width n.height
        (length bytes - length raster)

-- the answer with that reply
pub read_back : (bytes : List ℕ) (limit : ℕ) (r : Result Header Refusal) → header_reply r ≡ read_reply bytes limit
    → answer_of r ≡ read_answer bytes limit
read_back bytes limit r e =
    header_same (answer_of r) (read_answer bytes limit) (go r ∙ e ∙ sym (read_reply_lem bytes limit))
  where
    go : (r : Result Header Refusal) → answer_reply (answer_of r) ≡ header_reply r
    go (Ok f) = refl
    go (Err k) = refl

module _ (bytes : List ℕ) (limit : ℕ) where
  pub refused_answer : {k : ℕ} → read_reply bytes limit ≡ refuses k → read_answer bytes limit ≡ Refused k
  refused_answer e = header_refuses (read_answer bytes limit) (read_reply_lem bytes limit ∙ e)

  pub framed_answer : {w h offset : ℕ} → read_reply bytes limit ≡ gives (w ∷ h ∷ offset ∷ [])
      → read_answer bytes limit ≡ Frame w h offset
  framed_answer e = header_gives (read_answer bytes limit) (read_reply_lem bytes limit ∙ e)

  pub malformed_reply : (read_reply bytes limit ≡ refuses 10)
      ↔ ((w h maxval : ℕ) (raster : List ℕ) → IsHeader bytes w h maxval raster → ⊥)
  malformed_reply = (
    λ e. (malformed_iff bytes limit).0 (refused_answer e),
    λ none. sym (read_reply_lem bytes limit) ∙ ap answer_reply ((malformed_iff bytes limit).1 none),
  )

  pub framed_reply : (w h offset : ℕ) → (read_reply bytes limit ≡ gives (w ∷ h ∷ offset ∷ []))
      ↔ IsFrame bytes limit w h offset
  framed_reply w h offset = (
    λ e. (accepted_iff bytes limit w h offset).0 (framed_answer e),
    λ f. sym (read_reply_lem bytes limit) ∙ ap answer_reply ((accepted_iff bytes limit w h offset).1 f),
  )

pub headed_reply : (limit : ℕ) {bytes : List ℕ} {w h maxval : ℕ} {raster : List ℕ} → IsHeader bytes w h maxval raster
    → read_reply bytes limit
    ≡ replied (frame_refusal w h maxval (length raster) limit) (w ∷ h ∷ (length bytes - length raster) ∷ [])
unfolding read_reply
headed_reply limit p = rw (header_accepts p)

-- no input is refused with 0
pub refused_some : (bytes : List ℕ) (limit : ℕ) {k : ℕ} → read_answer bytes limit ≡ Refused k → (j : ℕ) × (k ≡ suc j)
unfolding read_answer
refused_some bytes limit {k} e = go (header bytes) e
  where
    go : (p : Parsed Numbers) → answered bytes limit p ≡ Refused k → (j : ℕ) × (k ≡ suc j)
    go failed d = (9, sym (refuses_same (ap answer_reply d)))
    go (parsed n raster) d =
        let number = frame_refusal n.width n.height n.maxval (length raster) limit in
        let offset = length bytes - length raster in
        let (j, (_, is)) = replied_refuses number _
        (sym (framed_replied number n.width n.height offset) ∙ ap answer_reply d) in
        (j, is)
