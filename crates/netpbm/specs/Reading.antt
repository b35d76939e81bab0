-- What reading a frame answers: refusals 10, 1, 2, 11, 12 and 13, in that order, or width, height and the offset of the
-- raster. Definitions only.
--
--   header_refusal     10, where the grammar fails
--   maxval_refusal     11, by the header's third number
--   raster_refusal     12, by the number of bytes after the header
--   trailing_refusal   13, likewise
--   frame_refusal      1, 2, 11, 12, 13
--   header_reply       the reply of a result of reading
--   read_reply         the reply to a list of bytes
--   Answer             what is answered: `answer_of` a result; `answer_reply` is its reply
--   read_answer        the answer to a list of bytes, whose reply that is (`read_reply_lem`)
use Rattle.std.specs.Prelude.{ℕ, zero, suc, ◌-◌, ◌*◌, not, List, [], ◌∷◌, eqb, ltb, length, Result, Ok, Err}
use Rattle.planes.specs.declared.refusal.Refusal.{Refusal}
use Rattle.planes.specs.Refusals.{number, when, ◌▷◌, size_refusal}
use Rattle.planes.specs.Replies.{Reply, refuses, gives, reply_of, replied}
use Rattle.gaps.specs.Parsers.{Parsed, failed, parsed}
use Rattle.headers.specs.Grammar.{Numbers, header}
use Rattle.netpbm.specs.declared.Header.{Header}

-- 10: the header is malformed or ended
abbrev pub header_refusal : ℕ
header_refusal = 10

-- 11: the third number is not 255
unfoldable pub maxval_refusal : ℕ → ℕ
maxval_refusal maxval = when (not (eqb maxval 255)) 11

-- 12: fewer bytes follow the header than are needed
unfoldable pub raster_refusal : ℕ → ℕ → ℕ
raster_refusal raster needed = when (ltb raster needed) 12

-- 13: more bytes follow it
unfoldable pub trailing_refusal : ℕ → ℕ → ℕ
trailing_refusal raster needed = when (ltb needed raster) 13

-- 1, 2, 11, 12, 13 for a header with these numbers before so many bytes, where `limit` pixels are allowed
unfoldable pub frame_refusal : ℕ → ℕ → ℕ → ℕ → ℕ → ℕ
frame_refusal w h maxval raster limit =
    let needed = 3 * (w * h) in
    size_refusal w h limit ▷ maxval_refusal maxval ▷ raster_refusal raster needed ▷ trailing_refusal raster needed

-- the refusal's number, or width, height and offset
abbrev pub header_reply : Result Header Refusal → Reply
header_reply = reply_of (λ f. f.w ∷ f.h ∷ f.offset ∷ [])

-- what is answered: a refusal with its number, or a frame's width, height and offset
pub data Answer : Type 0 where
  Refused : ℕ → Answer
  Frame : ℕ → ℕ → ℕ → Answer

abbrev pub answer_of : Result Header Refusal → Answer
answer_of (Ok f) = Frame f.w f.h f.offset
answer_of (Err r) = Refused (number r)

abbrev pub answer_reply : Answer → Reply
answer_reply (Refused k) = refuses k
answer_reply (Frame w h offset) = gives (w ∷ h ∷ offset ∷ [])

-- the answer for a refusal's number, 0 for none, and the frame's values
abbrev pub framed : ℕ → ℕ → ℕ → ℕ → Answer
framed zero w h offset = Frame w h offset
framed (suc k) w h offset = Refused (suc k)

-- the answer for what the grammar makes of the bytes
abbrev pub answered : List ℕ → ℕ → Parsed Numbers → Answer
answered bytes limit failed = Refused header_refusal
answered bytes limit (parsed n raster) =
    framed (frame_refusal n.width n.height n.maxval (length raster) limit)
    n.width n.height (length bytes - length raster)

-- the same as a reply
abbrev pub reply_for : List ℕ → ℕ → Parsed Numbers → Reply
reply_for bytes limit failed = refuses header_refusal
reply_for bytes limit (parsed n raster) =
    replied (frame_refusal n.width n.height n.maxval (length raster) limit)
    (n.width ∷ n.height ∷ (length bytes - length raster) ∷ [])

unfoldable pub read_reply : List ℕ → ℕ → Reply
read_reply bytes limit = reply_for bytes limit (header bytes)

unfoldable pub read_answer : List ℕ → ℕ → Answer
read_answer bytes limit = answered bytes limit (header bytes)
