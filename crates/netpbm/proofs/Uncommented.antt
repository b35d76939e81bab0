-- Frames without comments are read as before, and what changed are headers with comments, which were refused with 10.
--
--   reads_as_before   where no number sign stands in a header that begins the bytes, reading replies what it did
--   comments_got_10   where one does, it replied 10
--
-- Assumes nothing.
use Prim.Native.Nat.{ℕ}
use mathlib.Core.Path.{◌≡◌, ap}
use mathlib.Core.Bool.{false}
use mathlib.Core.List.{List}
use Rattle.planes.specs.Replies.{refuses}
use Rattle.headers.specs.Headers.{IsHeader}
use Rattle.headers.specs.Uncommented.{signless, Uncommented}
use Rattle.headers.proofs.Uncommented.{uncommented_header_lem, commented_header}
use Rattle.netpbm.specs.Reading.{reply_for, read_reply}
use Rattle.netpbm.specs.Uncommented.{uncommented_reply}

pub reads_as_before : (bytes : List ℕ) (limit : ℕ) → Uncommented bytes
    → read_reply bytes limit ≡ uncommented_reply bytes limit
unfolding read_reply uncommented_reply
reads_as_before bytes limit none = ap (reply_for bytes limit) (uncommented_header_lem bytes none)

pub comments_got_10 : {bytes : List ℕ} {w h maxval : ℕ} {raster : List ℕ} (limit : ℕ)
    → IsHeader bytes w h maxval raster → signless bytes raster ≡ false → uncommented_reply bytes limit ≡ refuses 10
unfolding uncommented_reply
comments_got_10 {bytes} limit p e = ap (reply_for bytes limit) (commented_header p e)
