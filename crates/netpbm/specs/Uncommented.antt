-- What reading replied before comments were read. The law that frames without comments are read as before needs this;
-- nothing else does. Definitions only.
use Rattle.std.specs.Prelude.{ℕ, List}
use Rattle.planes.specs.Replies.{Reply}
use Rattle.headers.specs.Uncommented.{uncommented_header}
use Rattle.netpbm.specs.Reading.{reply_for}

unfoldable pub uncommented_reply : List ℕ → ℕ → Reply
uncommented_reply bytes limit = reply_for bytes limit (uncommented_header bytes)
