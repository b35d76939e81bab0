-- `headers::skip_mark` meets its contract: the first two bytes are compared with the mark. Assumes nothing.
use Rattle.headers.proofs.Grammar.{mark_stripped}
use Rattle.headers.proofs.skip_mark.Goals as goal

pub returns : goal.returns
returns c = mark_stripped _ _ c.strip_prefix.ensures.cases
