-- `texts::put_heading` meets its contract: the pieces are put one after the other. Assumes nothing.
use Rattle.texts.proofs.Heading.{put_pieces}
use Rattle.texts.proofs.put_heading.Goals as goal

pub returns : goal.returns
returns c =
    put_pieces _ _ c.requires.1 c.put_bytes-after_mark.ensures c.put_number-after_w.ensures
    c.put_bytes-after_space.ensures c.put_number-after_h.ensures c.put_bytes.ensures
