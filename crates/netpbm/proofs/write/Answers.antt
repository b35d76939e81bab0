-- `netpbm::write` meets its contract: the heading and then the raster are put from the output's beginning on, for which
-- there is room. Assumes nothing.
use mathlib.Core.Path.{sym}
use native.Mathlib.Omega.{arith}
use Rattle.texts.proofs.Placing.{put_more}
use Rattle.texts.proofs.Writing.{wrote_accepted}
use Rattle.netpbm.proofs.Writing.{writable}
use Rattle.netpbm.proofs.write.Goals as goal

pub returns : goal.returns
returns c =
    let none = c.in_ok-write_refusal.ensures in
    let fine = writable _ _ _ _ (sym none) in
    let whole = put_more c.put_heading-offset.ensures c.put_bytes.ensures (omega (arith, fine.room)) in
    wrote_accepted _ _ c.args.output.now c.put_bytes.result c.put_bytes.new.output none whole
