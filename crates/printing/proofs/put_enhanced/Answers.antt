-- `printing::put_enhanced` meets its contract: the enhancement is not refused, for its memory has room for 16,384
-- pixels, and neither is writing, for the output has room for a heading and their channels. Assumes nothing.
use native.Mathlib.Omega.{arith}
use borrow.Author.Rules.{rules}
use lib.ListN.{length-drop}
use lib.Seq.{length-take-le}
use Rattle.printing.proofs.Enhancing.{raster_lent, recoloured, emitted_enhanced, always_written}
use Rattle.printing.proofs.put_enhanced.Goals as goal

pub unwrap-requires : goal.unwrap-requires
unwrap-requires c =
    let few = c.requires.sized.few in
    let placed = c.requires.placed in
    let filled = c.requires.filled in
    always_written c.requires _ _ c.write.ensures (grind (arith, length-take-le, length-drop)) (search rules)

pub returns : goal.returns
returns c =
    let few = c.requires.sized.few in
    let raster = raster_lent c.args.input.now c.args.header.offset in
    let enhanced =
    recoloured c.requires c.enhance.ensures c.house.ensures raster
    (record {
      pixels = length-take-le _ _ (omega arith);
      marked = omega arith;
      queued = omega arith;
      coloured = omega arith;
    }) in
    emitted_enhanced c.requires _ c.write.ensures c.unwrap.ensures enhanced
