-- `texts::put_bytes` meets its contract. Assumes nothing.
use Prim.Native.Nat.{◌+◌, ◌<◌}
use mathlib.Core.Path.{◌≡◌, refl, ◌∙◌}
use native.Mathlib.Numerals.{add-one}
use native.Mathlib.Omega.{arith}
use lib.ListN.{length}
use lib.Seq.{paste-zero, paste-suc, take-length}
use Rattle.texts.proofs.put_bytes.Goals as goal

pub loop-i-init : goal.loop-i-init
loop-i-init c = paste-zero c.args.output.now c.args.at c.args.bytes.now

pub loop-i-preserved : goal.loop-i-preserved
loop-i-preserved c =
    let i = c.loop-i.i in
    let output = c.args.output.now in
    let room : c.args.at + i < length output = omega (arith, c.requires, c.loop-i-test.true) in
    rw (c.loop-i.invariant, add-one i) (paste-suc output c.args.at c.args.bytes.now i 0 room c.loop-i-test.true)

pub returns : goal.returns
returns c =
    let all : c.loop-i.i ≡ length c.args.bytes.now = omega (arith, c.loop-i-test.false, c.loop-i.auto.i-end) in
    record { next = refl; leaves = c.loop-i.invariant ∙ rw (all, take-length c.args.bytes.now) }
