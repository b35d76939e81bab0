-- `conversion::put_rest` meets its contract: version 1 has nothing after the fields. Assumes nothing.
use Prim.Native.Nat.{◌+◌, ◌≤◌}
use mathlib.Core.Path.{sym, subst}
use native.Mathlib.Omega.{arith}
use lib.ListN.{length}
use Rattle.texts.specs.Placing.{Put}
use Rattle.listformat.specs.declared.Edition.{Edition}
use Rattle.listformat.specs.Format.{encode_rest}
use Rattle.conversion.proofs.Putting.{put_nothing}
use Rattle.conversion.proofs.put_rest.Goals as goal

pub put_bytes-requires : goal.put_bytes-requires
put_bytes-requires c =
    let room =
    subst (λ (e : Edition). c.args.at + length (encode_rest e 4) ≤ length c.args.output.now)
    c.in-Second.is c.requires in
    omega (arith, room)

pub returns-in-First : goal.returns-in-First
returns-in-First c =
    let args = c.args in
    subst (λ (e : Edition). Put args.output.now args.at (encode_rest e 4) args.at args.output.now)
    (sym c.in-First.is) (put_nothing args.output.now args.at)

pub returns-in-Second : goal.returns-in-Second
returns-in-Second c =
    let args = c.args in
    let r = c.put_bytes.result in
    subst (λ (e : Edition). Put args.output.now args.at (encode_rest e 4) r c.put_bytes.new.output)
    (sym c.in-Second.is) c.put_bytes.ensures
