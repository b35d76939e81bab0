-- `conversion::put_record` meets its contract: the fields, and what follows them. Assumes nothing.
use Prim.Native.Nat.{ℕ}
use mathlib.Core.Path.{subst}
use mathlib.Core.List.{List, ◌++◌}
use native.Mathlib.Omega.{arith}
use Rattle.texts.specs.Placing.{Put}
use Rattle.texts.proofs.Placing.{put_more}
use Rattle.listformat.specs.Format.{encode_rest}
use Rattle.conversion.proofs.Putting.{rest_long, fields_long, fields_taken}
use Rattle.conversion.proofs.put_record.Goals as goal

pub put_bytes-rest-requires : goal.put_bytes-rest-requires
put_bytes-rest-requires c =
    let args = c.args in
    let long = fields_long args.list.now args.i c.requires.1 in
    omega (arith, long, rest_long args.edition, c.requires.0)

pub put_rest-requires : goal.put_rest-requires
put_rest-requires c =
    let args = c.args in
    let long = fields_long args.list.now args.i c.requires.1 in
    let put = c.put_bytes-rest in
    omega (arith, put.ensures.next, put.auto.output, long, rest_long args.edition, c.requires.0)

pub returns : goal.returns
returns c =
    let args = c.args in
    let long = fields_long args.list.now args.i c.requires.1 in
    let both =
    put_more c.put_bytes-rest.ensures c.put_rest.ensures
    (omega (arith, long, rest_long args.edition, c.requires.0)) in
    subst (λ (u : List ℕ). Put args.output.now args.at (u ++ encode_rest args.edition 4)
    c.put_rest.result c.put_rest.new.output) (fields_taken args.list.now args.i) both
