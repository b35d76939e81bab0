-- `capi::mlhe_read` meets its contract: as the call, with the frame's numbers in the lent ones. Assumes nothing.
use Rattle.std.proofs.Common.{ap, ◌∙◌}
use Rattle.std.proofs.Common.{length}
use Rattle.netpbm.specs.Reading.{Answer}
use Rattle.netpbm.proofs.Replies.{read_back}
use Rattle.cnumbers.specs.Numbers.{read_number, numbers_after}
use Rattle.cnumbers.proofs.Numbers.{returned}
use Rattle.capi.proofs.mlhe_read.Goals as goal

pub returns : goal.returns
returns c =
    let numbers = c.args.numbers.now in
    let put = c.put_header in
    let same = read_back _ _ c.read.result c.read.ensures in
    record {
      answer = returned put.type_inv put.ensures.0 ∙ ap (λ (x : Answer). read_number x (length numbers)) same;
      numbers_are = put.ensures.1 ∙ ap (λ (x : Answer). numbers_after x numbers) same;
    }
