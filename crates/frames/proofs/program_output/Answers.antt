-- `frames::program_output` meets its contract, in each of its three cases: the input is too long, reading refuses it,
-- or reading accepts it. Assumes nothing.
use mathlib.Core.Path.{sym, ap, ◌∙◌}
use Rattle.netpbm.specs.Reading.{answer_of}
use Rattle.netpbm.proofs.Frames.{accepted_iff}
use Rattle.netpbm.proofs.Replies.{read_back}
use Rattle.frames.proofs.Program.{long_emitted, read_emitted}
use Rattle.frames.proofs.program_output.Goals as goal

pub returns-then-input-gt-INPUT : goal.returns-then-input-gt-INPUT
returns-then-input-gt-INPUT c = long_emitted _ c.if-input-gt-INPUT.true (rw c.number.ensures at c.put_refusal.ensures)

pub put_enhanced-requires : goal.put_enhanced-requires
put_enhanced-requires c =
    let answer = sym (read_back _ _ c.read_within.result c.read_within.ensures) in
    (accepted_iff _ _ _ _ _).0 (answer ∙ ap answer_of c.in-Ok.is)

pub returns-in-Ok : goal.returns-in-Ok
returns-in-Ok c =
    let answer = sym (read_back _ _ c.read_within.result c.read_within.ensures) in
    read_emitted _ c.if-input-gt-INPUT.false (answer ∙ ap answer_of c.in-Ok.is) c.put_enhanced.ensures

pub returns-in-Err : goal.returns-in-Err
returns-in-Err c =
    let answer = sym (read_back _ _ c.read_within.result c.read_within.ensures) in
    read_emitted _ c.if-input-gt-INPUT.false (answer ∙ ap answer_of c.in-Err.is)
    (rw c.number-in-Err.ensures at c.put_refusal-in-Err.ensures)
