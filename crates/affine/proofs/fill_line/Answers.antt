-- `affine::fill_line` meets its contract. Assumes nothing.
use Rattle.std.proofs.Common.{rules}
use Rattle.affine.specs.Affine.{line_tone}
use Rattle.affine.proofs.fill_line.Goals as goal

pub returns : goal.returns
returns c =
    let a = c.args in
    c.refill.ensures (line_tone a.a a.b a.y a.p a.q) (λ v y xv vq p. search rules)
