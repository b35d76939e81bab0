-- `retoning::retone` meets its contract: the component gets the rule's tones and its next marks. Assumes nothing.
use mathlib.Core.Path.{refl}
use native.Mathlib.Omega.{arith}
use Rattle.retoning.proofs.Steps.{done, lively_large, gathered_size}
use Rattle.retoning.proofs.retone.Goals as goal

pub returns : goal.returns
returns c =
    let gathered = c.requires.0.0 in
    let lively = c.requires.1 in
    record {
      done = λ vs A. done c.args.pass c.args.next A _ (gathered_size gathered A)
          (omega (arith, lively_large _ _ lively, gathered.measured.size)) lively
          (c.tone_table-retoned.ensures.tones vs A) c.paint.ensures
          c.from.ensures c.from-2.ensures refl;
      counts_rest = c.tone_table-retoned.ensures.confined.counts_rest;
    }
