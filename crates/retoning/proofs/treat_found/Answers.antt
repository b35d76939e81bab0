-- `retoning::treat_found` meets its contract: a component that is too small or lone is left alone, another gets its
-- tones and its next marks. Assumes nothing.
use Rattle.std.proofs.Common.{sym, ◌∙◌}
use Rattle.histograms.proofs.Stores.{outside_none}
use Rattle.retoning.proofs.Steps.{left_alone, gathered_some, gathered_size}
use Rattle.retoning.proofs.treat_found.Goals as goal

pub returns-then-is_inert : goal.returns-then-is_inert
returns-then-is_inert c =
    let gathered = c.requires.0 in
    let told = c.is_inert.ensures _ (gathered_some gathered) gathered.measured in
    record {
      done = λ vs A. left_alone c.args.pass c.args.next A _ (gathered_size gathered A)
          c.left_alone.ensures (sym told ∙ c.if-is_inert.true);
      counts_rest = outside_none _;
    }
