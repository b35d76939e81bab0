-- `tones::is_lone` meets its contract: all values are one exactly where the least is the greatest. Assumes nothing.
use mathlib.Core.Path.{sym, ap, ap₂, ◌∙◌}
use lib.Dec.{eqb}
use Rattle.tones.specs.declared.Rule.{Rule}
use Rattle.tones.specs.Lone.{lone}
use Rattle.tones.proofs.Lone.{one_measured}
use Rattle.tones.proofs.is_lone.Goals as goal

pub returns-in-Plain : goal.returns-in-Plain
returns-in-Plain c = λ vs some m. ap₂ eqb m.least_is m.greatest_is
    ∙ one_measured vs some
    ∙ sym (ap (λ (rule : Rule). lone rule vs) c.in-Plain.is)
