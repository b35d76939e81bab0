-- `affine::affine_tones` meets its contract: the test says whether the rule keeps the values, and the table has the
-- values or their tones. Assumes nothing.
use Rattle.std.proofs.Common.{◌≡◌, ℕ, ◌-◌, List, sym, ◌∙◌, arith}
use Rattle.histograms.specs.Histograms.{Histogram}
use Rattle.histograms.proofs.Stores.{refilled_outside}
use Rattle.histograms.proofs.Tables.{ruled_kept, ruled_toned}
use Rattle.affine.specs.Affine.{affine_kept}
use Rattle.points.proofs.Points.{cumulative}
use Rattle.affine.proofs.Tables.{drawn_whole, not_kept, kept_same, affine_tabled}
use Rattle.affine.proofs.affine_tones.Goals as goal
use Rattle.affine.proofs.affine_tones.Goals.{After-keeps}

pub sum_up-requires : goal.sum_up-requires
sum_up-requires c =
    let range = c.requires.range in
    (range.order, omega (arith, drawn_whole c.requires, range.few))

pub invariant_of-curve : goal.invariant_of-curve
invariant_of-curve c = record { cumulative = cumulative c.requires.histogram c.requires.range c.sum_up.ensures }

tested : (c : After-keeps) (vs : List ℕ) →
    let a = c.args in
    Histogram vs a.counts.now a.c → c.keeps.result ≡ affine_kept a.s a.a a.b vs
tested c vs h = c.keeps.ensures ∙ kept_same c.args.s c.requires.range c.sum_up.ensures c.top_height-y.ensures.0 vs h

pub returns-then-keeps : goal.returns-then-keeps
returns-then-keeps c =
    let same = c.fill_same.ensures in (
      ruled_kept (tested (goal.at.returns-then-keeps c).After-keeps) c.if-keeps.true
          (λ v av vb. same.new v (omega arith) (omega arith)),
      record { counts_rest = c.sum_up.ensures.rest; table_rest = refilled_outside same },
    )

pub fill_lines-requires : goal.fill_lines-requires
fill_lines-requires c =
    let a = c.args in
    let y = c.top_height-y.ensures in
    let some = not_kept a.s.segments (a.b - a.a) c.top_height-y.result (sym c.keeps.ensures ∙ c.if-keeps.false) in
    ((some.0, (omega (arith, some.1), omega (arith, y.1))), y.0)

pub returns : goal.returns
returns c =
    let filled = c.fill_lines.ensures in
    let y = c.top_height-y.ensures.0 in (
      ruled_toned (tested (goal.at.returns c).After-keeps) c.if-keeps.false
          (affine_tabled c.args.s c.requires.range c.sum_up.ensures y filled),
      record { counts_rest = c.sum_up.ensures.rest; table_rest = refilled_outside filled },
    )
