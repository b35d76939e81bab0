-- `sections::treat_plane` meets its contract: the plane is one component, and once it is treated all is done. Assumes
-- nothing.
use Prim.Native.Nat.{◌*◌, ◌≤◌}
use mathlib.Core.Path.{◌≡◌, refl, sym, ap, ◌∙◌}
use native.Mathlib.Nat.{mul-le-mul}
use native.Mathlib.Omega.{arith}
use Rattle.planes.specs.Shapes.{pixels}
use Rattle.histograms.specs.Histograms.{values}
use Rattle.histograms.proofs.Measured.{blank}
use Rattle.components.specs.Floods.{Flooded}
use Rattle.components.proofs.Whole.{plane_flooded, values_plane}
use Rattle.model.specs.Neighbourhoods.{pass_neighbours}
use Rattle.retoning.specs.Retoning.{inert}
use Rattle.retoning.proofs.Steps.{left_alone}
use Rattle.sections.proofs.Passing.{treatable, pass_begin, alike, listed, one_component}
use Rattle.sections.proofs.Passing.{plane_alike, plane_gathered, by_pass, whole_plane}
use Rattle.sections.proofs.treat_plane.Goals as goal
use Rattle.sections.proofs.treat_plane.Goals.{After-is_inert, After-take_plane-c, Start}

-- ## What is known there
some : (c : Start) → 1 * 1 ≤ pixels c.args.work.now.shape
some c = mul-le-mul c.requires.0.lent.size.wide c.requires.0.lent.size.high

size : (c : After-take_plane-c) → c.take_plane-c.result.size ≡ pixels c.args.work.now.shape
size c = c.take_plane-c.ensures.1.size ∙ c.requires.0.lent.whole

-- the plane is flooded, and the queue has its values
flooded : (c : After-take_plane-c) → (
    let s = c.args in
    Flooded (pass_neighbours s.work.now.shape s.pass) (pixels s.work.now.shape) 1 0
    s.work.now.marks.now s.work.now.queue.now
    c.take_plane-c.new.marks c.take_plane-c.new.queue c.take_plane-c.result.size)
flooded c =
    let lent = c.requires.0.lent in
    by_pass c.args.work.now.shape c.args.pass
    (plane_flooded c.args.work.now.shape c.args.pass.neighbours 1 lent.size.wide c.take_plane-c.ensures.0
    lent.spare c.requires.1 (size c))

values_are : (c : After-take_plane-c) →
    values c.args.work.now.plane.now c.take_plane-c.new.queue c.take_plane-c.result.size
    ≡ c.args.work.now.plane.now
values_are c =
    let lent = c.requires.0.lent in
    ap (values c.args.work.now.plane.now c.take_plane-c.new.queue) (size c)
    ∙ values_plane c.take_plane-c.ensures.0 lent.spare lent.whole

-- the test is that of the plane
told : (c : After-is_inert) → c.is_inert.result ≡ inert c.args.pass c.args.work.now.plane.now
told c =
    c.is_inert.ensures _ (omega (
      arith,
      mul-le-mul c.requires.0.lent.size.wide c.requires.0.lent.size.high,
      c.requires.0.lent.whole,
    )) c.take_plane-c.ensures.1

pub returns-then-is_inert : goal.returns-then-is_inert
returns-then-is_inert c =
    let d = treatable c.requires.0 in
    let h = some (goal.at.returns-then-is_inert c).Start in
    let F = flooded (goal.at.returns-then-is_inert c).After-take_plane-c in
    let A = plane_alike c.take_plane-c.result d h (c.requires.1 0 h) F (values_are
    (goal.at.returns-then-is_inert c).After-take_plane-c) in
    let R = left_alone c.args.pass c.args.next A _ (A.size ∙ sym c.take_plane-c.ensures.1.size)
    c.left_alone.ensures (sym (told (goal.at.returns-then-is_inert c).After-is_inert) ∙ c.if-is_inert.true) in
    record {
      same = record { plane = refl; marks = refl; queue = refl; shape = refl };
      done = one_component d h (c.requires.1 0 h)
          (whole_plane c.args.work.now.shape c.args.pass 1 _ c.requires.0.lent.size.wide c.requires.1) F R;
    }

pub histogram-requires : goal.histogram-requires
histogram-requires c =
    let lent = c.requires.0.lent in
    (blank _ refl refl, omega (arith, lent.whole, lent.size.few))

pub retone-requires : goal.retone-requires
retone-requires c =
    let d = treatable c.requires.0 in
    let h = some (goal.at.retone-requires c).Start in
    let F = flooded (goal.at.retone-requires c).After-take_plane-c in
    let is = values_are (goal.at.retone-requires c).After-take_plane-c in
    let lively = sym (told (goal.at.retone-requires c).After-is_inert) ∙ c.if-is_inert.false in (
      (
        plane_gathered c.take_plane-c.result d h (c.requires.1 0 h) F is c.take_plane-c.ensures.1
            c.histogram.ensures,
        listed d (pass_begin _ _ _ _ _ _ _ _) h (c.requires.1 0 h) F c.requires.0.lent.covered,
      ),
      ap (inert c.args.pass) is ∙ lively,
    )

pub returns : goal.returns
returns c =
    let d = treatable c.requires.0 in
    let h = some (goal.at.returns c).Start in
    let F = flooded (goal.at.returns c).After-take_plane-c in
    let R = c.retone.ensures.done _ (alike d (pass_begin _ _ _ _ _ _ _ _) h (c.requires.1 0 h) F) in
    record {
      same = record { plane = refl; marks = refl; queue = refl; shape = refl };
      done = one_component d h (c.requires.1 0 h)
          (whole_plane c.args.work.now.shape c.args.pass 1 _ c.requires.0.lent.size.wide c.requires.1) F R;
    }
