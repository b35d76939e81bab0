-- `recursion::run_levels` meets its contract: level 0 is treated with area 1, and its halves are due. Assumes nothing.
use Prim.Native.Nat.{ℕ, ◌*◌, ◌≤◌}
use mathlib.Core.Path.{◌≡◌, refl, ap, subst, ◌∙◌}
use mathlib.Core.Logic.{inl, inr}
use native.Mathlib.Nat.{mul-le-mul}
use native.Mathlib.Omega.{arith}
use lib.Dec.{ltb}
use lib.ListN.{length}
use Rattle.planes.specs.Shapes.{pixels}
use Rattle.works.proofs.Works.{same_trans}
use Rattle.planes.proofs.Tests.{decide}
use Rattle.model.specs.declared.Counts.{Counts}
use Rattle.model.proofs.Neighbourhoods.{pass_sym}
use Rattle.painting.specs.Painting.{Marked}
use Rattle.sections.proofs.Passing.{whole_plane, whole_size}
use Rattle.sections.proofs.Marked.{marked_coded, marked_whole, marked_section}
use Rattle.levels.specs.Levels.{Numbered}
use Rattle.levels.specs.declared.Settings.{Settings}
use Rattle.levels.proofs.Numbers.{numbered_many, root_numbered, next_not}
use Rattle.branches.proofs.Halves.{next_halves, next_gone}
use Rattle.branches.proofs.Branches.{small, told_few, halves_few}
use Rattle.branches.specs.Branches.{all_told}
use Rattle.recursion.specs.Recursion.{levels_left}
use Rattle.recursion.proofs.Root.{root_marks, whole_pass, root_only, root_halves}
use Rattle.recursion.proofs.run_levels.Goals as goal
use Rattle.recursion.proofs.run_levels.Goals.{After-counts_of-counts, After-deeper-more, After-levels_left}
use Rattle.recursion.proofs.run_levels.Goals.{After-treat_plane-t}

-- ## What is known there
-- level 0 has the number 1
numbered : (c : After-deeper-more) → (
    let last = c.args.settings.last in
    Numbered last 0 255 last 1 c.sections.result)
numbered c =
    let span = c.sections.ensures in
    root_numbered c.requires.last span.0 span.1

pub sections-requires : goal.sections-requires
sections-requires c = c.requires.last

pub deeper-more-requires : goal.deeper-more-requires
deeper-more-requires c = (omega arith, c.requires.last)

pub next_of-next-requires : goal.next_of-next-requires
next_of-next-requires c =
    let N = numbered (goal.at.next_of-next-requires c).After-deeper-more in
    ((λ e. numbered_many _ N (c.deeper-more.ensures.yes e _ N.k N.wide)), N.fits)

pub treat_plane-t-requires : goal.treat_plane-t-requires
treat_plane-t-requires c =
    let X = c.next_of-next.ensures in
    let M = subst (Marked _ c.args.work.now.plane.now c.args.work.now.marks.now _) c.pixels-n.ensures
    c.mark_section.ensures in
    (marked_section c.args.work.now.lent (omega arith) M (next_not X (omega arith)), marked_whole refl refl M)

-- where the plane was treated: it was marked
marking : (c : After-treat_plane-t) → (
    let s = c.args in
    Marked (whole_pass s.settings) s.work.now.plane.now s.work.now.marks.now c.mark_section.new.marks
    (pixels s.work.now.shape))
marking c =
    let c = c in
    let n = c.pixels-n in
    subst (Marked _ c.args.work.now.plane.now c.args.work.now.marks.now _) n.ensures c.mark_section.ensures

-- no more than 7 levels are left
few-left : (n : ℕ) (t : Settings) → t.last ≤ 7 → levels_left n t ≤ 7
few-left n t few = elim (decide (ltb n t.area)) [ inl d ↦ rw d (omega arith) | inr d ↦ rw d few ]

levels : (c : After-levels_left) → (
    let s = c.args in
    c.levels_left.result ≡ levels_left (pixels s.work.now.shape) s.settings)
levels c =
    let n = c.pixels-n in
    c.levels_left.ensures ∙ ap (λ (n : ℕ). levels_left n c.args.settings) n.ensures

pub counts_of-counts-requires : goal.counts_of-counts-requires
counts_of-counts-requires c =
    let all = small c.args.work.now.lent.size.few c.args.work.now.lent.whole c.treat_plane-t.ensures.done.treated in
    let few = few-left (pixels c.args.work.now.shape) c.args.settings c.requires.last in
    (all.1.0, (all.1.1, omega (arith, levels (goal.at.counts_of-counts-requires c).After-levels_left, few)))

pub split-halves-requires : goal.split-halves-requires
split-halves-requires c =
    let X = c.next_of-next.ensures in
    let M = marking (goal.at.split-halves-requires c).After-treat_plane-t in
    let e = c.if-more.true in
    let N = numbered (goal.at.split-halves-requires c).After-deeper-more in
    rw c.treat_plane-t.ensures.same.shape (
      c.requires,
      next_halves c.args.work.now.shape c.args.settings c.args.work.now.lent.whole c.treat_plane-t.ensures.done
          (marked_coded M) (root_marks _ M) (X.middle ∙ c.mid.ensures) (X.halves e) c.requires.area refl refl
          _ (c.deeper-more.ensures.yes e _ N.k N.wide) N,
    )

-- the counts of level 0
counts : (c : After-counts_of-counts) → (
    let s = c.args in
    c.counts_of-counts.result ≡ all_told (levels_left (pixels s.work.now.shape) s.settings) c.treat_plane-t.result)
counts c =
    let c = c in
    c.counts_of-counts.ensures ∙ ap (λ (x : ℕ). all_told x c.treat_plane-t.result)
    (c.levels_left.ensures ∙ ap (λ (n : ℕ). levels_left n c.args.settings) c.pixels-n.ensures)

pub plus-requires : goal.plus-requires
plus-requires c =
    let lent = c.args.work.now.lent in
    let N = numbered (goal.at.plus-requires c).After-deeper-more in
    let some = c.deeper-more.ensures.yes c.if-more.true _ N.k N.wide in
    let here = told_few lent.size.few lent.whole
    (few-left (pixels c.args.work.now.shape) c.args.settings c.requires.last) c.treat_plane-t.ensures.done.treated in
    let T = c.treat_plane-t.ensures in
    let long : length c.treat_plane-t.new.work.plane.now ≡ pixels c.args.work.now.shape =
    c.treat_plane-t.new.work.lent.whole ∙ ap pixels T.same.shape in
    let halves = halves_few _ some N long lent.size.few (rw T.same.shape at c.split-halves.ensures.done) in
    let told = counts (goal.at.plus-requires c).After-counts_of-counts in
    let spans : c.sections.result * 1048576 ≤ 255 * 1048576 = omega (arith, N.fits, N.real) in (
      omega (arith, here.0, halves.0, ap (λ (x : Counts). x.retoned) told),
      omega (arith, here.1, halves.1, ap (λ (x : Counts). x.kept) told),
    )

pub returns-then-more : goal.returns-then-more
returns-then-more c =
    let z = c.args.work.now.shape in
    let whole = whole_pass c.args.settings in
    let M = marking (goal.at.returns-then-more c).After-treat_plane-t in
    let N = numbered (goal.at.returns-then-more c).After-deeper-more in
    let X = c.next_of-next.ensures in
    let e = c.if-more.true in
    let some = c.deeper-more.ensures.yes e _ N.k N.wide in
    let lent = c.args.work.now.lent in
    let pixel = mul-le-mul lent.size.wide lent.size.high in
    let ones = marked_whole refl refl M in
    let sizes = whole_size (pass_sym z whole) lent.whole (marked_coded M) pixel (ones 0 pixel)
    (whole_plane z whole 1 _ lent.size.wide ones) in
    let left = next_gone z c.args.settings lent.whole c.treat_plane-t.ensures.done
    (marked_coded M) (root_marks _ M) (X.middle ∙ c.mid.ensures) (X.halves e) c.requires.area refl refl _ some N in
    let R = root_halves z c.args.settings M c.treat_plane-t.ensures.done.treated some c.requires.last lent.whole
    pixel sizes left (rw c.treat_plane-t.ensures.same.shape at c.split-halves.ensures.done) in
    let S = same_trans c.treat_plane-t.ensures.same c.split-halves.ensures.same in
    record {
      same = record { plane = S.plane; marks = S.marks; queue = S.queue; shape = S.shape };
      done = rw c.plus.ensures (rw (counts (goal.at.returns-then-more c).After-counts_of-counts) R);
    }

pub returns : goal.returns
returns c =
    let N = numbered (goal.at.returns c).After-deeper-more in
    let R = root_only c.args.work.now.shape c.args.settings (marking
    (goal.at.returns c).After-treat_plane-t) c.treat_plane-t.ensures.done.treated
    (c.deeper-more.ensures.none c.if-more.false _ N.k N.wide) in
    let S = c.treat_plane-t.ensures.same in
    record {
      same = record { plane = S.plane; marks = S.marks; queue = S.queue; shape = S.shape };
      done = rw (counts (goal.at.returns c).After-counts_of-counts) R;
    }
