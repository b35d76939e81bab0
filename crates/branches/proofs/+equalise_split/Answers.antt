-- `branches::equalise` and `branches::split` meet their contracts. What each call leaves of plane and marks is what the
-- next requires. Assumes nothing.
use Prim.Native.Nat.{◌+◌, ◌-◌, ◌*◌, ◌≤◌}
use mathlib.Core.Path.{◌≡◌, refl, ap, ◌∙◌}
use native.Mathlib.Nat.{le_refl}
use native.Mathlib.Omega.{arith}
use Rattle.model.specs.declared.Counts.{Counts}
use Rattle.works.proofs.Works.{same_trans, same_length}
use Rattle.levels.proofs.Numbers.{numbered_order, numbered_some, numbered_many, halves_order, halves_room, next_not}
use Rattle.levels.proofs.Numbers.{low_numbered, high_numbered, half_some, twice}
use Rattle.branches.proofs.Halves.{due_section, apart_leaf, apart_node, next_halves, next_gone}
use Rattle.branches.proofs.Halves.{due_low, due_high, gone_high, apart_both}
use Rattle.branches.proofs.Branches.{small, told_few, branch_few, halves_few, leaf, node, halves}
use Rattle.branches.proofs.+equalise_split.Goals as goal

-- ## `equalise`, of measure t

pub equalise-next_of-next-requires : goal.equalise-next_of-next-requires
equalise-next_of-next-requires t c =
    let due = c.requires.1 in
    let N = due.numbered in
    ((λ e. numbered_many due.d N (c.deeper-more.ensures.yes e due.d N.k N.wide)), N.fits)

pub equalise-treat_section-t-requires : goal.equalise-treat_section-t-requires
equalise-treat_section-t-requires t c =
    let t = c.requires.0 in
    due_section (record { lent = c.args.work.now.lent; last = t.last; area = t.area }) c.requires.1
    (next_not c.next_of-next.ensures c.requires.1.numbered.real)

pub equalise-counts_of-counts-requires : goal.equalise-counts_of-counts-requires
equalise-counts_of-counts-requires t c =
    let lent = c.args.work.now.lent in
    let all = small lent.size.few lent.whole c.treat_section-t.ensures.done.treated in
    (all.1.0, (all.1.1, c.below.ensures.few))

pub equalise-split-halves-requires : goal.equalise-split-halves-requires
equalise-split-halves-requires t c =
    let lent = c.args.work.now.lent in
    let due = c.requires.1 in
    let N = due.numbered in
    let D = c.deeper-more.ensures in
    let X = c.next_of-next.ensures in
    let e = c.if-more.true in
    let measured : 2 * (c.args.branch.b - c.args.branch.a) + 1 ≡ t = c.decreases in
    rw c.treat_section-t.ensures.same.shape (
      omega (arith, D.some e),
      (
        c.requires.0,
        next_halves c.args.work.now.shape c.args.settings lent.whole c.treat_section-t.ensures.done
            due.coded due.marks_are (X.middle ∙ c.mid.ensures) (X.halves e) (le_refl _) refl refl
            due.d (D.yes e due.d N.k N.wide) N,
      ),
    )

pub equalise-plus-requires : goal.equalise-plus-requires
equalise-plus-requires t c =
    let lent = c.args.work.now.lent in
    let due = c.requires.1 in
    let N = due.numbered in
    let some = c.deeper-more.ensures.yes c.if-more.true due.d N.k N.wide in
    let here = told_few lent.size.few lent.whole c.below.ensures.few c.treat_section-t.ensures.done.treated in
    let shape = c.treat_section-t.ensures.same.shape in
    let below = halves_few due.d some N (same_length c.treat_section-t.ensures.same ∙ lent.whole) lent.size.few
    (rw shape at c.split-halves.ensures.done) in
    let counts = c.counts_of-counts.ensures in
    let spans : c.args.branch.span * 1048576 ≤ 255 * 1048576 = omega (arith, N.fits, N.real) in (
      omega (arith, here.0, below.0, ap (λ (x : Counts). x.retoned) counts),
      omega (arith, here.1, below.1, ap (λ (x : Counts). x.kept) counts),
    )

pub equalise-returns-then-more : goal.equalise-returns-then-more
equalise-returns-then-more t c =
    let lent = c.args.work.now.lent in
    let due = c.requires.1 in
    let N = due.numbered in
    let T = c.treat_section-t.ensures.done.treated in
    let D = c.deeper-more.ensures in
    let X = c.next_of-next.ensures in
    let e = c.if-more.true in
    let H = rw c.treat_section-t.ensures.same.shape at c.split-halves.ensures.done in
    let some = D.yes e due.d N.k N.wide in
    let many = numbered_many due.d N some in
    let left = next_gone c.args.work.now.shape c.args.settings lent.whole c.treat_section-t.ensures.done due.coded
    due.marks_are (X.middle ∙ c.mid.ensures) (X.halves e) (le_refl _) refl refl due.d some N in
    let E = node c.args.work.now.shape c.args.settings c.below.ensures T D e H left
    (apart_node (numbered_order N) lent.whole T N.real many due.marks_are (X.halves e) H.apart) in
    record {
      same = same_trans c.treat_section-t.ensures.same c.split-halves.ensures.same;
      done = rw c.plus.ensures (rw c.counts_of-counts.ensures E);
    }

pub equalise-returns : goal.equalise-returns
equalise-returns t c =
    let lent = c.args.work.now.lent in
    let due = c.requires.1 in
    let N = due.numbered in
    let T = c.treat_section-t.ensures.done.treated in
    let D = c.deeper-more.ensures in
    let X = c.next_of-next.ensures in
    let e = c.if-more.false in
    let E = leaf c.args.work.now.shape c.args.settings c.below.ensures T D e
    (apart_leaf (numbered_order N) lent.whole T N.real (numbered_some N) due.marks_are (X.none e)) in
    record {
      same = c.treat_section-t.ensures.same;
      done = rw c.counts_of-counts.ensures E;
    }

-- ## `split`, of measure t

pub split-equalise-lower-requires : goal.split-equalise-lower-requires
split-equalise-lower-requires t c =
    let due = c.requires.1 in
    let measured : 2 * (c.args.branch.b - c.args.branch.a) ≡ t = c.decreases in
    rw c.lower-low.ensures (omega (arith, halves_order due.numbered), (c.requires.0, due_low due))

pub split-upper-high-requires : goal.split-upper-high-requires
split-upper-high-requires t c =
    let N = c.requires.1.numbered in
    (numbered_some N, (omega (arith, halves_room N), omega (arith, halves_order N)))

pub split-equalise-upper-requires : goal.split-equalise-upper-requires
split-equalise-upper-requires t c =
    let due = c.requires.1 in
    let lower = rw c.lower-low.ensures at c.equalise-lower.ensures in
    let measured : 2 * (c.args.branch.b - c.args.branch.a) ≡ t = c.decreases in
    rw c.upper-high.ensures (rw lower.same.shape (
      omega (arith, halves_order due.numbered),
      (c.requires.0, due_high due c.args.work.now.lent.whole (same_length lower.same) lower.done.apart),
    ))

pub split-plus-requires : goal.split-plus-requires
split-plus-requires t c =
    let lent = c.args.work.now.lent in
    let N = c.requires.1.numbered in
    let lower = rw c.lower-low.ensures at c.equalise-lower.ensures in
    let upper = rw lower.same.shape at (rw c.upper-high.ensures at c.equalise-upper.ensures).done in
    let low = branch_few (low_numbered N) lent.whole lent.size.few lower.done in
    let high = branch_few (high_numbered N) (same_length lower.same ∙ lent.whole) lent.size.few upper in
    let spans : c.args.branch.span * 1048576 ≤ 255 * 1048576 = omega (arith, N.fits, N.real) in (
      omega (arith, low.0, high.0, half_some N, twice N),
      omega (arith, low.1, high.1, half_some N, twice N),
    )

pub split-returns : goal.split-returns
split-returns t c =
    let lower = rw c.lower-low.ensures at c.equalise-lower.ensures in
    let upper = rw c.upper-high.ensures at c.equalise-upper.ensures in
    let low = lower.done in
    let high = rw lower.same.shape at upper.done in
    let whole = c.args.work.now.lent.whole in
    let long = same_length lower.same in
    let H = halves low high (gone_high c.requires.1 whole long low.apart)
    (apart_both c.requires.1 whole long low.apart high.apart) in
    record { same = same_trans lower.same upper.same; done = rw c.plus.ensures H }
