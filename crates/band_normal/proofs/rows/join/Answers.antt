use Rattle.std.proofs.Common.{List, sym, subst}
use Rattle.band_normal.specs.declared.band.Band.{Band}
use Rattle.band_normal.specs.declared.strips.Ends.{Ends}
use Rattle.itpg_base.specs.Lists.{Among, Ordered}
use Rattle.band_normal.specs.Strips.{Holds, AreRuns}
use Rattle.band_normal.specs.Rows.{AreRowsTo, RunsBelow}
use Rattle.itpg_base.proofs.Lists.{append_second}
use Rattle.band_normal.proofs.LineLemmas.{lining_start, waiting_formed, strip_formed, waiting_next, lined_follow, lining_step, lining_rows}
use Rattle.band_normal.proofs.rows.join.Goals as goal

pub loop-ends-init : goal.loop-ends-init
loop-ends-init g c =
    let rows = subst (λ (v : List Band). AreRowsTo (Holds g.held) c.args.strips.now.along.from v c.args.rows.reaching.items) (sym c.emptied-joining.ensures.complete) c.requires.0.rows in
    lining_start (Holds g.held) _ _ _ _ _ _ _ c.emptied-joining.ensures.next c.emptied-joining.ensures.passed c.deref.ensures.value rows c.requires.0.span c.requires.1

pub under_count-requires-clause-rows_formed : goal.under_count-requires-clause-rows_formed
under_count-requires-clause-rows_formed g c =
    λ b k. waiting_formed (Holds g.held) c.args.strips.now.along _ _ _ _ _ _ c.requires.0.in_range c.loop-ends.invariant b k

pub under_count-requires-clause-strip_formed : goal.under_count-requires-clause-strip_formed
under_count-requires-clause-strip_formed g c =
    let runs = subst (λ (v : List Ends). AreRuns (Holds g.held) c.args.strips.now.along v) (sym c.deref-ends-items.ensures.value) c.requires.0.runs_along in
    rw c.strip_along-strip.ensures (strip_formed (Holds g.held) c.args.strips.now.along _ _ _ _ _ _ _ c.requires.0.in_range runs c.requires.0.span c.loop-ends-test.true c.loop-ends.invariant)

pub leader-row-requires-clause-rows_formed : goal.leader-row-requires-clause-rows_formed
leader-row-requires-clause-rows_formed g c =
    λ b k. waiting_formed (Holds g.held) c.args.strips.now.along _ _ _ _ _ _ c.requires.0.in_range c.loop-ends.invariant b
    (subst (λ (v : List Band). Among v b) (sym c.split_at.ensures.by_index.0) (append_second _ _ b k))

pub leader-row-requires-clause-strip_formed : goal.leader-row-requires-clause-strip_formed
leader-row-requires-clause-strip_formed g c =
    let runs = subst (λ (v : List Ends). AreRuns (Holds g.held) c.args.strips.now.along v) (sym c.deref-ends-items.ensures.value) c.requires.0.runs_along in
    rw c.strip_along-strip.ensures (strip_formed (Holds g.held) c.args.strips.now.along _ _ _ _ _ _ _ c.requires.0.in_range runs c.requires.0.span c.loop-ends-test.true c.loop-ends.invariant)

pub leader-row-requires-clause-next : goal.leader-row-requires-clause-next
leader-row-requires-clause-next g c =
    rw c.strip_along-strip.ensures (λ b k. waiting_next (Holds g.held) c.args.strips.now.along _ _ _ _ _ _ c.loop-ends.invariant b
    (subst (λ (v : List Band). Among v b) (sym c.split_at.ensures.by_index.0) (append_second _ _ b k)))

pub with_strip-requires : goal.with_strip-requires
with_strip-requires g c =
    let runs = subst (λ (v : List Ends). AreRuns (Holds g.held) c.args.strips.now.along v) (sym c.deref-ends-items.ensures.value) c.requires.0.runs_along in
    let under = rw c.strip_along-strip.ensures at c.under_count.ensures.under in
    let over = rw c.strip_along-strip.ensures at c.under_count.ensures.next in
    let found = rw c.strip_along-strip.ensures at c.leader-row.ensures.found in
    let none = rw c.strip_along-strip.ensures at c.leader-row.ensures.none in
    let front = rw c.led_count.ensures at c.split_at-in-loop-ends.ensures.front in
    rw c.strip_along-strip.ensures (lined_follow (Holds g.held) c.args.strips.now.along _ _ _ _ _ _ _ c.requires.0.in_range runs c.requires.0.span c.loop-ends-test.true c.loop-ends.invariant
    _ _ _ _ _ c.leader-row.result c.split_at.ensures.by_index.0 c.split_at.ensures.front c.split_at.ensures.back under over c.leader-row.ensures.some found none c.split_at-in-loop-ends.ensures.by_index.0 front)

pub loop-ends-preserved : goal.loop-ends-preserved
loop-ends-preserved g c =
    let runs = subst (λ (v : List Ends). AreRuns (Holds g.held) c.args.strips.now.along v) (sym c.deref-ends-items.ensures.value) c.requires.0.runs_along in
    let under = rw c.strip_along-strip.ensures at c.under_count.ensures.under in
    let over = rw c.strip_along-strip.ensures at c.under_count.ensures.next in
    let found = rw c.strip_along-strip.ensures at c.leader-row.ensures.found in
    let none = rw c.strip_along-strip.ensures at c.leader-row.ensures.none in
    let front = rw c.led_count.ensures at c.split_at-in-loop-ends.ensures.front in
    let joins = rw c.strip_along-strip.ensures at c.in_ok-joining.ensures in
    lining_step (Holds g.held) c.args.strips.now.along _ _ _ _ _ _ _ c.requires.0.in_range runs c.requires.0.span c.loop-ends-test.true c.loop-ends.invariant
    _ _ _ _ _ c.leader-row.result c.split_at.ensures.by_index.0 c.split_at.ensures.front c.split_at.ensures.back under over c.leader-row.ensures.some found none c.split_at-in-loop-ends.ensures.by_index.0 front _ _ _ joins

pub returns-clause-rows : goal.returns-clause-rows
returns-clause-rows g c =
    let runs = subst (λ (v : List Ends). AreRuns (Holds g.held) c.args.strips.now.along v) (sym c.deref-ends-items.ensures.value) c.requires.0.runs_along in
    lining_rows (Holds g.held) c.args.strips.now.along _ _ _ _ _ _ _ _ runs c.requires.0.span c.loop-ends-test.false c.loop-ends.invariant c.in_ok-complete.ensures.complete c.in_ok-complete.ensures.next

pub returns-clause-line : goal.returns-clause-line
returns-clause-line g c = subst (λ (v : List Band). Ordered RunsBelow v) (sym c.in_ok-complete.ensures.next) c.loop-ends.invariant.next_line
