use Rattle.std.proofs.Common.{◌+◌, ◌∙◌, take, sym, subst, true≢false}
use Rattle.std.specs.Global.{Global}
use Rattle.std.specs.declared.vec.Vec.{Vec}
use Rattle.relation_rows.specs.declared.times.OneRow.{OneRow}
use Rattle.relation_rows.proofs.Runs.{init, item_up, item_joined, item_pushed, all_read}
use Rattle.relation_rows.proofs.Coalescing.{Coalesced, coalesced_times, coalesced_few}
use Rattle.relation_rows.proofs.times.joined_all.Goals.{then-joins, else-joins+in_ok-push}
use Rattle.relation_rows.proofs.times.joined_all.Goals as goal

pub loop-row-init : goal.loop-row-init
loop-row-init c = init c.args.times.now c.in-Some.first.now c.new-rows.result.items c.new-rows.ensures.items c.in-Some.ensures.value c.requires.spans

pub joined-last-requires-clause-up : goal.joined-last-requires-clause-up
joined-last-requires-clause-up c = item_up c.args.times.now c.requires.order c.requires.spans c.loop-row.row-index c.row-item.result c.loop-row-test.true c.row-item.is c.loop-row.rows.items c.loop-row.last c.loop-row.invariant
    (c.joins.ensures.0 c.if-joins.true)

pub loop-row-preserved : goal.loop-row-preserved
loop-row-preserved c =
    elim c.if-joins.branch [
      | then-joins w ↦
          subst (λ (v : Vec OneRow Global). Coalesced (take (c.loop-row.row-index + 1 + 1) c.args.times.now) v.items c.if-joins.last) (sym w.rows-is)
          (subst (λ (v : OneRow). Coalesced (take (c.loop-row.row-index + 1 + 1) c.args.times.now) c.loop-row.rows.items v) (sym w.last-is)
          (item_joined c.args.times.now c.requires.order c.requires.spans c.loop-row.row-index c.row-item.result c.loop-row-test.true c.row-item.is c.loop-row.rows.items c.loop-row.last c.loop-row.invariant
          w.joined-last.result (c.joins.ensures.0 w.if-joins.true) w.joined-last.ensures.object w.joined-last.ensures.from w.joined-last.ensures.moments w.joined-last.ensures.span))
      | else-joins+in_ok-push w ↦
          (let pushed = w.in_ok-push.ensures.items in
          subst (λ (v : Vec OneRow Global). Coalesced (take (c.loop-row.row-index + 1 + 1) c.args.times.now) v.items c.if-joins.last) (sym w.rows-is)
          (subst (λ (v : OneRow). Coalesced (take (c.loop-row.row-index + 1 + 1) c.args.times.now) w.push.new.self.items v) (sym w.last-is)
          (item_pushed c.args.times.now c.requires.order c.requires.spans c.loop-row.row-index c.row-item.result c.loop-row-test.true c.row-item.is c.loop-row.rows.items c.loop-row.last c.loop-row.invariant
          (λ j. true≢false (sym (c.joins.ensures.1 j) ∙ w.if-joins.false)) w.push.new.self.items pushed)))
    ]

pub returns-clause-times : goal.returns-clause-times
returns-clause-times c =
    let pushed = c.in_ok-push-2.ensures.items in
    coalesced_times c.args.times.now c.loop-row.rows.items c.loop-row.last (all_read c.args.times.now c.loop-row.row-index c.loop-row.rows.items c.loop-row.last c.loop-row-test.false c.loop-row.invariant) c.push-2.new.self.items pushed

pub returns-clause-few : goal.returns-clause-few
returns-clause-few c =
    let pushed = c.in_ok-push-2.ensures.items in
    coalesced_few c.args.times.now c.loop-row.rows.items c.loop-row.last (all_read c.args.times.now c.loop-row.row-index c.loop-row.rows.items c.loop-row.last c.loop-row-test.false c.loop-row.invariant) c.push-2.new.self.items pushed
