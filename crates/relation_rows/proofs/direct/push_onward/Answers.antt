use Rattle.itpg_base.proofs.Lists.{among_at}
use Rattle.relation_rows.specs.Ways.{GoesOn}
use Rattle.relation_rows.proofs.DirectWays.{none_onward, onward_more, all_onward, not_told, then_stopped}
use Rattle.relation_rows.proofs.direct.push_onward.Goals as goal

pub loop-i-init : goal.loop-i-init
loop-i-init c = none_onward c.args.row.now c.args.here.now c.args.ways.now.items

pub push_told-requires-clause-next : goal.push_told-requires-clause-next
push_told-requires-clause-next c = c.requires.here _ (among_at c.args.here.now c.loop-i.i _ c.loop-i-test.true)

pub push_told-requires-clause-same : goal.push_told-requires-clause-same
push_told-requires-clause-same c = c.requires.source _ (among_at c.args.here.now c.loop-i.i _ c.loop-i-test.true)

pub loop-i-preserved : goal.loop-i-preserved
loop-i-preserved c =
    onward_more c.args.row.now c.args.here.now c.loop-i.i _ c.loop-i-test.true _ _ c.push_told.new.ways.items c.loop-i.invariant
    c.in_ok-push_told.field-0 c.if-not-branch.false c.in_ok-push_told.ensures

pub returns-then-not-branch : goal.returns-then-not-branch
returns-then-not-branch c = then_stopped _ _ (GoesOn c.args.row.now c.args.here.now) _ _ _ _ c.push_told.new.ways.items c.loop-i.invariant c.in_ok-push_told.ensures

pub returns : goal.returns
returns c = all_onward c.args.row.now c.args.here.now c.loop-i.i _ _ c.loop-i-test.false c.loop-i.invariant

pub returns-then-are_in_vain : goal.returns-then-are_in_vain
returns-then-are_in_vain c = not_told (GoesOn c.args.row.now c.args.here.now) _ _ c.loop-i.invariant.lone
