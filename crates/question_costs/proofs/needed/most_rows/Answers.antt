use Rattle.std.proofs.Common.{◌+◌, sym, subst}
use Rattle.std.proofs.lemmas.List.{drop_all}
use Rattle.question_costs.proofs.NeededLemmas.{IsGreatestSoFar, before_all, with_next, after_all, one_without}
use Rattle.question_costs.proofs.needed.most_rows.Goals as goal

pub loop-member-init : goal.loop-member-init
loop-member-init c = before_all c.args.members.now

pub loop-member-preserved : goal.loop-member-preserved
loop-member-preserved c =
    subst (IsGreatestSoFar c.args.members.now (c.loop-member.member-index + 1)) (sym c.max-most.ensures)
    (with_next c.args.members.now c.loop-member.member-index c.loop-member.most c.member-item.result c.in-Rows.rows c.loop-member-test.true (sym c.member-item.is) c.in-Rows.is c.loop-member.invariant)

pub returns : goal.returns
returns c = after_all c.args.members.now c.loop-member.member-index c.loop-member.most (drop_all c.loop-member.member-index c.args.members.now c.loop-member-test.false) c.loop-member.invariant

pub returns-in_default : goal.returns-in_default
returns-in_default c = one_without c.args.members.now c.loop-member.member-index c.member-item.result c.loop-member-test.true (sym c.member-item.is) c.in_default.not-Rows
