use Rattle.std.proofs.Common.{◌-◌, arith}
use Rattle.itpg_base.proofs.Lists.{among_at}
use Rattle.relation_rows.specs.Apart.{ComesClear}
use Rattle.relation_rows.proofs.ClearRows.{all_next}
use Rattle.relation_rows.proofs.Neighbours.{none_next, one_next}
use Rattle.relation_rows.proofs.apart.stand_clear.Goals as goal

pub loop-i-init : goal.loop-i-init
loop-i-init c = none_next ComesClear c.args.rows.now

pub loop-i-preserved : goal.loop-i-preserved
loop-i-preserved c = one_next ComesClear c.args.rows.now c.loop-i.i _ _ c.loop-i.auto.i c.loop-i-test.true c.loop-i.invariant (c.comes_clear.ensures c.if-not-comes_clear.false)

pub returns : goal.returns
returns c = λ e. all_next c.args.rows.now c.loop-i.i c.requires (omega arith) c.loop-i.invariant

pub comes_clear-requires-clause-last : goal.comes_clear-requires-clause-last
comes_clear-requires-clause-last c = let within = c.loop-i-test.true in (c.requires _ (among_at c.args.rows.now (c.loop-i.i - 1) _ (omega (arith, within)))).formed

pub comes_clear-requires-clause-row : goal.comes_clear-requires-clause-row
comes_clear-requires-clause-row c = (c.requires _ (among_at c.args.rows.now c.loop-i.i _ c.loop-i-test.true)).formed
