use Rattle.itpg_base.proofs.Lists.{among_at}
use Rattle.wide_witness.proofs.StepRows.{all_on, none_on, one_more_on}
use Rattle.wide_witness.proofs.along.lead_one_on.Goals as goal

pub leads_one_on-requires : goal.leads_one_on-requires
leads_one_on-requires c = c.requires _ (among_at c.args.rows.now c.loop-row.row-index _ c.loop-row-test.true)

pub loop-row-init : goal.loop-row-init
loop-row-init c = none_on c.args.rows.now

pub loop-row-preserved : goal.loop-row-preserved
loop-row-preserved c = one_more_on c.args.rows.now c.loop-row.row-index _ c.loop-row-test.true (c.leads_one_on.ensures c.if-not-leads_one_on.false) c.loop-row.invariant

pub returns : goal.returns
returns c = λ _. all_on c.args.rows.now c.loop-row.row-index c.loop-row-test.false c.loop-row.invariant
