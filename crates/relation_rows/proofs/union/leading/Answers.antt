use Rattle.std.proofs.Common.{sym, ◌∙◌}
use Rattle.relation_rows.proofs.Merged.{key_more, later_scanned}
use Rattle.relation_rows.proofs.union.leading.Goals as goal

pub returns-then-not-is_of_key-clause-later : goal.returns-then-not-is_of_key-clause-later
returns-then-not-is_of_key-clause-later c = later_scanned c.args.rows.now c.args.key.now c.requires.order c.requires.up c.loop-i.i _ c.loop-i-test.true (sym c.is_of_key.ensures ∙ c.if-not-is_of_key.true)

pub loop-i-preserved : goal.loop-i-preserved
loop-i-preserved c = key_more c.args.rows.now c.args.key.now c.loop-i.i _ c.loop-i-test.true c.loop-i.invariant (sym c.is_of_key.ensures ∙ c.if-not-is_of_key.false)
