use Rattle.relation_rows.proofs.Alone.{some_first}
use Rattle.relation_rows.proofs.union.alone_count.Goals as goal

pub returns-clause-first : goal.returns-clause-first
returns-clause-first c = some_first c.args.left.now c.args.right.now c.requires.left c.requires.right c.in-Some.next.now c.in-Some.ensures.value c.leading_before.result c.leading_before.ensures.within c.leading_before.ensures.point
