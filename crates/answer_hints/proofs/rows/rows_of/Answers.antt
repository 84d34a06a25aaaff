use Rattle.answer_hints.proofs.GrownTable.{empty_right}
use Rattle.answer_hints.proofs.rows.rows_of.Goals as goal

pub relation_in-requires-clause-right : goal.relation_in-requires-clause-right
relation_in-requires-clause-right c = empty_right c.args.graph.now c.args.max_rows c.new-plans.result c.new-plans.ensures.kept
