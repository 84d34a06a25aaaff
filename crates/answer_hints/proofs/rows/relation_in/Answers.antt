use Rattle.std.proofs.Common.{slice_get}
use Rattle.path_ast.specs.Terms.{path_term}
use Rattle.path_ast.specs.Sizes.{path_size}
use Rattle.answer_hints.proofs.GrownTable.{grown_right}
use Rattle.answer_hints.proofs.RowLemmas.{answer_rows}
use Rattle.answer_hints.proofs.rows.relation_in.Goals as goal

pub relation_on-requires-clause-right : goal.relation_on-requires-clause-right
relation_on-requires-clause-right c =
    grown_right c.args.graph.now c.args.max_rows (path_size (path_term c.args.query.now.path)) c.args.plans.now c.intern.new.self c.intern.ensures.grows c.intern.ensures.kept c.requires.right

pub returns-in-Ok-clause-rows : goal.returns-in-Ok-clause-rows
returns-in-Ok-clause-rows c =
    answer_rows c.args.graph.now c.args.max_rows (path_term c.args.query.now.path) c.relation_on.ensures.good (slice_get c.intern.new.self.nodes c.in_ok-no.no.0) c.in_ok-no.ensures.node
    c.in-Ok.relation.value c.in-Ok.ensures.rows
