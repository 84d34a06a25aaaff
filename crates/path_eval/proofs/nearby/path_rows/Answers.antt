use Rattle.std.proofs.Common.{slice_get}
use Rattle.std.proofs.lemmas.Result.{IfOk-weaker}
use Rattle.path_ast.specs.Terms.{path_term}
use Rattle.label_scope.specs.declared.scope.Scope.TheVariants.{All}
use Rattle.path_eval.proofs.Asked.{right_rows}
use Rattle.path_eval.proofs.Sources.{new_right}
use Rattle.path_eval.proofs.nearby.path_rows.Goals as goal

pub relation_on-requires-clause-right : goal.relation_on-requires-clause-right
relation_on-requires-clause-right c = new_right c.args.part.now c.args.max_rows c.new-plans.result c.intern.new.self c.new-plans.ensures.kept c.intern.ensures.kept

pub returns-clause-rows : goal.returns-clause-rows
returns-clause-rows c =
    IfOk-weaker c.relation_on.result _ _
    (λ r h. (right_rows c.args.part.now c.args.max_rows (path_term c.args.query.now.path) All All c.relation_on.ensures.good (slice_get c.intern.new.self.nodes c.in_ok-no.no.0) c.in_ok-no.ensures.node r.value h).0)
    c.relation_on.ensures.rows

pub returns-clause-fits : goal.returns-clause-fits
returns-clause-fits c =
    IfOk-weaker c.relation_on.result _ _
    (λ r h. (right_rows c.args.part.now c.args.max_rows (path_term c.args.query.now.path) All All c.relation_on.ensures.good (slice_get c.intern.new.self.nodes c.in_ok-no.no.0) c.in_ok-no.ensures.node r.value h).1)
    c.relation_on.ensures.rows
