use Rattle.std.proofs.Common.{List, map, ap, subst, ◌∙◌}
use Rattle.itpg_base.specs.Lists.{Among}
use Rattle.path_ast.specs.declared.ast.Query.{Query}
use Rattle.path_ast.specs.Terms.{query_term}
use Rattle.standing_queries.proofs.Keeping.{all_queries, each_query}
use Rattle.standing_queries.proofs.watches.Watches.queries.Goals as goal

pub returns-clause-queries : goal.returns-clause-queries
returns-clause-queries c = ap (map query_term) c.deref.ensures.value ∙ all_queries c.self.inside.queries.items c.self.inside.items.items c.args.self.now c.self.view_is c.self.invariant

pub returns-clause-each : goal.returns-clause-each
returns-clause-each c = λ q a. each_query c.self.inside.queries.items c.self.inside.items.items c.args.self.now c.self.view_is c.self.invariant q
    (subst (λ (qs : List Query). Among qs q) c.deref.ensures.value a)
