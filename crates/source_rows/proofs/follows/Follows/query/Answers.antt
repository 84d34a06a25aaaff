use Rattle.path_ast.specs.Terms.{query_term}
use Rattle.source_rows.proofs.FollowLists.{asked_at}
use Rattle.source_rows.proofs.follows.Follows.query.Goals as goal

pub returns-clause-in_range : goal.returns-clause-in_range
returns-clause-in_range c = (asked_at c.self.inside.items.items c.args.self.now c.args.i c.index.result.now (query_term c.query.result.now) c.self.view_is c.self.invariant c.requires c.index.ensures c.query.ensures).in_range

pub returns-clause-terms : goal.returns-clause-terms
returns-clause-terms c = (asked_at c.self.inside.items.items c.args.self.now c.args.i c.index.result.now (query_term c.query.result.now) c.self.view_is c.self.invariant c.requires c.index.ensures c.query.ensures).terms

pub returns-clause-ends : goal.returns-clause-ends
returns-clause-ends c = (asked_at c.self.inside.items.items c.args.self.now c.args.i c.index.result.now (query_term c.query.result.now) c.self.view_is c.self.invariant c.requires c.index.ensures c.query.ensures).ends
