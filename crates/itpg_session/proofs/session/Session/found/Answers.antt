use Rattle.std.proofs.Common.{sym, subst}
use Rattle.path_ast.specs.Terms.{path_term}
use Rattle.label_scope.specs.declared.scope.Scope.TheVariants.{All}
use Rattle.plan_cache.specs.Nodes.{IsNodeOf, narrowed_member}
use Rattle.itpg_session.specs.Machine.{Standing}
use Rattle.itpg_session.specs.Keeping.{AddsOrRenews}
use Rattle.itpg_session.proofs.Adding.{adds_worked}
use Rattle.itpg_session.proofs.session.Session.found.Goals as goal

pub returns-clause-adds : goal.returns-clause-adds
returns-clause-adds c =
    let p = path_term c.args.query.now.path in
    let planned = subst (λ (s : Standing). AddsOrRenews p c.args.self.now.machine.watches c.args.self.now.table s.table) (sym c.self.view_is) c.in_ok-no.ensures.adds in
    let node = subst (λ (s : Standing). IsNodeOf s.table.nodes c.in_ok-no.no.0 (narrowed_member p All All)) (sym c.self.view_is) c.in_ok-no.ensures.node in
    adds_worked p c.args.self.now.machine.watches c.args.self.now.table c.self.inside.plans c.find.new.plans c.in_ok-no.no.0 node planned c.find.ensures.worked c.find.ensures.only
