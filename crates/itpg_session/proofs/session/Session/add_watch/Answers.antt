use Rattle.path_ast.specs.Terms.{path_term, query_term}
use Rattle.itpg_session.specs.Machine.{WatchesQuery}
use Rattle.itpg_session.proofs.Accepting.{decides_alike, adds_then}
use Rattle.itpg_session.proofs.session.Session.add_watch.Goals as goal

pub returns-clause-decides : goal.returns-clause-decides
returns-clause-decides c =
    decides_alike (λ m t. WatchesQuery m c.args.name (query_term c.args.query) t) (Unit {0}) c.args.self.now c.planned.new.self c.add_planned.new.self c.add_planned.result c.in_ok-no.ensures.alike c.add_planned.ensures.decides

pub returns-clause-adds : goal.returns-clause-adds
returns-clause-adds c = adds_then (path_term c.args.query.path) c.args.self.now.machine.watches c.args.self.now.table c.planned.new.self.table c.add_planned.new.self.table c.add_planned.ensures.table c.planned.ensures.adds

pub returns-in_err-no-clause-adds : goal.returns-in_err-no-clause-adds
returns-in_err-no-clause-adds c = c.planned.ensures.adds
