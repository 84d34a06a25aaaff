use Rattle.std.proofs.Common.{[]}
use Rattle.path_ast.specs.Terms.{path_term}
use Rattle.itpg_session.proofs.Adding.{adds_worked}
use Rattle.itpg_session.proofs.asking.found_alone.Goals as goal

pub returns-clause-adds : goal.returns-clause-adds
returns-clause-adds c =
    adds_worked (path_term c.args.query.now.path) [] c.args.plans.now c.planned_alone.new.plans c.find.new.plans c.in_ok-no.no.0 c.in_ok-no.ensures.node c.in_ok-no.ensures.adds c.find.ensures.worked c.find.ensures.only
