-- What is known of a path whose powers are taken.
use Rattle.path_ast.specs.Terms.{PathTerm}
use Rattle.plan_cache.specs.Nodes.{path_at}
use Rattle.path_eval.specs.declared.powers.Powers.{Powers}
use Rattle.path_eval.specs.Powers.{IsBody}

-- the path that is repeated
abbrev pub body_of : Powers → PathTerm
body_of p = path_at p.plans.now.nodes p.body.0

-- its relation is there
abbrev pub IsReady : Powers → Type 0
IsReady p = IsBody p.ground.now.graph.now (body_of p) p.passed.now p.ground.now.max_rows p.relation.now
