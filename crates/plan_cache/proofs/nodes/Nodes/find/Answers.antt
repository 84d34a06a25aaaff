use Rattle.std.proofs.Common.{sym, ap, ◌∙◌}
use Rattle.std.specs.Prelude.{is_some}
use Rattle.plan_cache.proofs.Sought.{made_there, none_made}
use Rattle.plan_cache.proofs.nodes.Nodes.find.Goals as goal

pub returns-in-Some-clause-some : goal.returns-in-Some-clause-some
returns-in-Some-clause-some c =
    made_there c.self.inside.keys.keys c.args.self.now c.in-Some.index c.args.key.now c.self.invariant c.self.view_is (sym c.get_index_of.ensures.index ∙ c.in-Some.is)

pub returns-in-None-clause-none : goal.returns-in-None-clause-none
returns-in-None-clause-none c =
    λ _. none_made c.self.inside.keys.keys c.args.self.now c.args.key.now c.self.invariant c.self.view_is (sym c.get_index_of.ensures.found ∙ ap is_some c.in-None.is)
