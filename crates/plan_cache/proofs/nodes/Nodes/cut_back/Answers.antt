use Rattle.std.proofs.Common.{[], take, sym, ap, subst, ◌∙◌}
use Rattle.plan_cache.specs.Stored.{nodes_from, AreStored}
use Rattle.plan_cache.proofs.Placing.{table_cut, nodes_cut}
use Rattle.plan_cache.proofs.nodes.Nodes.cut_back.Goals as goal

pub invariant_of-self : goal.invariant_of-self
invariant_of-self c = subst AreStored (sym c.truncate.ensures.keys) (table_cut c.self.inside.keys.keys c.args.len c.self.invariant)

pub returns : goal.returns
returns c = ap (nodes_from []) c.truncate.ensures.keys ∙ nodes_cut c.self.inside.keys.keys c.args.len ∙ ap (take c.args.len) c.self.view_is
