use Rattle.std.proofs.Common.{◌∙◌, sym, ap, subst}
use Rattle.std.proofs.lemmas.Result.{err_from_is_err_and}
use Rattle.path_ast.specs.Terms.{query_term}
use Rattle.label_scope.specs.declared.scope.Scope.TheVariants.{All}
use Rattle.plan_cache.specs.Nodes.{IsNodeOf, narrowed_member}
use Rattle.itpg_session.specs.Machine.{Standing}
use Rattle.itpg_session.proofs.Planned.{alike_same}
use Rattle.itpg_session.proofs.Accepting.{added_watch, unadded_watch, right_added, right_same, node_foot}
use Rattle.itpg_session.proofs.session.Session.add_planned.Goals as goal
use Rattle.itpg_session.proofs.session.Session.add_planned.Goals.{in-Ok, in-Err}

pub returns-in_err-foot-clause-decides : goal.returns-in_err-foot-clause-decides
returns-in_err-foot-clause-decides c = let p = err_from_is_err_and c.from_residual.result c.from_residual.ensures.1 in rw (p.1) (alike_same c.args.self.now, tt)

pub invariant_of-self : goal.invariant_of-self
invariant_of-self c = record {
  kept = (elim c.match-add.branch [
    | in-Ok w ↦
        let q = query_term c.args.query in
        let foot = node_foot c.self.inside.plans.nodes c.args.no.0 q c.foot_of.result.now (subst (λ (s : Standing). IsNodeOf s.table.nodes c.args.no.0 (narrowed_member q.path All All)) (sym c.self.view_is) c.requires.planned) c.foot_of.ensures in
        right_added c.self.inside.graph c.self.inside.limits c.self.inside.plans c.self.inside.watches c.add.new.self c.args.name q c.args.no.0 c.in_ok-foot.foot w.in-Ok.ensures.added
        (subst (λ (s : Standing). IsNodeOf s.table.nodes c.args.no.0 (narrowed_member q.path All All)) (sym c.self.view_is) c.requires.planned) (c.in_ok-foot.ensures ∙ foot) c.self.invariant.kept
    | in-Err w ↦ right_same c.self.inside.graph c.self.inside.limits c.self.inside.plans c.self.inside.watches c.add.new.self w.in-Err.ensures.same c.self.invariant.kept
  ]);
  pins_limit = c.self.invariant.pins_limit;
  follows_right = c.self.invariant.follows_right;
}

pub returns-clause-decides : goal.returns-clause-decides
returns-clause-decides c = elim c.match-add.branch [
  | in-Ok w ↦
      rw (w.result-is) (added_watch c.self.inside.graph c.self.inside.limits c.self.inside.plans c.self.inside.watches c.self.inside.pins.pins c.self.inside.follows c.args.self.now c.self.view_is c.add.new.self c.args.name (query_term c.args.query) c.args.no.0 c.in_ok-foot.foot
      c.requires.unbroken w.in-Ok.ensures.added)
  | in-Err w ↦ rw (w.result-is) (unadded_watch c.self.inside.graph c.self.inside.limits c.self.inside.plans c.self.inside.watches c.self.inside.pins.pins c.self.inside.follows c.args.self.now c.self.view_is c.add.new.self w.in-Err.ensures.same, tt)
]

pub returns-clause-table : goal.returns-clause-table
returns-clause-table c = ap (λ (s : Standing). s.table) c.self.view_is
