use Rattle.std.proofs.Common.{refl, ap, subst}
use Rattle.itpg_edit.specs.Rules.{FirstOf}
use Rattle.itpg_session.specs.Rules.{NameBreaks, TickBreaks, name_rules, tick_rules}
use Rattle.itpg_session.specs.Replies.{Refused}
use Rattle.itpg_session.specs.Machine.{Standing, DropsWatch}
use Rattle.itpg_session.proofs.Answering.{refusal}
use Rattle.itpg_session.proofs.Told.{said}
use Rattle.itpg_session.proofs.Accepting.{dropped_watch, unknown_watch, right_without, right_same, tick_first}
use Rattle.itpg_session.proofs.session.Session.unwatch.Goals as goal
use Rattle.itpg_session.proofs.session.Session.unwatch.Goals.{in-Ok, in-Err}

pub invariant_of-self : goal.invariant_of-self
invariant_of-self c = record {
  kept = (elim c.match-remove.branch [
    | in-Ok w ↦ right_without c.self.inside.graph c.self.inside.limits c.self.inside.plans c.self.inside.watches c.remove.new.self c.args.name.now w.in-Ok.ensures.removed c.self.invariant.kept
    | in-Err w ↦ right_same c.self.inside.graph c.self.inside.limits c.self.inside.plans c.self.inside.watches c.remove.new.self w.in-Err.ensures.same c.self.invariant.kept
  ]);
  pins_limit = c.self.invariant.pins_limit;
  follows_right = c.self.invariant.follows_right;
}

pub returns-clause-decides : goal.returns-clause-decides
returns-clause-decides c = elim c.match-remove.branch [
  | in-Ok w ↦
      rw (w.result-is) (dropped_watch c.self.inside.graph c.self.inside.limits c.self.inside.plans c.self.inside.watches c.self.inside.pins.pins c.self.inside.follows c.args.self.now c.self.view_is c.remove.new.self c.args.name.now (c.in_default.ensures.none refl)
      (λ none. let e = w.in-Ok.ensures.unknown.1 none in let no_fault : ⊥ = cc in no_fault) w.in-Ok.ensures.removed)
  | in-Err w ↦
      rw (w.result-is) (unknown_watch c.self.inside.graph c.self.inside.limits c.self.inside.plans c.self.inside.watches c.self.inside.pins.pins c.self.inside.follows c.args.self.now c.self.view_is c.remove.new.self c.args.name.now (c.in_default.ensures.none refl)
      (w.in-Err.ensures.unknown.0 refl) w.in-Err.ensures.same)
]

pub returns-in-Some-clause-decides : goal.returns-in-Some-clause-decides
returns-in-Some-clause-decides c =
    let m = c.args.self.now.machine in
    let first = subst (λ (s : Standing). FirstOf (TickBreaks s.machine.graph) tick_rules c.in-Some.rule) c.self.view_is c.in-Some.ensures.some in
    said c.args.self.now (Refused c.in-Some.rule)
    (refusal m (NameBreaks m.graph m.watches c.args.name.now) name_rules (DropsWatch m c.args.name.now) c.in-Some.rule (tick_first m.graph m.watches c.args.name.now c.in-Some.rule first) _ refl)

pub returns-clause-table : goal.returns-clause-table
returns-clause-table c = ap (λ (s : Standing). s.table) c.self.view_is
