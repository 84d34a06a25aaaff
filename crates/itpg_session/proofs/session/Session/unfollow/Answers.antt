use Rattle.std.proofs.Common.{refl, sym, subst}
use Rattle.itpg_edit.specs.Rules.{FirstOf}
use Rattle.itpg_session.specs.Rules.{TickBreaks, UnfollowBreaks, name_rules, tick_rules}
use Rattle.itpg_session.specs.Replies.{Refused}
use Rattle.itpg_session.specs.Machine.{Standing, DropsFollow}
use Rattle.itpg_session.proofs.Answering.{refusal}
use Rattle.itpg_session.proofs.Told.{said}
use Rattle.itpg_session.proofs.Followed.{follow_dropped, follow_unknown, tick_first_unfollow}
use Rattle.itpg_session.proofs.Sparing.{right_less}
use Rattle.itpg_session.specs.Keeping.{AreFollowsRight}
use Rattle.itpg_session.proofs.session.Session.unfollow.Goals as goal
use Rattle.itpg_session.proofs.session.Session.unfollow.Goals.{in-Ok, in-Err}

pub returns-clause-decides : goal.returns-clause-decides
returns-clause-decides c = elim c.match-remove.branch [
  | in-Ok w ↦
      rw (w.result-is) (follow_dropped c.self.inside.graph c.self.inside.limits c.self.inside.plans c.self.inside.watches c.self.inside.pins.pins c.self.inside.follows c.args.self.now c.self.view_is c.args.name.now (c.in_default.ensures.none refl) c.remove.new.self
      (λ none. let e = w.in-Ok.ensures.none.1 none in let no_fault : ⊥ = cc in no_fault) w.in-Ok.ensures.removed)
  | in-Err w ↦
      rw (w.result-is) (follow_unknown c.self.inside.graph c.self.inside.limits c.self.inside.plans c.self.inside.watches c.self.inside.pins.pins c.self.inside.follows c.args.self.now c.self.view_is c.args.name.now (c.in_default.ensures.none refl) c.remove.new.self
      (w.in-Err.ensures.none.0 refl) w.in-Err.ensures.same)
]

pub returns-in-Some-clause-decides : goal.returns-in-Some-clause-decides
returns-in-Some-clause-decides c =
    let m = c.args.self.now.machine in
    let first = subst (λ (s : Standing). FirstOf (TickBreaks s.machine.graph) tick_rules c.in-Some.rule) c.self.view_is c.in-Some.ensures.some in
    said c.args.self.now (Refused c.in-Some.rule)
    (refusal m (UnfollowBreaks m.graph m.follows c.args.name.now) name_rules (DropsFollow m c.args.name.now) c.in-Some.rule (tick_first_unfollow m.graph m.follows c.args.name.now c.in-Some.rule first) _ refl)

pub invariant_of-self : goal.invariant_of-self
invariant_of-self c = record {
  kept = c.self.invariant.kept;
  pins_limit = c.self.invariant.pins_limit;
  follows_right = (elim c.match-remove.branch [
    | in-Ok w ↦ subst (AreFollowsRight c.self.inside.graph c.self.inside.limits) (sym w.in-Ok.ensures.removed) (right_less c.self.inside.graph c.self.inside.limits c.self.inside.follows c.args.name.now c.self.invariant.follows_right)
    | in-Err w ↦ subst (AreFollowsRight c.self.inside.graph c.self.inside.limits) (sym w.in-Err.ensures.same) c.self.invariant.follows_right
  ]);
}
