use Rattle.std.proofs.Common.{refl, ap, sym, subst}
use Rattle.std.specs.Prelude.{Err}
use Rattle.path_ast.specs.Terms.{query_term}
use Rattle.itpg_session.specs.Keeping.{AreFollowsRight}
use Rattle.itpg_session.specs.PlainFollows.{plain_follows}
use Rattle.itpg_session.proofs.Followed.{follows_alike, ask_refused, follow_added, follow_taken, follows_full}
use Rattle.itpg_session.proofs.Sparing.{right_more}
use Rattle.itpg_session.proofs.session.Session.follow_named.Goals as goal
use Rattle.itpg_session.proofs.session.Session.follow_named.Goals.{in-Ok, in-Err-Taken, in-Err-Full, in-Err-Memory}

pub returns-in-Some-clause-decides : goal.returns-in-Some-clause-decides
returns-in-Some-clause-decides c =
    ask_refused c.self.inside.graph c.self.inside.limits c.self.inside.plans c.self.inside.watches c.self.inside.pins.pins c.self.inside.follows c.args.self.now c.self.view_is c.args.name (query_term c.args.query) c.requires.ends c.in-Some.rule c.in-Some.ensures.some

pub invariant_of-self : goal.invariant_of-self
invariant_of-self c = record {
  kept = c.self.invariant.kept;
  pins_limit = c.self.invariant.pins_limit;
  follows_right = (elim c.match-add.branch [
    | in-Ok w ↦ subst (AreFollowsRight c.self.inside.graph c.self.inside.limits) (sym w.in-Ok.ensures.added) (right_more c.self.inside.graph c.self.inside.limits c.self.inside.follows c.args.name (query_term c.args.query) c.self.invariant.follows_right)
    | in-Err-Taken w ↦ subst (AreFollowsRight c.self.inside.graph c.self.inside.limits) (sym w.in-Err-Taken.ensures.same) c.self.invariant.follows_right
    | in-Err-Full w ↦ subst (AreFollowsRight c.self.inside.graph c.self.inside.limits) (sym w.in-Err-Full.ensures.same) c.self.invariant.follows_right
    | in-Err-Memory w ↦ subst (AreFollowsRight c.self.inside.graph c.self.inside.limits) (sym w.in-Err-Memory.ensures.same) c.self.invariant.follows_right
  ]);
}

pub returns-clause-decides : goal.returns-clause-decides
returns-clause-decides c =
    elim c.match-add.branch [
      | in-Ok w ↦
          rw (w.result-is) (follow_added c.self.inside.graph c.self.inside.limits c.self.inside.plans c.self.inside.watches c.self.inside.pins.pins c.self.inside.follows c.args.self.now c.self.view_is c.args.name (query_term c.args.query) c.requires.ends (c.in_default.ensures.none refl) c.add.new.self
          (λ there. let e = w.in-Ok.ensures.taken.1 there in let no : ⊥ = cc in no)
          (λ many. let e = w.in-Ok.ensures.full.1 ((λ there. let e = w.in-Ok.ensures.taken.1 there in let no : ⊥ = cc in no), many) in let no : ⊥ = cc in no)
          w.in-Ok.ensures.added)
      | in-Err-Taken w ↦
          rw (w.result-is) (follow_taken c.self.inside.graph c.self.inside.limits c.self.inside.plans c.self.inside.watches c.self.inside.pins.pins c.self.inside.follows c.args.self.now c.self.view_is c.args.name (query_term c.args.query) c.requires.ends (c.in_default.ensures.none refl) c.add.new.self
          (w.in-Err-Taken.ensures.taken.0 (ap Err w.in-Err-Taken.field-0-is)) w.in-Err-Taken.ensures.same)
      | in-Err-Full w ↦
          let full = w.in-Err-Full.ensures.full.0 (ap Err w.in-Err-Full.field-0-is) in
          rw (w.result-is) (follows_full c.self.inside.graph c.self.inside.limits c.self.inside.plans c.self.inside.watches c.self.inside.pins.pins c.self.inside.follows c.args.self.now c.self.view_is c.args.name (query_term c.args.query) c.requires.ends (c.in_default.ensures.none refl) c.add.new.self
          full.0 full.1 w.in-Err-Full.ensures.same)
      | in-Err-Memory w ↦
          rw (w.result-is) (follows_alike c.self.inside.graph c.self.inside.limits c.self.inside.plans c.self.inside.watches c.self.inside.pins.pins c.self.inside.follows c.args.self.now c.self.view_is c.add.new.self (ap plain_follows w.in-Err-Memory.ensures.same), tt)
    ]
