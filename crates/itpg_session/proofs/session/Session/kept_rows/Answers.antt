use Rattle.std.proofs.Common.{◌≡◌, refl, subst}
use Rattle.std.specs.Prelude.{slice_get, IsSomeAnd}
use Rattle.itpg_base.specs.Graphs.{Good, Named}
use Rattle.itpg_edit.specs.Rules.{FirstOf, NoneOf}
use Rattle.itpg_edit.proofs.FirstOf.{first_or_unbroken}
use Rattle.source_rows.specs.Follows.{IsOnlyPlace, IsKept, Keeps}
use Rattle.relation_rows.specs.Answered.{answered}
use Rattle.itpg_session.specs.PlainFollows.{plain_follows}
use Rattle.itpg_session.specs.Rules.{NearBreaks, name_rules}
use Rattle.itpg_session.specs.Keeping.{AreFollowsRight}
use Rattle.itpg_session.specs.Machine.{Standing}
use Rattle.itpg_session.proofs.Written.{if_some}
use Rattle.itpg_session.proofs.NearTelling.{keeps_hand, none_hand}
use Rattle.itpg_session.proofs.session.Session.kept_rows.Goals as goal

pub returns-in-Ok-clause-some : goal.returns-in-Ok-clause-some
returns-in-Ok-clause-some c =
    let s = c.args.self.now in
    let plain = subst (λ (s : Standing). plain_follows s.follows ≡ s.machine.follows) c.self.view_is refl in
    let named = subst (λ (s : Standing). IsSomeAnd (slice_get s.follows c.in-Ok.place) (λ f. f.name ≡ c.args.name.now)) c.self.view_is c.in-Ok.ensures.place in
    let object = subst (λ (s : Standing). Named s.machine.graph c.in-Ok.object.0 c.args.id.now) c.self.view_is c.in-Ok.ensures.object in
    let unbroken = subst (λ (s : Standing). NoneOf (NearBreaks s.machine.graph s.machine.follows c.args.name.now c.args.id.now) name_rules) c.self.view_is c.in-Ok.ensures.unbroken in
    let right = subst (λ (s : Standing). AreFollowsRight s.machine.graph s.limit s.follows) c.self.view_is c.self.invariant.follows_right in
    if_some (λ answer keeps. keeps_hand s plain c.args.name.now c.args.id.now c.in-Ok.place c.in-Ok.object.0 named object unbroken right (answered answer.now)
    (subst (λ (t : Standing). Keeps t.follows c.in-Ok.place c.in-Ok.object.0 (answered answer.now)) c.self.view_is keeps)) c.rows_of.result c.rows_of.ensures.some

pub returns-in-Ok-clause-none : goal.returns-in-Ok-clause-none
returns-in-Ok-clause-none c = λ none.
    let s = c.args.self.now in
    let plain = subst (λ (s : Standing). plain_follows s.follows ≡ s.machine.follows) c.self.view_is refl in
    let named = subst (λ (s : Standing). IsSomeAnd (slice_get s.follows c.in-Ok.place) (λ f. f.name ≡ c.args.name.now)) c.self.view_is c.in-Ok.ensures.place in
    let object = subst (λ (s : Standing). Named s.machine.graph c.in-Ok.object.0 c.args.id.now) c.self.view_is c.in-Ok.ensures.object in
    let only = subst (λ (s : Standing). IsOnlyPlace s.follows c.args.name.now c.in-Ok.place) c.self.view_is c.in-Ok.ensures.only in
    let good = subst (λ (s : Standing). Good s.machine.graph) c.self.view_is c.law_of_graphs.ensures in
    none_hand s plain c.args.name.now c.args.id.now c.in-Ok.place c.in-Ok.object.0 named object only good
    (subst (λ (t : Standing). IsKept t.follows c.in-Ok.place c.in-Ok.object.0 → ⊥) c.self.view_is (c.rows_of.ensures.none.0 none))

pub returns-in-Err-clause-none : goal.returns-in-Err-clause-none
returns-in-Err-clause-none c = λ none hand.
    let broken = subst (λ (s : Standing). FirstOf (NearBreaks s.machine.graph s.machine.follows c.args.name.now c.args.id.now) name_rules c.in-Err._rule) c.self.view_is c.in-Err.ensures.broken in
    first_or_unbroken (NearBreaks c.args.self.now.machine.graph c.args.self.now.machine.follows c.args.name.now c.args.id.now) name_rules c.in-Err._rule broken (hand.1).unbroken
