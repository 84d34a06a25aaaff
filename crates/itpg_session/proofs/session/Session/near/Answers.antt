use Rattle.std.proofs.Common.{◌≡◌, refl, subst}
use Rattle.std.specs.Prelude.{slice_get, IsSomeAnd}
use Rattle.itpg_base.specs.Graphs.{Good, Named}
use Rattle.itpg_edit.specs.Rules.{FirstOf, NoneOf}
use Rattle.itpg_edit.proofs.Checked.{named_stands}
use Rattle.source_rows.specs.Follows.{IsOnlyPlace}
use Rattle.itpg_session.specs.PlainFollows.{plain_follows}
use Rattle.itpg_session.specs.Rules.{NearBreaks, name_rules}
use Rattle.itpg_session.specs.Keeping.{AreFollowsRight}
use Rattle.itpg_session.specs.Replies.{Refused}
use Rattle.itpg_session.specs.Machine.{Standing, TellsNear}
use Rattle.itpg_session.proofs.Answering.{refusal}
use Rattle.itpg_session.proofs.Told.{said}
use Rattle.itpg_session.proofs.NearTelling.{place_there, not_kept, near_decides, near_keeps, near_refused, gains_rows}
use Rattle.itpg_session.proofs.session.Session.near.Goals as goal

pub returns-in-Err-clause-decides : goal.returns-in-Err-clause-decides
returns-in-Err-clause-decides c =
    let m = c.args.self.now.machine in
    let first = subst (λ (s : Standing). FirstOf (NearBreaks s.machine.graph s.machine.follows c.args.name.now c.args.id.now) name_rules c.in-Err.rule) c.self.view_is c.in-Err.ensures.broken in
    said c.args.self.now (Refused c.in-Err.rule) (refusal m (NearBreaks m.graph m.follows c.args.name.now c.args.id.now) name_rules (TellsNear c.args.self.now.limit m c.args.name.now c.args.id.now) c.in-Err.rule first _ refl)

pub returns-in-Err-clause-near : goal.returns-in-Err-clause-near
returns-in-Err-clause-near c = λ answer turn. absurd (near_refused c.args.self.now c.args.name.now c.args.id.now c.in-Err.rule
    (subst (λ (s : Standing). FirstOf (NearBreaks s.machine.graph s.machine.follows c.args.name.now c.args.id.now) name_rules c.in-Err.rule) c.self.view_is c.in-Err.ensures.broken) answer turn)

pub near_at-requires-clause-there : goal.near_at-requires-clause-there
near_at-requires-clause-there c =
    let plain = subst (λ (s : Standing). plain_follows s.follows ≡ s.machine.follows) c.self.view_is refl in
    let named = subst (λ (s : Standing). IsSomeAnd (slice_get s.follows c.in-Ok.place) (λ f. f.name ≡ c.args.name.now)) c.self.view_is c.in-Ok.ensures.place in
    let object = subst (λ (s : Standing). Named s.machine.graph c.in-Ok.object.0 c.args.id.now) c.self.view_is c.in-Ok.ensures.object in
    place_there c.args.self.now plain c.args.name.now c.args.id.now c.in-Ok.place c.in-Ok.object.0 named object

pub near_at-requires-clause-stands : goal.near_at-requires-clause-stands
near_at-requires-clause-stands c = named_stands c.args.self.now.machine.graph c.in-Ok.object.0 c.args.id.now (subst (λ (s : Standing). Named s.machine.graph c.in-Ok.object.0 c.args.id.now) c.self.view_is c.in-Ok.ensures.object)

pub near_at-requires-clause-absent : goal.near_at-requires-clause-absent
near_at-requires-clause-absent c =
    let plain = subst (λ (s : Standing). plain_follows s.follows ≡ s.machine.follows) c.self.view_is refl in
    let named = subst (λ (s : Standing). IsSomeAnd (slice_get s.follows c.in-Ok.place) (λ f. f.name ≡ c.args.name.now)) c.self.view_is c.in-Ok.ensures.place in
    let object = subst (λ (s : Standing). Named s.machine.graph c.in-Ok.object.0 c.args.id.now) c.self.view_is c.in-Ok.ensures.object in
    let unbroken = subst (λ (s : Standing). NoneOf (NearBreaks s.machine.graph s.machine.follows c.args.name.now c.args.id.now) name_rules) c.self.view_is c.in-Ok.ensures.unbroken in
    let right = subst (λ (s : Standing). AreFollowsRight s.machine.graph s.limit s.follows) c.self.view_is c.self.invariant.follows_right in
    not_kept c.args.self.now plain c.args.name.now c.args.id.now c.in-Ok.place c.in-Ok.object.0 named object unbroken right c.requires.finds

pub returns-in-Ok-clause-decides : goal.returns-in-Ok-clause-decides
returns-in-Ok-clause-decides c =
    let plain = subst (λ (s : Standing). plain_follows s.follows ≡ s.machine.follows) c.self.view_is refl in
    let named = subst (λ (s : Standing). IsSomeAnd (slice_get s.follows c.in-Ok.place) (λ f. f.name ≡ c.args.name.now)) c.self.view_is c.in-Ok.ensures.place in
    let object = subst (λ (s : Standing). Named s.machine.graph c.in-Ok.object.0 c.args.id.now) c.self.view_is c.in-Ok.ensures.object in
    let unbroken = subst (λ (s : Standing). NoneOf (NearBreaks s.machine.graph s.machine.follows c.args.name.now c.args.id.now) name_rules) c.self.view_is c.in-Ok.ensures.unbroken in
    near_decides c.args.self.now plain c.args.name.now c.args.id.now c.in-Ok.place c.in-Ok.object.0 named object unbroken c.near_at.new.self c.near_at.result c.near_at.ensures.alike c.near_at.ensures.found

pub returns-in-Ok-clause-near : goal.returns-in-Ok-clause-near
returns-in-Ok-clause-near c =
    let plain = subst (λ (s : Standing). plain_follows s.follows ≡ s.machine.follows) c.self.view_is refl in
    let named = subst (λ (s : Standing). IsSomeAnd (slice_get s.follows c.in-Ok.place) (λ f. f.name ≡ c.args.name.now)) c.self.view_is c.in-Ok.ensures.place in
    let object = subst (λ (s : Standing). Named s.machine.graph c.in-Ok.object.0 c.args.id.now) c.self.view_is c.in-Ok.ensures.object in
    let only = subst (λ (s : Standing). IsOnlyPlace s.follows c.args.name.now c.in-Ok.place) c.self.view_is c.in-Ok.ensures.only in
    near_keeps c.args.self.now plain c.args.name.now c.args.id.now c.in-Ok.place c.in-Ok.object.0 named object only (subst (λ (s : Standing). Good s.machine.graph) c.self.view_is c.law_of_graphs.ensures) c.near_at.new.self c.near_at.result c.near_at.ensures.found c.near_at.ensures.kept

pub returns-in-Ok-clause-follows : goal.returns-in-Ok-clause-follows
returns-in-Ok-clause-follows c =
    let named = subst (λ (s : Standing). IsSomeAnd (slice_get s.follows c.in-Ok.place) (λ f. f.name ≡ c.args.name.now)) c.self.view_is c.in-Ok.ensures.place in
    let object = subst (λ (s : Standing). Named s.machine.graph c.in-Ok.object.0 c.args.id.now) c.self.view_is c.in-Ok.ensures.object in
    let plain = subst (λ (s : Standing). plain_follows s.follows ≡ s.machine.follows) c.self.view_is refl in
    gains_rows c.args.self.now plain c.args.name.now c.args.id.now c.in-Ok.place c.in-Ok.object.0 named object c.near_at.new.self c.near_at.ensures.follows
