use Rattle.std.proofs.Common.{◌≡◌, length, refl, sym, subst}
use Rattle.itpg_edit.specs.Next.{Excuses}
use Rattle.itpg_session.specs.Machine.{Standing}
use Rattle.itpg_session.proofs.Accepting.{refused_edit, unmade_edit, made_edit, forgotten_edit, broken_edit}
use Rattle.itpg_session.proofs.FirstEdits.{made, none_forgotten, none_touched}
use Rattle.itpg_session.proofs.Lasting.{kept_lasts}
use Rattle.itpg_session.proofs.Sparing.{none_right}
use Rattle.itpg_session.proofs.session.Session.first_edit.Goals as goal

pub returns-in-Err-Rule-clause-decides : goal.returns-in-Err-Rule-clause-decides
returns-in-Err-Rule-clause-decides c =
    refused_edit c.self.inside.graph c.self.inside.limits c.self.inside.plans c.self.inside.watches c.self.inside.pins.pins c.self.inside.follows c.args.self.now c.self.view_is c.make_edit.new.graph c.in-Err-Rule.ensures.same c.args.edit.now c.in-Err-Rule.broken
    (subst (Excuses c.self.inside.graph c.args.edit.now) c.in-Err-Rule.field-0-is c.in-Err-Rule.ensures.excuse)

pub returns-in-Err-Rule-clause-forgets : goal.returns-in-Err-Rule-clause-forgets
returns-in-Err-Rule-clause-forgets c = λ unbroken.
    absurd (broken_edit c.self.inside.graph c.self.inside.limits c.self.inside.plans c.self.inside.watches c.self.inside.pins.pins c.self.inside.follows c.args.self.now c.self.view_is c.args.edit.now c.in-Err-Rule.broken
    (subst (Excuses c.self.inside.graph c.args.edit.now) c.in-Err-Rule.field-0-is c.in-Err-Rule.ensures.excuse) unbroken)

pub returns-in-Err-Memory-clause-decides : goal.returns-in-Err-Memory-clause-decides
returns-in-Err-Memory-clause-decides c =
    unmade_edit c.self.inside.graph c.self.inside.limits c.self.inside.plans c.self.inside.watches c.self.inside.pins.pins c.self.inside.follows c.args.self.now c.self.view_is c.make_edit.new.graph c.in-Err-Memory.ensures.same c.args.edit.now
    (subst (Excuses c.self.inside.graph c.args.edit.now) c.in-Err-Memory.field-0-is c.in-Err-Memory.ensures.excuse)

pub invariant_of-self-2 : goal.invariant_of-self-2
invariant_of-self-2 c = record {
  kept = (let edit = made c.self.inside.graph c.make_edit.new.graph c.args.edit.now c.in-Ok.ensures.unbroken c.in-Ok.ensures.next in
      let forgets = subst (λ (s : Standing). length s.table.nodes ≡ 0) (sym c.self.view_is) c.requires.plans in
      let kept = subst (λ (s : Standing). length s.table.kept ≡ 0) (sym c.self.view_is) c.requires.kept in
      let watches = subst (λ (s : Standing). length s.watches ≡ 0) (sym c.self.view_is) c.requires.watches in
      kept_lasts c.self.inside.graph c.make_edit.new.graph c.args.edit.now edit.0 c.self.inside.limits c.law_of_graphs.ensures c.law_of_graphs-2.ensures edit.1
      c.self.inside.plans c.self.inside.plans c.self.inside.watches c.self.inside.watches refl (none_forgotten edit.0 _ _ forgets kept) (none_touched edit.0 _ watches) c.self.invariant.kept);
  pins_limit = c.self.invariant.pins_limit;
  follows_right = none_right c.make_edit.new.graph c.self.inside.limits c.self.inside.follows (subst (λ (s : Standing). length s.follows ≡ 0) (sym c.self.view_is) c.requires.follows);
}

pub returns-clause-decides : goal.returns-clause-decides
returns-clause-decides c =
    let edit = made c.self.inside.graph c.make_edit.new.graph c.args.edit.now c.in-Ok.ensures.unbroken c.in-Ok.ensures.next in
    let watches = subst (λ (s : Standing). length s.watches ≡ 0) (sym c.self.view_is) c.requires.watches in
    made_edit c.self.inside.graph c.self.inside.limits c.self.inside.plans c.self.inside.watches c.self.inside.pins.pins c.self.inside.follows c.args.self.now c.self.view_is c.make_edit.new.graph edit.0 c.self.inside.plans c.self.inside.watches c.self.inside.follows c.args.edit.now
    refl edit.1 (λ w a. (c.self.invariant.kept.watches_right w a).footed) (none_touched edit.0 _ watches)

pub returns-clause-forgets : goal.returns-clause-forgets
returns-clause-forgets c = λ unbroken.
    let edit = made c.self.inside.graph c.make_edit.new.graph c.args.edit.now c.in-Ok.ensures.unbroken c.in-Ok.ensures.next in
    let nodes = subst (λ (s : Standing). length s.table.nodes ≡ 0) (sym c.self.view_is) c.requires.plans in
    let kept = subst (λ (s : Standing). length s.table.kept ≡ 0) (sym c.self.view_is) c.requires.kept in
    forgotten_edit c.self.inside.graph c.self.inside.limits c.self.inside.plans c.self.inside.watches c.self.inside.pins.pins c.self.inside.follows c.args.self.now c.self.view_is c.make_edit.new.graph edit.0 c.self.inside.plans c.self.inside.watches c.self.inside.follows c.args.edit.now
    edit.1 refl (none_forgotten edit.0 _ _ nodes kept)
