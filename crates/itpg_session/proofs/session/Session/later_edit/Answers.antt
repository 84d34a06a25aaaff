use Rattle.std.proofs.Common.{inl, inr, refl, sym, ap, subst}
use Rattle.std.specs.List.{AllZip}
use Rattle.itpg_edit.specs.Next.{Excuses}
use Rattle.itpg_session.specs.Machine.{Standing}
use Rattle.itpg_session.proofs.Accepting.{refused_edit, unmade_edit, made_edit, forgotten_edit, broken_edit}
use Rattle.itpg_session.proofs.Lasting.{kept_lasts}
use Rattle.itpg_session.proofs.Sparing.{spared, right_spared}
use Rattle.itpg_session.proofs.FollowLists.{follows_spared}
use Rattle.itpg_session.specs.Following.{IsSpared, IsToSpare}
use Rattle.itpg_session.proofs.session.Session.later_edit.Goals as goal

pub returns-in-Err-Rule-clause-decides : goal.returns-in-Err-Rule-clause-decides
returns-in-Err-Rule-clause-decides c =
    refused_edit c.self.inside.graph c.self.inside.limits c.self.inside.plans c.self.inside.watches c.self.inside.pins.pins c.self.inside.follows c.args.self.now c.self.view_is c.apply.new.graph c.in-Err-Rule.ensures.same c.args.edit.now c.in-Err-Rule.rule
    (subst (Excuses c.self.inside.graph c.args.edit.now) c.in-Err-Rule.field-0-is c.in-Err-Rule.ensures.excuse)

pub returns-in-Err-Memory-clause-decides : goal.returns-in-Err-Memory-clause-decides
returns-in-Err-Memory-clause-decides c =
    unmade_edit c.self.inside.graph c.self.inside.limits c.self.inside.plans c.self.inside.watches c.self.inside.pins.pins c.self.inside.follows c.args.self.now c.self.view_is c.apply.new.graph c.in-Err-Memory.ensures.same c.args.edit.now
    (subst (Excuses c.self.inside.graph c.args.edit.now) c.in-Err-Memory.field-0-is c.in-Err-Memory.ensures.excuse)

pub invariant_of-self-2 : goal.invariant_of-self-2
invariant_of-self-2 c = record {
  kept = (kept_lasts c.self.inside.graph c.apply.new.graph c.args.edit.now c.in-Ok.touch c.self.inside.limits c.law_of_graphs.ensures c.law_of_graphs-2.ensures c.in-Ok.ensures.makes
      c.self.inside.plans c.forget.new.self c.self.inside.watches c.touched.new.self c.forget.ensures.nodes c.forget.ensures.kept c.touched.ensures c.self.invariant.kept);
  pins_limit = c.self.invariant.pins_limit;
  follows_right = right_spared (record {
    list = c.law_of_unmet_lists.ensures.list;
    stands = c.law_of_unmet_lists.ensures.stands;
    rows = c.law_of_near_rows.ensures.rows;
    fits = c.law_of_near_rows.ensures.fits;
  }) c.self.inside.graph c.apply.new.graph c.args.edit.now c.self.inside.limits c.law_of_graphs.ensures c.in-Ok.ensures.makes.next c.self.inside.follows c.touched-2.new.self
      (spared c.self.inside.graph c.args.edit.now c.args.touched.now c.self.inside.follows c.touched-2.new.self
      (subst (λ (s : Standing). IsToSpare s.machine.graph c.args.edit.now c.args.touched.now s.follows) (sym c.self.view_is) c.requires.touched) c.touched-2.ensures) c.self.invariant.follows_right;
}

pub returns-clause-decides : goal.returns-clause-decides
returns-clause-decides c =
    made_edit c.self.inside.graph c.self.inside.limits c.self.inside.plans c.self.inside.watches c.self.inside.pins.pins c.self.inside.follows c.args.self.now c.self.view_is c.apply.new.graph c.in-Ok.touch c.forget.new.self c.touched.new.self c.touched-2.new.self c.args.edit.now
    (follows_spared c.self.inside.graph c.args.edit.now c.self.inside.follows c.touched-2.new.self
    (spared c.self.inside.graph c.args.edit.now c.args.touched.now c.self.inside.follows c.touched-2.new.self
    (subst (λ (s : Standing). IsToSpare s.machine.graph c.args.edit.now c.args.touched.now s.follows) (sym c.self.view_is) c.requires.touched) c.touched-2.ensures))
    c.in-Ok.ensures.makes (λ w a. (c.self.invariant.kept.watches_right w a).footed) c.touched.ensures

pub returns-in-Err-Rule-clause-forgets : goal.returns-in-Err-Rule-clause-forgets
returns-in-Err-Rule-clause-forgets c = λ unbroken.
    absurd (broken_edit c.self.inside.graph c.self.inside.limits c.self.inside.plans c.self.inside.watches c.self.inside.pins.pins c.self.inside.follows c.args.self.now c.self.view_is c.args.edit.now c.in-Err-Rule.rule
    (subst (Excuses c.self.inside.graph c.args.edit.now) c.in-Err-Rule.field-0-is c.in-Err-Rule.ensures.excuse) unbroken)

pub returns-in-Err-Rule-clause-table : goal.returns-in-Err-Rule-clause-table
returns-in-Err-Rule-clause-table c = inr (ap (λ (s : Standing). s.table) c.self.view_is)

pub returns-in-Err-Memory-clause-table : goal.returns-in-Err-Memory-clause-table
returns-in-Err-Memory-clause-table c = inr (ap (λ (s : Standing). s.table) c.self.view_is)

pub returns-clause-forgets : goal.returns-clause-forgets
returns-clause-forgets c = λ unbroken.
    forgotten_edit c.self.inside.graph c.self.inside.limits c.self.inside.plans c.self.inside.watches c.self.inside.pins.pins c.self.inside.follows c.args.self.now c.self.view_is c.apply.new.graph c.in-Ok.touch c.forget.new.self c.touched.new.self c.touched-2.new.self c.args.edit.now
    c.in-Ok.ensures.makes c.forget.ensures.nodes c.forget.ensures.kept

pub returns-clause-table : goal.returns-clause-table
returns-clause-table c =
    inl (forgotten_edit c.self.inside.graph c.self.inside.limits c.self.inside.plans c.self.inside.watches c.self.inside.pins.pins c.self.inside.follows c.args.self.now c.self.view_is c.apply.new.graph c.in-Ok.touch c.forget.new.self c.touched.new.self c.touched-2.new.self c.args.edit.now
    c.in-Ok.ensures.makes c.forget.ensures.nodes c.forget.ensures.kept)

pub returns-in-Err-Memory-clause-unmade : goal.returns-in-Err-Memory-clause-unmade
returns-in-Err-Memory-clause-unmade c = ap (λ (s : Standing). s.table) c.self.view_is

pub returns-clause-spares : goal.returns-clause-spares
returns-clause-spares c = λ unbroken.
    let all = spared c.self.inside.graph c.args.edit.now c.args.touched.now c.self.inside.follows c.touched-2.new.self
    (subst (λ (s : Standing). IsToSpare s.machine.graph c.args.edit.now c.args.touched.now s.follows) (sym c.self.view_is) c.requires.touched) c.touched-2.ensures in
    subst (λ (s : Standing). AllZip (IsSpared s.machine.graph c.args.edit.now) s.follows c.touched-2.new.self) c.self.view_is all

pub returns-clause-follows : goal.returns-clause-follows
returns-clause-follows c =
    let all = spared c.self.inside.graph c.args.edit.now c.args.touched.now c.self.inside.follows c.touched-2.new.self
    (subst (λ (s : Standing). IsToSpare s.machine.graph c.args.edit.now c.args.touched.now s.follows) (sym c.self.view_is) c.requires.touched) c.touched-2.ensures in
    inl (subst (λ (s : Standing). AllZip (IsSpared s.machine.graph c.args.edit.now) s.follows c.touched-2.new.self) c.self.view_is all)

pub returns-in-Err-Rule-clause-follows : goal.returns-in-Err-Rule-clause-follows
returns-in-Err-Rule-clause-follows c = inr (ap (λ (s : Standing). s.follows) c.self.view_is)

pub returns-in-Err-Memory-clause-follows : goal.returns-in-Err-Memory-clause-follows
returns-in-Err-Memory-clause-follows c = inr (ap (λ (s : Standing). s.follows) c.self.view_is)

pub returns-in-Err-Rule-clause-holds : goal.returns-in-Err-Rule-clause-holds
returns-in-Err-Rule-clause-holds c = λ says. ap (λ (s : Standing). s.follows) c.self.view_is

pub returns-in-Err-Memory-clause-holds : goal.returns-in-Err-Memory-clause-holds
returns-in-Err-Memory-clause-holds c = ap (λ (s : Standing). s.follows) c.self.view_is

pub returns-in-Err-Rule-clause-spares : goal.returns-in-Err-Rule-clause-spares
returns-in-Err-Rule-clause-spares c = λ unbroken.
    absurd (broken_edit c.self.inside.graph c.self.inside.limits c.self.inside.plans c.self.inside.watches c.self.inside.pins.pins c.self.inside.follows c.args.self.now c.self.view_is c.args.edit.now c.in-Err-Rule.rule
    (subst (Excuses c.self.inside.graph c.args.edit.now) c.in-Err-Rule.field-0-is c.in-Err-Rule.ensures.excuse) unbroken)

pub returns-clause-holds : goal.returns-clause-holds
returns-clause-holds c = λ says. absurd (says refl)
