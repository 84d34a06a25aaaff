use Rattle.std.proofs.Common.{◌≡◌, None, Some, map, ap, sym, subst, ◌∙◌}
use Rattle.std.specs.Prelude.{Option, option_map}
use Rattle.relation_rows.specs.Answered.{Answered, answered}
use Rattle.itpg_session.specs.Replies.{Reply, Shown, PerWatch, line_reply}
use Rattle.itpg_session.specs.Ticks.{ticked_of}
use Rattle.itpg_session.specs.Machine.{Standing, after}
use Rattle.itpg_session.specs.Steps.{StandsAs, Suits}
use Rattle.itpg_session.proofs.TickSteps.{map_length}
use Rattle.itpg_session.proofs.Changing.{moves_of_kind}
use Rattle.itpg_session.specs.Machine.{stood}
use Rattle.itpg_session.proofs.Settled.{shown_right, shown_there, shown_stands, ticked_right, as_many_ticked, ticked_stands}
use Rattle.itpg_session.proofs.session.Session.settle.Goals as goal

pub invariant_of-self : goal.invariant_of-self
invariant_of-self c = record {
  kept = (let place = c.in-Shown-default-Some.place in
      let found : Option Answered = Some (answered c.in-Shown-default-Some.answer) in
      let told : line_reply c.args.reply ≡ Shown place found = ap line_reply c.in-Shown-default-Some.is ∙ ap (λ f. Shown place (option_map answered f)) c.in-Shown-default-Some.field-1-is in
      let finds = subst (λ (s : Standing). Suits s (Shown place found)) (sym c.self.view_is) (subst (Suits c.args.self.now) told c.requires) in
      shown_right c.self.inside.graph c.self.inside.limits c.self.inside.plans c.self.inside.watches c.set_now.new.self c.self.invariant.kept place found c.set_now.ensures finds);
  pins_limit = c.self.invariant.pins_limit;
  follows_right = c.self.invariant.follows_right;
}

pub returns-in-Shown-default-Some-clause-stands : goal.returns-in-Shown-default-Some-clause-stands
returns-in-Shown-default-Some-clause-stands c =
    let place = c.in-Shown-default-Some.place in
    let found : Option Answered = Some (answered c.in-Shown-default-Some.answer) in
    let told : line_reply c.args.reply ≡ Shown place found = ap line_reply c.in-Shown-default-Some.is ∙ ap (λ f. Shown place (option_map answered f)) c.in-Shown-default-Some.field-1-is in
    subst (λ (r : Reply). StandsAs (stood c.self.inside.graph c.self.inside.limits c.self.inside.plans c.set_now.new.self c.self.inside.pins.pins c.self.inside.follows) (after c.args.self.now.machine r) c.args.self.now.limit) (sym told)
    (shown_stands c.self.inside.graph c.self.inside.limits c.self.inside.plans c.self.inside.watches c.self.inside.pins.pins c.self.inside.follows c.args.self.now c.self.view_is c.set_now.new.self place found c.set_now.ensures)

pub drop_now-requires : goal.drop_now-requires
drop_now-requires c =
    let place = c.in-Shown-default-None.place in
    let told : line_reply c.args.reply ≡ Shown place None = ap line_reply c.in-Shown-default-None.is ∙ ap (λ f. Shown place (option_map answered f)) c.in-Shown-default-None.field-1-is in
    let finds = subst (λ (s : Standing). Suits s (Shown place None)) (sym c.self.view_is) (subst (Suits c.args.self.now) told c.requires) in
    shown_there c.self.inside.graph c.self.inside.limits c.self.inside.watches place None finds

pub invariant_of-self-in-Shown-default-None : goal.invariant_of-self-in-Shown-default-None
invariant_of-self-in-Shown-default-None c = record {
  kept = (let place = c.in-Shown-default-None.place in
      let told : line_reply c.args.reply ≡ Shown place None = ap line_reply c.in-Shown-default-None.is ∙ ap (λ f. Shown place (option_map answered f)) c.in-Shown-default-None.field-1-is in
      let finds = subst (λ (s : Standing). Suits s (Shown place None)) (sym c.self.view_is) (subst (Suits c.args.self.now) told c.requires) in
      shown_right c.self.inside.graph c.self.inside.limits c.self.inside.plans c.self.inside.watches c.drop_now.new.self c.self.invariant.kept place None c.drop_now.ensures finds);
  pins_limit = c.self.invariant.pins_limit;
  follows_right = c.self.invariant.follows_right;
}

pub returns-in-Shown-default-None-clause-stands : goal.returns-in-Shown-default-None-clause-stands
returns-in-Shown-default-None-clause-stands c =
    let place = c.in-Shown-default-None.place in
    let told : line_reply c.args.reply ≡ Shown place None = ap line_reply c.in-Shown-default-None.is ∙ ap (λ f. Shown place (option_map answered f)) c.in-Shown-default-None.field-1-is in
    subst (λ (r : Reply). StandsAs (stood c.self.inside.graph c.self.inside.limits c.self.inside.plans c.drop_now.new.self c.self.inside.pins.pins c.self.inside.follows) (after c.args.self.now.machine r) c.args.self.now.limit) (sym told)
    (shown_stands c.self.inside.graph c.self.inside.limits c.self.inside.plans c.self.inside.watches c.self.inside.pins.pins c.self.inside.follows c.args.self.now c.self.view_is c.drop_now.new.self place None c.drop_now.ensures)

pub move_bases-requires-clause-each : goal.move_bases-requires-clause-each
move_bases-requires-clause-each c =
    let found = map ticked_of c.in-PerWatch.found.items in
    let finds = subst (λ (s : Standing). Suits s (PerWatch found)) (sym c.self.view_is) (subst (λ r. Suits c.args.self.now (line_reply r)) c.in-PerWatch.is c.requires) in
    sym (map_length ticked_of c.in-PerWatch.found.items) ∙ as_many_ticked c.self.inside.graph c.self.inside.limits c.self.inside.watches found finds

pub move_bases-requires-clause-kinds : goal.move_bases-requires-clause-kinds
move_bases-requires-clause-kinds c =
    let found = map ticked_of c.in-PerWatch.found.items in
    let finds = subst (λ (s : Standing). Suits s (PerWatch found)) (sym c.self.view_is) (subst (λ r. Suits c.args.self.now (line_reply r)) c.in-PerWatch.is c.requires) in
    moves_of_kind c.self.inside.graph c.self.inside.limits c.self.inside.watches found finds

pub invariant_of-self-in-PerWatch : goal.invariant_of-self-in-PerWatch
invariant_of-self-in-PerWatch c = record {
  kept = (let found = map ticked_of c.in-PerWatch.found.items in
      let finds = subst (λ (s : Standing). Suits s (PerWatch found)) (sym c.self.view_is) (subst (λ r. Suits c.args.self.now (line_reply r)) c.in-PerWatch.is c.requires) in
      ticked_right c.self.inside.graph c.self.inside.limits c.self.inside.plans c.self.inside.watches c.move_bases.new.watches c.self.invariant.kept found c.move_bases.ensures finds);
  pins_limit = c.self.invariant.pins_limit;
  follows_right = c.self.invariant.follows_right;
}

pub returns-in-PerWatch-clause-stands : goal.returns-in-PerWatch-clause-stands
returns-in-PerWatch-clause-stands c =
    let found = map ticked_of c.in-PerWatch.found.items in
    subst (λ r. StandsAs (stood c.self.inside.graph c.self.inside.limits c.self.inside.plans c.move_bases.new.watches c.self.inside.pins.pins c.self.inside.follows) (after c.args.self.now.machine (line_reply r)) c.args.self.now.limit) (sym c.in-PerWatch.is)
    (ticked_stands c.self.inside.graph c.self.inside.limits c.self.inside.plans c.self.inside.watches c.self.inside.pins.pins c.self.inside.follows c.args.self.now c.self.view_is c.move_bases.new.watches found c.move_bases.ensures)
