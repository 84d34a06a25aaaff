use Rattle.std.proofs.Common.{refl, ap, subst}
use Rattle.itpg_edit.specs.Rules.{FirstOf}
use Rattle.itpg_pins.specs.Pins.{Pinned}
use Rattle.itpg_session.specs.Rules.{TickBreaks, PinBreaks, name_rules, tick_rules}
use Rattle.itpg_session.specs.Replies.{Refused}
use Rattle.itpg_session.specs.Machine.{Standing, ClosesPin}
use Rattle.itpg_session.proofs.Answering.{refusal}
use Rattle.itpg_session.proofs.Told.{said}
use Rattle.itpg_session.proofs.Pinned.{closed_pin, unknown_pin, tick_first_pin}
use Rattle.itpg_session.proofs.session.Session.close.Goals as goal
use Rattle.itpg_session.proofs.session.Session.close.Goals.{in-Ok, in-Err}

pub returns-clause-decides : goal.returns-clause-decides
returns-clause-decides c = elim c.match-remove.branch [
  | in-Ok w ↦
      rw (w.result-is) (closed_pin c.self.inside.graph c.self.inside.limits c.self.inside.plans c.self.inside.watches c.self.inside.pins.pins c.self.inside.follows c.args.self.now c.self.view_is c.args.name.now (c.in_default.ensures.none refl) c.remove.new.self.pins
      (λ none. let e = w.in-Ok.ensures.none.1 none in let no_fault : ⊥ = cc in no_fault) w.in-Ok.ensures.removed)
  | in-Err w ↦
      rw (w.result-is) (unknown_pin c.self.inside.graph c.self.inside.limits c.self.inside.plans c.self.inside.watches c.self.inside.pins.pins c.self.inside.follows c.args.self.now c.self.view_is c.args.name.now (c.in_default.ensures.none refl) c.remove.new.self.pins
      (w.in-Err.ensures.none.0 refl) (ap (λ (v : Pinned). v.pins) w.in-Err.ensures.same))
]

pub returns-in-Some-clause-decides : goal.returns-in-Some-clause-decides
returns-in-Some-clause-decides c =
    let m = c.args.self.now.machine in
    let first = subst (λ (s : Standing). FirstOf (TickBreaks s.machine.graph) tick_rules c.in-Some.rule) c.self.view_is c.in-Some.ensures.some in
    said c.args.self.now (Refused c.in-Some.rule)
    (refusal m (PinBreaks m.graph m.pins c.args.name.now) name_rules (ClosesPin m c.args.name.now) c.in-Some.rule (tick_first_pin m.graph m.pins c.args.name.now c.in-Some.rule first) _ refl)
