use Rattle.std.proofs.Common.{refl, ap, subst}
use Rattle.std.specs.Prelude.{Err}
use Rattle.itpg_edit.specs.Rules.{FirstOf}
use Rattle.itpg_pins.specs.Pins.{Pinned}
use Rattle.itpg_session.specs.Rules.{TickBreaks, OpenBreaks, open_rules, tick_rules}
use Rattle.itpg_session.specs.Replies.{Refused}
use Rattle.itpg_session.specs.Machine.{Standing, OpensPin}
use Rattle.itpg_session.proofs.Answering.{refusal}
use Rattle.itpg_session.proofs.Told.{said}
use Rattle.itpg_session.proofs.Pinned.{opened_pin, taken_pin, full_of_pins, may_be_opened, pins_alike, tick_first_open}
use Rattle.itpg_session.proofs.session.Session.open.Goals as goal
use Rattle.itpg_session.proofs.session.Session.open.Goals.{in-Ok, in-Err-Taken, in-Err-Full, in-Err-Memory}

pub returns-clause-decides : goal.returns-clause-decides
returns-clause-decides c = elim c.match-add.branch [
  | in-Ok w ↦
      rw (w.result-is) (opened_pin c.self.inside.graph c.self.inside.limits c.self.inside.plans c.self.inside.watches c.self.inside.pins.pins c.self.inside.follows c.args.self.now c.self.view_is c.args.name (c.in_default.ensures.none refl) c.add.new.self.pins
      (λ there. let e = w.in-Ok.ensures.taken.1 there in let no : ⊥ = cc in no)
      (λ many. let e = w.in-Ok.ensures.full.1 ((λ there. let e = w.in-Ok.ensures.taken.1 there in let no : ⊥ = cc in no), many) in let no : ⊥ = cc in no)
      w.in-Ok.ensures.added)
  | in-Err-Taken w ↦
      rw (w.result-is) (taken_pin c.self.inside.graph c.self.inside.limits c.self.inside.plans c.self.inside.watches c.self.inside.pins.pins c.self.inside.follows c.args.self.now c.self.view_is c.args.name (c.in_default.ensures.none refl) c.add.new.self.pins
      (w.in-Err-Taken.ensures.taken.0 (ap Err w.in-Err-Taken.field-0-is)) (ap (λ (v : Pinned). v.pins) w.in-Err-Taken.ensures.same))
  | in-Err-Full w ↦
      let full = w.in-Err-Full.ensures.full.0 (ap Err w.in-Err-Full.field-0-is) in
      rw (w.result-is) (full_of_pins c.self.inside.graph c.self.inside.limits c.self.inside.plans c.self.inside.watches c.self.inside.pins.pins c.self.inside.follows c.args.self.now c.self.view_is c.args.name (c.in_default.ensures.none refl) c.add.new.self.pins
      full.0 full.1 (ap (λ (v : Pinned). v.pins) w.in-Err-Full.ensures.same))
  | in-Err-Memory w ↦
      rw (w.result-is) (
        pins_alike c.self.inside.graph c.self.inside.limits c.self.inside.plans c.self.inside.watches c.self.inside.pins.pins c.self.inside.follows c.args.self.now c.self.view_is c.add.new.self.pins (ap (λ (v : Pinned). v.pins) w.in-Err-Memory.ensures.same),
        may_be_opened c.self.inside.graph c.self.inside.limits c.self.inside.plans c.self.inside.watches c.self.inside.pins.pins c.self.inside.follows c.args.self.now c.self.view_is c.args.name (c.in_default.ensures.none refl)
            (λ there. let e = w.in-Err-Memory.ensures.taken.1 there in let f = w.in-Err-Memory.field-0-is in let no : ⊥ = cc in no)
            (λ many. let e = w.in-Err-Memory.ensures.full.1 ((λ there. let e = w.in-Err-Memory.ensures.taken.1 there in let f = w.in-Err-Memory.field-0-is in let no : ⊥ = cc in no), many) in let f = w.in-Err-Memory.field-0-is in let no : ⊥ = cc in no),
      )
]

pub returns-in-Some-clause-decides : goal.returns-in-Some-clause-decides
returns-in-Some-clause-decides c =
    let m = c.args.self.now.machine in
    let first = subst (λ (s : Standing). FirstOf (TickBreaks s.machine.graph) tick_rules c.in-Some.rule) c.self.view_is c.in-Some.ensures.some in
    said c.args.self.now (Refused c.in-Some.rule)
    (refusal m (OpenBreaks m.graph m.pins c.args.name) open_rules (OpensPin m c.args.name) c.in-Some.rule (tick_first_open m.graph m.pins c.args.name c.in-Some.rule first) _ refl)
