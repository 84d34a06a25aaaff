use Rattle.std.proofs.Common.{◌≡◌, refl, sym, subst}
use Rattle.std.specs.Prelude.{slice_get, IsSomeAnd}
use Rattle.path_ast.specs.Terms.{query_term, path_term}
use Rattle.itpg_edit.specs.Rules.{FirstOf, NoneOf}
use Rattle.itpg_pins.specs.Pins.{IsOnlyPlace}
use Rattle.itpg_session.specs.PlainPins.{plain_pins}
use Rattle.itpg_session.specs.Rules.{PinBreaks, name_rules}
use Rattle.itpg_session.specs.Replies.{Refused, reply_of, of_pin}
use Rattle.itpg_session.specs.Keeping.{KeepsPath}
use Rattle.itpg_session.specs.Machine.{Standing, AsksPin}
use Rattle.itpg_session.proofs.Answering.{refusal}
use Rattle.itpg_session.proofs.Told.{said, said_alike}
use Rattle.itpg_session.proofs.Lent.{place_within, asked_pin, one_asked}
use Rattle.itpg_session.proofs.session.Session.ask_query_in.Goals as goal

pub returns-in-Err-clause-decides : goal.returns-in-Err-clause-decides
returns-in-Err-clause-decides c =
    let m = c.args.self.now.machine in
    let q = query_term c.args.query.now in
    let first = subst (λ (s : Standing). FirstOf (PinBreaks s.machine.graph s.machine.pins c.args.name.now) name_rules c.in-Err.rule) c.self.view_is c.in-Err.ensures.broken in
    said c.args.self.now (Refused c.in-Err.rule) (refusal m (PinBreaks m.graph m.pins c.args.name.now) name_rules (AsksPin c.args.self.now.limit m c.args.name.now q) c.in-Err.rule first _ refl)

pub ask_at-requires-clause-there : goal.ask_at-requires-clause-there
ask_at-requires-clause-there c =
    let named = subst (λ (s : Standing). IsSomeAnd (slice_get s.pins c.in-Ok.place) (λ p. p.name ≡ c.args.name.now)) c.self.view_is c.in-Ok.ensures.place in
    place_within (λ p. p.name ≡ c.args.name.now) c.args.self.now.pins c.in-Ok.place named

pub returns-clause-decides : goal.returns-clause-decides
returns-clause-decides c =
    let s = c.args.self.now in
    let q = query_term c.args.query.now in
    let pins = subst (λ (s : Standing). plain_pins s.pins ≡ s.machine.pins) c.self.view_is refl in
    let named = subst (λ (s : Standing). IsSomeAnd (slice_get s.pins c.in-Ok.place) (λ p. p.name ≡ c.args.name.now)) c.self.view_is c.in-Ok.ensures.place in
    let unbroken = subst (λ (s : Standing). NoneOf (PinBreaks s.machine.graph s.machine.pins c.args.name.now) name_rules) c.self.view_is c.in-Ok.ensures.unbroken in
    rw (c.of_pin.ensures) (said_alike s c.ask_at.new.self (of_pin c.in-Ok.place (reply_of c.in_ok-asked.asked)) c.in_ok-asked.ensures.alike
    (asked_pin s.limit s.machine c.args.name.now s.pins pins c.in-Ok.place named q (reply_of c.in_ok-asked.asked) unbroken c.in_ok-asked.ensures.reply))

pub returns-clause-asked : goal.returns-clause-asked
returns-clause-asked c = λ place answer turn.
    let s = c.args.self.now in
    let q = query_term c.args.query.now in
    let pins = subst (λ (s : Standing). plain_pins s.pins ≡ s.machine.pins) c.self.view_is refl in
    let named = subst (λ (s : Standing). IsSomeAnd (slice_get s.pins c.in-Ok.place) (λ p. p.name ≡ c.args.name.now)) c.self.view_is c.in-Ok.ensures.place in
    let only = subst (λ (s : Standing). IsOnlyPlace s.pins c.args.name.now c.in-Ok.place) c.self.view_is c.in-Ok.ensures.only in
    let is = one_asked s.limit s.machine c.args.name.now s.pins pins c.in-Ok.place named only q (reply_of c.in_ok-asked.asked) c.in_ok-asked.ensures.reply place answer turn in
    subst (λ i. IsSomeAnd (slice_get c.ask_at.new.self.pins i) (λ p. KeepsPath p.graph (path_term c.args.query.now.path) p.table)) (sym is.0) (c.in_ok-asked.ensures.keeps answer is.1)
