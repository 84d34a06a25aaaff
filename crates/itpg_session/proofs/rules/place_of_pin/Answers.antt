use Rattle.std.proofs.Common.{◌≡◌, refl}
use Rattle.itpg_session.specs.PlainPins.{plain_pins}
use Rattle.itpg_session.proofs.Answering.{may_pin, is_no_pin}
use Rattle.itpg_session.proofs.NamedLists.{found_at}
use Rattle.itpg_session.proofs.PinLists.{held_pinned, pinned_held}
use Rattle.itpg_session.proofs.rules.place_of_pin.Goals as goal

pub returns-in_default-find-clause-broken : goal.returns-in_default-find-clause-broken
returns-in_default-find-clause-broken c =
    let ps = c.args.pins.now.pins in
    is_no_pin c.args.graph.now (plain_pins ps) c.args.name.now (c.in_default.ensures.none refl) (λ there. c.in_default-find.ensures.none.0 refl (pinned_held ps c.args.name.now there))

pub returns-clause-unbroken : goal.returns-clause-unbroken
returns-clause-unbroken c =
    let ps = c.args.pins.now.pins in
    let h = found_at (λ p. p.name ≡ c.args.name.now) ps c.in-Some-find.place c.in-Some-find.ensures.some in
    may_pin c.args.graph.now (plain_pins ps) c.args.name.now (c.in_default.ensures.none refl) (λ none. none (held_pinned ps c.args.name.now (h.0, h.1, h.3)))
