use Rattle.std.proofs.Common.{◌≡◌, [], refl}
use Rattle.itpg_session.specs.PlainWatches.{all_plain}
use Rattle.itpg_session.specs.Machine.{Machine}
use Rattle.itpg_session.proofs.Answering.{may_name, is_unknown}
use Rattle.itpg_session.proofs.NamedLists.{found_at}
use Rattle.itpg_session.proofs.Plain.{said_plain, plain_watched, watched_plain}
use Rattle.itpg_session.proofs.rules.place_of.Goals as goal

pub returns-in_default-find-clause-broken : goal.returns-in_default-find-clause-broken
returns-in_default-find-clause-broken c =
    let ws = c.args.watches.now in
    let m : Machine = record { graph = c.args.graph.now; watches = all_plain ws; pins = []; follows = [] } in
    is_unknown m c.args.name.now (c.in_default.ensures.none refl) (λ there. c.in_default-find.ensures.none.0 refl (watched_plain ws c.args.name.now there))

pub returns-clause-place : goal.returns-clause-place
returns-clause-place c = said_plain (λ w. w.name ≡ c.args.name.now) c.args.watches.now c.in-Some-find.place c.in-Some-find.ensures.some

pub returns-clause-unbroken : goal.returns-clause-unbroken
returns-clause-unbroken c =
    let ws = c.args.watches.now in
    let m : Machine = record { graph = c.args.graph.now; watches = all_plain ws; pins = []; follows = [] } in
    let w = found_at (λ w. w.name ≡ c.args.name.now) ws c.in-Some-find.place c.in-Some-find.ensures.some in
    may_name m c.args.name.now (c.in_default.ensures.none refl) (λ none. none (plain_watched ws c.args.name.now (w.0, w.1, w.3)))
