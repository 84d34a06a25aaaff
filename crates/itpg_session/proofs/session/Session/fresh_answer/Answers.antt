use Rattle.std.proofs.Common.{refl}
use Rattle.itpg_session.proofs.Stepping.{keeps_shows, keeps_none}
use Rattle.itpg_session.proofs.Written.{if_some}
use Rattle.itpg_session.proofs.session.Session.fresh_answer.Goals as goal

pub returns-clause-some : goal.returns-clause-some
returns-clause-some c =
    if_some (λ answer keeps. keeps_shows c.self.inside.graph c.self.inside.limits c.self.inside.plans c.self.inside.watches c.self.inside.pins.pins c.self.inside.follows c.args.self.now c.self.view_is c.self.invariant.kept.watches_right (c.in_default.ensures.none refl) c.args.name.now _ keeps)
    c.answer.result c.answer.ensures.some

pub returns-clause-none : goal.returns-clause-none
returns-clause-none c = λ none shows.
    keeps_none c.self.inside.graph c.self.inside.limits c.self.inside.plans c.self.inside.watches c.self.inside.pins.pins c.self.inside.follows c.args.self.now c.self.view_is c.args.name.now (c.answer.ensures.none.0 none) shows.1
