use Rattle.std.proofs.Common.{inl, refl, subst}
use Rattle.path_ast.specs.Terms.{path_term, query_term}
use Rattle.itpg_edit.specs.Rules.{FirstOf}
use Rattle.itpg_session.specs.Rules.{WatchBreaks, watch_rules}
use Rattle.itpg_session.specs.Replies.{Refused}
use Rattle.itpg_session.specs.Machine.{Standing, AddsWatch}
use Rattle.itpg_session.proofs.Answering.{refusal}
use Rattle.itpg_session.proofs.Told.{said}
use Rattle.itpg_session.proofs.Accepting.{adds_none}
use Rattle.itpg_session.proofs.session.Session.watch_query.Goals as goal

pub returns-in-Some-clause-decides : goal.returns-in-Some-clause-decides
returns-in-Some-clause-decides c =
    let q = query_term c.args.query in
    let m = c.args.self.now.machine in
    let first = subst (λ (s : Standing). FirstOf (WatchBreaks s.machine.graph s.machine.watches c.args.name q) watch_rules c.in-Some.rule) c.self.view_is c.in-Some.ensures.some in
    said c.args.self.now (Refused c.in-Some.rule) (refusal m (WatchBreaks m.graph m.watches c.args.name q) watch_rules (AddsWatch m c.args.name q) c.in-Some.rule first _ refl)

pub returns-in-Some-clause-adds : goal.returns-in-Some-clause-adds
returns-in-Some-clause-adds c = inl (adds_none (path_term c.args.query.path) c.args.self.now.table)
