use Rattle.std.proofs.Common.{ℕ, map, refl, subst}
use Rattle.std.proofs.lemmas.Result.{err_from_is_err_and}
use Rattle.itpg_edit.specs.Rules.{FirstOf, NoneOf}
use Rattle.itpg_session.specs.PlainWatches.{all_plain}
use Rattle.itpg_session.specs.Rules.{TickBreaks, tick_rules}
use Rattle.itpg_session.specs.Ticks.{ticked_of, AreTicked}
use Rattle.itpg_session.specs.Replies.{Refused}
use Rattle.itpg_session.specs.Machine.{Standing, TicksAll}
use Rattle.itpg_session.proofs.Answering.{refusal}
use Rattle.itpg_session.proofs.Told.{said}
use Rattle.itpg_session.specs.Keeping.{IsWorkedFor, IsStale}
use Rattle.itpg_session.proofs.WorkedFor.{none_for}
use Rattle.itpg_session.proofs.Settled.{worked_alike, told_tick}
use Rattle.itpg_session.proofs.session.Session.tick.Goals as goal

pub returns-in_err-found-clause-decides : goal.returns-in_err-found-clause-decides
returns-in_err-found-clause-decides c =
    let unbroken = subst (λ (s : Standing). NoneOf (TickBreaks s.machine.graph) tick_rules) c.self.view_is (c.in_default.ensures.none refl) in
    let p = err_from_is_err_and c.from_residual.result c.from_residual.ensures.1 in
    rw (p.1) (worked_alike c.self.inside.graph c.self.inside.limits c.self.inside.plans c.self.inside.watches c.self.inside.pins.pins c.self.inside.follows c.args.self.now c.self.view_is c.tick_all.new.plans, unbroken)

pub returns-clause-decides : goal.returns-clause-decides
returns-clause-decides c =
    let found = map ticked_of c.in_ok-found.found.items in
    let finds = subst (λ (n : ℕ). AreTicked c.self.inside.graph n (all_plain c.self.inside.watches) found) c.max_rows.ensures.value c.in_ok-found.ensures.found in
    told_tick c.self.inside.graph c.self.inside.limits c.self.inside.plans c.self.inside.watches c.self.inside.pins.pins c.self.inside.follows c.args.self.now c.self.view_is c.tick_all.new.plans found (c.in_default.ensures.none refl) finds

pub returns-in-Some-clause-decides : goal.returns-in-Some-clause-decides
returns-in-Some-clause-decides c =
    let m = c.args.self.now.machine in
    let first = subst (λ (s : Standing). FirstOf (TickBreaks s.machine.graph) tick_rules c.in-Some.rule) c.self.view_is c.in-Some.ensures.some in
    said c.args.self.now (Refused c.in-Some.rule) (refusal m (TickBreaks m.graph) tick_rules (TicksAll c.args.self.now.limit m) c.in-Some.rule first _ refl)

pub returns-in-Some-clause-table : goal.returns-in-Some-clause-table
returns-in-Some-clause-table c = none_for (IsStale c.args.self.now.machine.watches) c.args.self.now.table

pub returns-in_err-found-clause-table : goal.returns-in_err-found-clause-table
returns-in_err-found-clause-table c = subst (λ (s : Standing). IsWorkedFor (IsStale s.machine.watches) s.table c.tick_all.new.plans) c.self.view_is c.tick_all.ensures.worked

pub returns-clause-table : goal.returns-clause-table
returns-clause-table c = subst (λ (s : Standing). IsWorkedFor (IsStale s.machine.watches) s.table c.tick_all.new.plans) c.self.view_is c.tick_all.ensures.worked
