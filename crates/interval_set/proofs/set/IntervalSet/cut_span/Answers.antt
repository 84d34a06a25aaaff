use Rattle.std.proofs.Common.{subst, sym}
use Rattle.std.proofs.lemmas.Result.{on_ok_weaker, on_err_weaker}
use Rattle.itpg_base.specs.Spans.{Covers, Within, IsCoalesced}
use Rattle.interval_set.specs.Splices.{spliced}
use Rattle.interval_set.specs.Runs.{AreRuns}
use Rattle.interval_set.proofs.Outcomes.{either_way}
use Rattle.interval_set.proofs.Plain.{runs_of_spans, cut_by}
use Rattle.interval_set.proofs.set.IntervalSet.cut_span.Goals as goal

pub clearing-requires : goal.clearing-requires
clearing-requires c = rw c.deref.ensures.value (runs_of_spans c.self.inside.spans.items c.self.invariant)

pub invariant_of-self : goal.invariant_of-self
invariant_of-self c =
    let xs = c.self.inside.spans.items in
    let runs = cut_by xs (spliced c.clearing.result xs) c.args.s (rw c.deref.ensures.value at c.clearing.ensures.runs) in
    either_way c.apply.result
    (on_ok_weaker c.apply.result (λ e. subst IsCoalesced (sym e) runs.coalesced) c.apply.ensures.ok)
    (on_err_weaker c.apply.result (λ e. subst IsCoalesced (sym e) c.self.invariant) c.apply.ensures.err)

pub returns-clause-ok : goal.returns-clause-ok
returns-clause-ok c =
    let xs = c.self.inside.spans.items in
    let runs = cut_by xs (spliced c.clearing.result xs) c.args.s (rw c.deref.ensures.value at c.clearing.ensures.runs) in
    rw (← c.self.view_is) (on_ok_weaker c.apply.result (λ e. subst (AreRuns (λ t. Covers xs t × (¬ Within t c.args.s))) (sym e) runs) c.apply.ensures.ok)
