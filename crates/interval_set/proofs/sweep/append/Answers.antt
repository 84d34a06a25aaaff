use Rattle.std.proofs.Common.{◌⊎◌, subst, sym}
use Rattle.std.proofs.lemmas.Result.{on_ok_weaker}
use Rattle.itpg_base.specs.Spans.{Covers, Within}
use Rattle.interval_set.specs.Splices.{spliced}
use Rattle.interval_set.specs.Runs.{AreRuns}
use Rattle.interval_set.proofs.Plain.{runs_of_spans, joined_by}
use Rattle.interval_set.proofs.sweep.append.Goals as goal

pub putting_among-requires-clause-runs : goal.putting_among-requires-clause-runs
putting_among-requires-clause-runs c = rw c.deref.ensures.value (runs_of_spans c.args.spans.now.items c.requires.coalesced)

pub returns : goal.returns
returns c =
    let xs = c.args.spans.now.items in
    let runs = joined_by xs (spliced c.putting_among.result xs) c.args.s (rw c.deref.ensures.value at c.putting_among.ensures.runs) in
    on_ok_weaker c.apply.result (λ e. subst (AreRuns (λ t. Covers xs t ⊎ Within t c.args.s)) (sym e) runs) c.apply.ensures.ok
