use Rattle.std.proofs.Common.{IfOk, subst, ℕ}
use Rattle.relation_rows.specs.Rows.{RowsHold}
use Rattle.wide_witness.specs.Steps.{AreSeenFrom}
use Rattle.wide_witness.proofs.witness.runs_at.Goals as goal

pub returns : goal.returns
returns c =
    let departs = c.in-Some.ensures in
    subst (λ (o : ℕ). IfOk c.runs_from.result (λ count. AreSeenFrom (RowsHold c.args.x.now) c.args.steps o count)) departs.object c.runs_from.ensures
