use Rattle.std.proofs.Common.{◌∙◌, IfOk, List, sym, subst}
use Rattle.relation_rows.specs.declared.times.OneRow.{OneRow}
use Rattle.relation_rows.specs.Times.{OnlyFirstHas, AreTimes, IsOneTime}
use Rattle.relation_rows.proofs.times.OneTime.minus.Goals as goal

pub only_first-requires-clause-first : goal.only_first-requires-clause-first
only_first-requires-clause-first c = subst IsOneTime (sym c.rows.ensures) c.self.invariant

pub only_first-requires-clause-second : goal.only_first-requires-clause-second
only_first-requires-clause-second c = subst IsOneTime (sym c.rows-2.ensures) c.other.invariant

pub returns : goal.returns
returns c =
    subst (λ (v : List OneRow). IfOk c.only_first.result (λ (rest : List OneRow). AreTimes (OnlyFirstHas v c.args.other.now) rest)) (c.rows.ensures ∙ c.self.view_is)
    (subst (λ (v : List OneRow). IfOk c.only_first.result (λ (rest : List OneRow). AreTimes (OnlyFirstHas c.rows.result.now v) rest)) (c.rows-2.ensures ∙ c.other.view_is) c.only_first.ensures)
