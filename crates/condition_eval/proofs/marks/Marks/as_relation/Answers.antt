use Rattle.std.proofs.Common.{List, sym, subst}
use Rattle.relation_rows.specs.declared.times.OneRow.{OneRow}
use Rattle.relation_rows.specs.Answers.{Gives}
use Rattle.relation_rows.specs.Resting.{StaysWithin}
use Rattle.relation_rows.proofs.Giving.{gives_alike}
use Rattle.condition_eval.specs.Combined.{MarkedToItself}
use Rattle.condition_eval.proofs.marks.Marks.as_relation.Goals as goal

pub returns : goal.returns
returns c =
    let given = subst (λ (v : List OneRow). Gives c.as_relation.result (StaysWithin v) c.args.max_rows) c.self.view_is c.as_relation.ensures in
    gives_alike (StaysWithin c.args.self.now) (MarkedToItself c.args.self.now) (λ x y h. (sym h.0, h.1)) (λ x y h. (sym h.0, h.1)) c.args.max_rows c.as_relation.result given
