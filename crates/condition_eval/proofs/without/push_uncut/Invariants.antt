use Rattle.relation_rows.proofs.TimesMinus.{IsLeftTo}
use Rattle.condition_eval.proofs.without.push_uncut.Given as goal

abbrev pub invariant-loop-cut : goal.invariant-loop-cut
invariant-loop-cut l = IsLeftTo l.fn.row l.fn.cuts l.initial.rows.items l.cut-index l.from l.rows.items
