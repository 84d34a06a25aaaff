use Rattle.path_eval.proofs.Wider.{labels_wider}
use Rattle.path_eval.proofs.within_both.covers.Goals as goal

pub returns-in-These-These : goal.returns-in-These-These
returns-in-These-These c told = labels_wider c.args.a.now c.args.b.now _ _ c.in-These-These.is-0 c.in-These-These.is-1 (c.has_each.ensures told)
