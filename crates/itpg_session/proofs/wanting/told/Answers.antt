use Rattle.std.proofs.Common.{subst}
use Rattle.relation_rows.specs.Rows.{RowsHold}
use Rattle.relation_rows.specs.Answers.{Gives}
use Rattle.arrivals.specs.Firsts.{Least, Latest}
use Rattle.itpg_session.specs.Replies.{line_reply}
use Rattle.itpg_session.proofs.Written.{if_ok}
use Rattle.itpg_session.proofs.Outcomes.{told_first, told_last, told_counted}
use Rattle.itpg_session.proofs.wanting.told.Goals as goal

pub returns-in-First-Pairs : goal.returns-in-First-Pairs
returns-in-First-Pairs c =
    let gives = subst (λ rows. Gives c.first.result (Least (RowsHold rows)) c.args.max_rows) c.deref.ensures c.first.ensures in
    rw (c.in-First-Pairs.is-0, c.in-First-Pairs.is-1) (if_ok (λ reply told. told_first c.args.max_rows c.in-First-Pairs.relation.value c.first.result (line_reply reply) gives told) c.told_rows.result c.told_rows.ensures)

pub returns-in-Last-Pairs : goal.returns-in-Last-Pairs
returns-in-Last-Pairs c =
    let gives = subst (λ rows. Gives c.last.result (Latest (RowsHold rows)) c.args.max_rows) c.deref-in-Last-Pairs.ensures c.last.ensures in
    rw (c.in-Last-Pairs.is-0, c.in-Last-Pairs.is-1) (if_ok (λ reply told. told_last c.args.max_rows c.in-Last-Pairs.relation.value c.last.result (line_reply reply) gives told) c.told_rows-in-Last-Pairs.result c.told_rows-in-Last-Pairs.ensures)

pub returns-in-Count-Times : goal.returns-in-Count-Times
returns-in-Count-Times c =
    rw (c.in-Count-Times.is-0, c.in-Count-Times.is-1) (if_ok (λ reply told. told_counted c.args.max_rows c.in-Count-Times.times c.count.result (line_reply reply) c.count.ensures told) c.told_counts.result c.told_counts.ensures)
