use Rattle.relation_rows.proofs.CutRows.{same_cut, met_cuts}
use Rattle.relation_rows.proofs.times_minus.push_left.Goals as goal

pub returns-then-is_same : goal.returns-then-is_same
returns-then-is_same c = same_cut c.args.row.now c.in-Some.cut.now c.args.cuts.now c.in-Some.later.now c.in-Some.ensures.cases.0 c.requires.order c.requires.span (c.is_same.ensures c.if-is_same.true) c.args.times.now.items

pub returns : goal.returns
returns c = met_cuts c.args.row.now c.requires.span c.args.cuts.now c.reaching-left.result.now c.meeting.result.now _ _ c.reaching-left.ensures.order c.reaching-left.ensures.there c.reaching-left.ensures.kept c.meeting.ensures.there c.meeting.ensures.meets c.meeting.ensures.all c.in_ok-push_uncut.ensures
