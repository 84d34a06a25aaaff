use Rattle.relation_rows.proofs.LeadingBack.{back_by}
use Rattle.relation_rows.proofs.returning.push_back.Goals as goal

pub returns : goal.returns
returns c = back_by c.args.row.now c.args.second.now c.rows_of_key-here.result.now c.rows_of_key-here.ensures.rows c.args.items.now.items c.push_scanned.new.items.items c.in_ok-push_scanned.ensures
