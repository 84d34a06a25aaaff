use Rattle.relation_rows.proofs.Going.{by_rows_from, by_busy}
use Rattle.relation_rows.proofs.ways.push_ways.Goals as goal

pub push_scanned-requires : goal.push_scanned-requires
push_scanned-requires c = record {
  row = c.requires.row;
  here = λ r a. (c.requires.second).formed r ((c.from-here.ensures.rows r).0 a).0;
  source = λ r a. ((c.from-here.ensures.rows r).0 a).1;
}

pub returns-then-is_searched : goal.returns-then-is_searched
returns-then-is_searched c =
    by_busy c.args.row.now c.args.second.now c.from-here.result.now c.from-here.ensures.rows c.args.items.now.items c.push_searched.new.items.items
    c.args.busy.now c.requires.second c.from-here.ensures.order (c.is_searched.ensures.many c.if-is_searched.true) (c.is_searched.ensures.legs c.if-is_searched.true) c.in_ok-push_searched.ensures

pub returns : goal.returns
returns c = by_rows_from c.args.row.now c.args.second.now c.from-here.result.now c.from-here.ensures.rows c.args.items.now.items c.push_scanned.new.items.items c.in_ok-push_scanned.ensures
