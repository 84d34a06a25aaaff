use Rattle.std.proofs.Common.{ℕ, refl}
use Rattle.relation_rows.specs.declared.rows.Row.{Row}
use Rattle.relation_rows.specs.Rows.{RowBefore}
use Rattle.relation_rows.proofs.Keys.{key_order}
use Rattle.relation_rows.proofs.SearchLemmas.{number_partitioned, numbered_rows}
use Rattle.relation_rows.proofs.Sources.{source_up}
use Rattle.relation_rows.proofs.search.rows_from.Goals as goal

abbrev source : Row → ℕ
source r = r.source.0

pub count_of-count-requires : goal.count_of-count-requires
count_of-count-requires c = number_partitioned source c.args.source.0 RowBefore source_up c.args.rows.now c.requires c.count_before-begin.result c.count_before-begin.ensures.within c.count_before-begin.ensures.point _ refl

pub returns-clause-rows : goal.returns-clause-rows
returns-clause-rows c =
    numbered_rows source c.args.source.0 RowBefore source_up c.args.rows.now c.requires c.count_before-begin.result c.count_before-begin.ensures.within c.count_before-begin.ensures.point _ refl
    c.count_of-count.result c.count_of-count.ensures.within c.count_of-count.ensures.point

pub returns-clause-order : goal.returns-clause-order
returns-clause-order c = key_order c.args.rows.now c.count_before-begin.result c.count_of-count.result c.requires
