use Rattle.std.proofs.Common.{◌≤◌}
use Rattle.std.specs.Iterator.Adapters.{step_by_source}
use Rattle.std.specs.Slice.Iter.{iter_rest}
use Rattle.itpg_base.specs.Lists.{Among, Ordered}
use Rattle.relation_rows.specs.declared.rows.Row.{Row}
use Rattle.relation_rows.specs.Rows.{RowBefore, RowsHold}
use Rattle.wide_witness.proofs.Seeing.{HaveSeen}
use Rattle.wide_witness.proofs.witness.is_seen_wide.Given as goal

abbrev pub invariant-loop-row : goal.invariant-loop-row
invariant-loop-row l =
    ((r : Row) → Among (iter_rest (step_by_source l.row-iterator)) r → Among l.fn.x r × (l.object.0 ≤ r.source.0))
    × Ordered RowBefore (iter_rest (step_by_source l.row-iterator))
    × HaveSeen (RowsHold l.fn.x) l.fn.steps l.object.0 l.before l.most
