use Rattle.std.proofs.Common.{◌≡◌, ◌+◌}
use Rattle.std.specs.List.{sum_by}
use Rattle.relation_rows.specs.Answered.{row_number}
use Rattle.source_rows.specs.Follows.{entry_rows}
use Rattle.source_rows.specs.Entries.{entries_of}
use Rattle.source_rows.proofs.entries.rows_in.Given as goal

abbrev pub invariant-loop-kept : goal.invariant-loop-kept
invariant-loop-kept l =
    (goal.iterator-loop-kept).can_next l.kept-iterator ×
    (goal.iterator-loop-kept).is_finite l.kept-iterator ×
    (l.count + sum_by (λ k. row_number k.rows) l.kept-iterator ≡ entry_rows (entries_of l.table.entries))
