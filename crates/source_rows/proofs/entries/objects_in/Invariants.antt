use Rattle.std.proofs.Common.{◌≡◌, ◌+◌, length}
use Rattle.std.specs.List.{sum_by}
use Rattle.source_rows.specs.Follows.{entry_objects}
use Rattle.source_rows.specs.Entries.{entries_of}
use Rattle.source_rows.proofs.entries.objects_in.Given as goal

abbrev pub invariant-loop-kept : goal.invariant-loop-kept
invariant-loop-kept l =
    (goal.iterator-loop-kept).can_next l.kept-iterator ×
    (goal.iterator-loop-kept).is_finite l.kept-iterator ×
    (l.count + sum_by (λ k. length k.objects) l.kept-iterator ≡ entry_objects (entries_of l.table.entries))
