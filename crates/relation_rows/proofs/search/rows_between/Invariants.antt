use Rattle.std.proofs.Common.{ℕ}
use Rattle.relation_rows.specs.Relations.{IsOneOf}
use Rattle.relation_rows.proofs.Keeping.{KeptSoFar}
use Rattle.relation_rows.proofs.search.rows_between.Given as goal

abbrev pub invariant-loop-row : goal.invariant-loop-row
invariant-loop-row l = KeptSoFar (λ (o : ℕ) (p : ℕ). IsOneOf l.fn.sources o × IsOneOf l.fn.targets p) l.fn.rows l.row-index l.kept.items
