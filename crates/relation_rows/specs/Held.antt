-- Rows of one time, wherever they lie.
use Rattle.std.specs.Prelude.{List}
use Rattle.relation_rows.specs.declared.times.OneRow.{OneRow}
use Rattle.relation_rows.specs.declared.held.Held.{Held}
use Rattle.relation_rows.specs.declared.held.Held.TheVariants.{Own, Shared}

-- the rows of its own list, or of the shared one
abbrev pub held : Held → List OneRow
held (Own rows) = rows.items
held (Shared rows) = rows.value.items
