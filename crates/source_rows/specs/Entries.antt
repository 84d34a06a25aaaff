-- How what is kept of single sources lies in a table.
use Rattle.std.specs.Prelude.{ℕ, List, map}
use Rattle.itpg_base.specs.declared.object_number.ObjNo.{ObjNo}
use Rattle.relation_rows.specs.Answered.{Answered}
use Rattle.source_rows.specs.Follows.{Entry, entry}

-- objects that rows depend on, and the rows
pub record Kept : Type 0 where
  pub objects : List ObjNo
  pub rows : Answered

-- the entry of a source and of what is kept of it
abbrev pub entry_of : ℕ × Kept → Entry
entry_of p = entry p.0 p.1.objects p.1.rows

abbrev pub entries_of : List (ℕ × Kept) → List Entry
entries_of pairs = map entry_of pairs
