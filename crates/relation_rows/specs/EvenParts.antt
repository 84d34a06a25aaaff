-- Rows in two parts: those of long even runs, and the rest.
use Rattle.std.specs.Prelude.{◌↔◌, ◌⊎◌, ◌<◌, List, length}
use Rattle.itpg_base.specs.Lists.{Among, Ordered}
use Rattle.relation_rows.specs.declared.rows.Row.{Row}
use Rattle.relation_rows.specs.Rows.{RowBefore}

-- each row is in the one part or in the other, and both stand in order
pub record AreParts (rows even rest : List Row) : Type 0 where
  pub there : (r : Row) → Among rows r ↔ (Among even r ⊎ Among rest r)
  pub even_order : Ordered RowBefore even
  pub rest_order : Ordered RowBefore rest

-- rows in order, and their parts if the even one has a row
pub record AreParted (rows even rest : List Row) : Type 0 where
  pub order : Ordered RowBefore rows
  pub parts : 0 < length even → AreParts rows even rest
