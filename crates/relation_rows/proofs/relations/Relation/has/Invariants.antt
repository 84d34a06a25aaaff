use Rattle.std.proofs.Common.{take}
use Rattle.itpg_base.specs.Lists.{Among}
use Rattle.band_normal.specs.Bands.{InBand}
use Rattle.relation_rows.specs.declared.rows.Row.{Row}
use Rattle.relation_rows.proofs.relations.Relation.has.Given as goal

abbrev pub invariant-loop-row : goal.invariant-loop-row
invariant-loop-row l = (r : Row) → Among (take l.row-index l.row-items) r → ¬ InBand r.band l.fn.t l.fn.u
