use Rattle.std.proofs.Common.{◌+◌, ◌<◌, length, take}
use Rattle.itpg_base.specs.Lists.{Among}
use Rattle.relation_rows.specs.declared.rows.Row.{Row}
use Rattle.relation_rows.specs.Offsets.{AreBegins}
use Rattle.relation_rows.proofs.offsets.begins_of.Given as goal

abbrev pub invariant-loop-place : goal.invariant-loop-place
invariant-loop-place l = record {
  listed : AreBegins l.rows l.first l.begins.items;
  passed : (r : Row) → Among (take l.place l.rows) r → r.source.0 < l.first + length l.begins.items;
}
