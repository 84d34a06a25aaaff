-- The relation of marked points has a normal list, whatever the marks.
use Rattle.std.proofs.Common.{◌<◌, List, sym, subst}
use Rattle.itpg_base.specs.Points.{Point}
use Rattle.itpg_base.proofs.PointSearch.{same_point}
use Rattle.itpg_base.proofs.Searches.{both}
use Rattle.zone_core.specs.Zone.{Between}
use Rattle.relation_rows.specs.declared.rows.Row.{Row}
use Rattle.relation_rows.specs.declared.times.OneRow.{OneRow}
use Rattle.relation_rows.specs.Rows.{NormalRows}
use Rattle.relation_rows.proofs.Exists.{rows_exist}
use Rattle.relation_rows.proofs.FiniteTimes.{times_finite, decide_times}
use Rattle.condition_eval.specs.Combined.{MarkedToItself}

pub marked_rows : (marks : List OneRow) → (rows : List Row) × NormalRows (MarkedToItself marks) rows
marked_rows marks =
    let b = times_finite marks in
    let n = b.3 in
    rows_exist b.0 b.1 b.2 (MarkedToItself marks)
    (λ x y. both (same_point y x) (decide_times marks x.object x.moment))
    (record {
      source = λ x y h. n.object x.object x.moment h.1;
      target = λ x y h. subst (λ (v : Point). v.object < b.0) (sym h.0) (n.object x.object x.moment h.1);
      departs = λ x y h. n.moment x.object x.moment h.1;
      arrives = λ x y h. subst (λ (v : Point). Between b.1 b.2 v.moment) (sym h.0) (n.moment x.object x.moment h.1);
    })
