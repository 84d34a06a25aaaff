use Rattle.std.proofs.Common.{List, Option, subst}
use Rattle.std.specs.Prelude.{IfSome}
use Rattle.band_normal.proofs.PartLemmas.{none_left}
use Rattle.relation_rows.specs.declared.rows.Row.{Row}
use Rattle.relation_rows.specs.Rows.{NormalRows}
use Rattle.relation_rows.specs.Relations.{HasMiddlePoint}
use Rattle.relation_rows.proofs.HalfRows.{so_of_found}
use Rattle.relation_rows.proofs.EvenParts.{by_later_parts, by_later_alone}
use Rattle.relation_rows.proofs.halves.by_second_parts.Goals as goal

pub returns-then-is_empty : goal.returns-then-is_empty
returns-then-is_empty c =
    let even = subst (λ (v : Option (List Row)). IfSome v (λ all. NormalRows (HasMiddlePoint c.args.rows.now c.parts.result.0.now) all)) c.in-Some.is c.in_ok-by_even.ensures in
    by_later_alone c.args.rows.now c.args.others.now c.parts.result.0.now c.parts.result.1.now c.in-Some.by_even c.parts.ensures (none_left c.parts.result.1.now c.if-is_empty.ensures) even

pub returns : goal.returns
returns c =
    let even = subst (λ (v : Option (List Row)). IfSome v (λ all. NormalRows (HasMiddlePoint c.args.rows.now c.parts.result.0.now) all)) c.in-Some.is c.in_ok-by_even.ensures in
    let rest = subst (λ (v : Option (List Row)). IfSome v (λ all. NormalRows (HasMiddlePoint c.args.rows.now c.parts.result.1.now) all)) c.in-Some-2.is c.in_ok-by_rest.ensures in
    so_of_found _ (λ all. NormalRows (HasMiddlePoint c.args.rows.now c.args.others.now) all) c.both_of.result
    (λ all both. by_later_parts c.args.rows.now c.args.others.now c.parts.result.0.now c.parts.result.1.now c.in-Some.by_even c.in-Some-2.by_rest all c.parts.ensures even rest both)
    c.both_of.ensures
