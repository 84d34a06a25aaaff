use Rattle.std.proofs.Common.{List, Option, ◌∙◌, subst}
use Rattle.std.specs.Prelude.{IfSome}
use Rattle.band_normal.proofs.PartLemmas.{none_left}
use Rattle.relation_rows.specs.declared.rows.Row.{Row}
use Rattle.relation_rows.specs.Rows.{NormalRows}
use Rattle.relation_rows.specs.Relations.{HasMiddlePoint}
use Rattle.relation_rows.specs.EvenParts.{AreParts}
use Rattle.relation_rows.proofs.HalfRows.{so_of_found}
use Rattle.relation_rows.proofs.EvenParts.{by_first_parts, by_first_alone, by_rest_alone}
use Rattle.relation_rows.proofs.halves.by_runs.Goals as goal

pub returns-then-is_empty : goal.returns-then-is_empty
returns-then-is_empty c =
    let second = c.in_ok-others.ensures ∙ c.rows.ensures.rows in
    let parts = subst (λ (v : List Row). AreParts v c.parts.result.0.now c.parts.result.1.now) c.in_ok-first.ensures c.parts.ensures in
    so_of_found _ (λ all. NormalRows (HasMiddlePoint c.args.rows.now c.args.second.now) all) c.by_second_parts.result
    (λ all rest. by_rest_alone c.args.rows.now c.parts.result.0.now c.parts.result.1.now c.args.second.now all parts (none_left c.parts.result.0.now c.if-is_empty.ensures)
    (subst (λ (v : List Row). NormalRows (HasMiddlePoint c.parts.result.1.now v) all) second rest))
    c.by_second_parts.ensures

pub returns-then-is_empty-2 : goal.returns-then-is_empty-2
returns-then-is_empty-2 c =
    let second = c.in_ok-others.ensures ∙ c.rows.ensures.rows in
    let parts = subst (λ (v : List Row). AreParts v c.parts.result.0.now c.parts.result.1.now) c.in_ok-first.ensures c.parts.ensures in
    let even = subst (λ (v : Option (List Row)). IfSome v (λ all. NormalRows (HasMiddlePoint c.parts.result.0.now c.in_ok-others.others) all)) c.in-Some.is c.in_ok-of_even.ensures in
    by_first_alone c.args.rows.now c.parts.result.0.now c.parts.result.1.now c.args.second.now c.in-Some.of_even parts (none_left c.parts.result.1.now c.if-is_empty-2.ensures)
    (subst (λ (v : List Row). NormalRows (HasMiddlePoint c.parts.result.0.now v) c.in-Some.of_even) second even)

pub returns : goal.returns
returns c =
    let second = c.in_ok-others.ensures ∙ c.rows.ensures.rows in
    let parts = subst (λ (v : List Row). AreParts v c.parts.result.0.now c.parts.result.1.now) c.in_ok-first.ensures c.parts.ensures in
    let even = subst (λ (v : Option (List Row)). IfSome v (λ all. NormalRows (HasMiddlePoint c.parts.result.0.now c.in_ok-others.others) all)) c.in-Some.is c.in_ok-of_even.ensures in
    let rest = subst (λ (v : Option (List Row)). IfSome v (λ all. NormalRows (HasMiddlePoint c.parts.result.1.now c.in_ok-others.others) all)) c.in-Some-2.is c.in_ok-of_rest.ensures in
    so_of_found _ (λ all. NormalRows (HasMiddlePoint c.args.rows.now c.args.second.now) all) c.both_of.result
    (λ all both. by_first_parts c.args.rows.now c.parts.result.0.now c.parts.result.1.now c.args.second.now c.in-Some.of_even c.in-Some-2.of_rest all parts
    (subst (λ (v : List Row). NormalRows (HasMiddlePoint c.parts.result.0.now v) c.in-Some.of_even) second even)
    (subst (λ (v : List Row). NormalRows (HasMiddlePoint c.parts.result.1.now v) c.in-Some-2.of_rest) second rest)
    both)
    c.both_of.ensures
