use Rattle.std.proofs.Common.{ℕ, List, [], ◌∷◌, Option, sym, subst}
use Rattle.std.proofs.lemmas.Result.{err_from_is_err_and}
use Rattle.itpg_base.specs.declared.object_number.ObjNo.{ObjNo}
use Rattle.itpg_graph.specs.Edges.{AreNumbers}
use Rattle.path_ast.specs.Terms.{path_term}
use Rattle.relation_rows.specs.declared.rows.Row.{Row}
use Rattle.relation_rows.specs.declared.rows.RelFault.TheVariants.{Wide}
use Rattle.relation_rows.specs.Rows.{NormalRows}
use Rattle.relation_rows.specs.Relations.{Rise, IsBetween}
use Rattle.source_rows.specs.Reach.{Reach}
use Rattle.condition_eval.proofs.Listed.{rise_from}
use Rattle.path_eval.specs.Nearby.{AreRowsFrom}
use Rattle.path_eval.proofs.Filled.{same_fault}
use Rattle.path_eval.proofs.Sources.{near_is, fits_near, rows_near}
use Rattle.path_eval.proofs.nearby.near_rows.Goals as goal

pub returns-in_err-all-clause-wide : goal.returns-in_err-all-clause-wide
returns-in_err-all-clause-wide c =
    let near = near_is c.args.graph.now c.new.result (path_term c.args.query.now.path) c.args.object.0 c.steps.result c.in_ok-objects.objects.items c.deref.result.now c.steps.ensures c.in_ok-objects.ensures.reach c.deref.ensures.value c.new.ensures in
    let e = err_from_is_err_and c.from_residual-in_err-all.result c.from_residual-in_err-all.ensures.1 in
    rw (e.1, e.2)
    (λ w. record { near = c.new.result; is = near; wide = c.in_err-all.ensures.wide (same_fault c.in_err-all.field-0.0 Wide w) })

pub restrict-requires-clause-targets : goal.restrict-requires-clause-targets
restrict-requires-clause-targets c = subst Rise (sym c.deref-3.ensures.value) (rise_from c.in_ok-objects.objects.items c.in_ok-objects.ensures.reach.rising)

pub returns-clause-rows : goal.returns-clause-rows
returns-clause-rows c =
    let g = c.args.graph.now in
    let o = c.args.object in
    let p = path_term c.args.query.now.path in
    let objects = c.in_ok-objects.objects.items in
    let all = c.in_ok-all.all.value in
    let are = subst (λ (n : Option ℕ). AreNumbers (Reach g o.0 n) objects) c.steps.ensures c.in_ok-objects.ensures.reach in
    let near = near_is g c.new.result p o.0 c.steps.result objects c.deref.result.now c.steps.ensures c.in_ok-objects.ensures.reach c.deref.ensures.value c.new.ensures in
    let cut : NormalRows (IsBetween all (o ∷ []) objects) c.in_ok-restrict.field-0 =
    subst (λ (xs : List ObjNo). NormalRows (IsBetween all (o ∷ []) xs) c.in_ok-restrict.field-0) c.deref-3.ensures.value
    (subst (λ (rows : List Row). NormalRows (IsBetween rows (o ∷ []) c.deref-3.result.now) c.in_ok-restrict.field-0) c.deref-2.ensures c.in_ok-restrict.ensures) in
    subst (λ (rows : List Row). AreRowsFrom g p o.0 rows) (sym c.in_ok-rows.ensures) (rows_near p g c.new.result o objects all near are c.in_ok-all.ensures.rows c.in_ok-restrict.field-0 cut)

pub returns-clause-fits : goal.returns-clause-fits
returns-clause-fits c =
    let near = near_is c.args.graph.now c.new.result (path_term c.args.query.now.path) c.args.object.0 c.steps.result c.in_ok-objects.objects.items c.deref.result.now c.steps.ensures c.in_ok-objects.ensures.reach c.deref.ensures.value c.new.ensures in
    fits_near c.args.graph.now c.new.result c.args.max_rows (path_term c.args.query.now.path) c.args.object.0 near c.in_ok-all.ensures.fits
