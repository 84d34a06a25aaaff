use Rattle.std.proofs.Common.{List, Some, length, slice_get, option_map, refl, ap, subst, ◌∙◌, arith}
use Rattle.std.proofs.lemmas.Option.{slice_get_read}
use Rattle.std.proofs.lemmas.Result.{err_from_is_err_and}
use Rattle.relation_rows.specs.declared.rows.RelFault.TheVariants.{Wide}
use Rattle.plan_cache.specs.Nodes.{PlanNode}
use Rattle.path_eval.specs.Filled.{IsWideAt}
use Rattle.path_eval.proofs.Filled.{parts_made, still_well, one_filled, wide_up, is_marked, same_fault}
use Rattle.path_eval.proofs.evaluation.below.Goals as goal

pub next-requires-clause-parts : goal.next-requires-clause-parts
next-requires-clause-parts c =
    let on = c.args.ground.now in
    let old = c.args.plans.now in
    let no = c.args.no.0 in
    let marks = c.in_ok-needed.needed.items in
    let reached = c.in_ok-needed.ensures.reached in
    let k = c.loop-k.k in
    let there = c.requires.there in
    let long = reached.long in
    let test = c.loop-k-test.true in
    let mark = slice_get_read marks (length marks) k c.index.result.now refl (omega arith) c.index.ensures in
    λ t free. parts_made on old c.reached.ensures.shared no k c.loop-k.plans c.loop-k.made c.loop-k.invariant (omega arith) (reached.sound k (mark ∙ ap Some t)) free

pub returns-in_err-relation-clause-wide : goal.returns-in_err-relation-clause-wide
returns-in_err-relation-clause-wide c =
    let on = c.args.ground.now in
    let old = c.args.plans.now in
    let no = c.args.no.0 in
    let marks = c.in_ok-needed.needed.items in
    let reached = c.in_ok-needed.ensures.reached in
    let k = c.loop-k.k in
    let there = c.requires.there in
    let long = reached.long in
    let test = c.loop-k-test.true in
    let mark = slice_get_read marks (length marks) k c.index.result.now refl (omega arith) c.index.ensures in
    let same = c.loop-k.invariant.well.nodes in
    let p = err_from_is_err_and c.from_residual-in_err-relation.result c.from_residual-in_err-relation.ensures.1 in
    rw (p.1, p.2)
    (λ w. let h = c.in_err-relation.ensures.wide (same_fault c.in_err-relation.field-0.0 Wide w) in
    wide_up on old c.reached.ensures.shared no k there (reached.sound k (mark ∙ ap Some h.0)) (subst (λ (v : List PlanNode). IsWideAt on v k) same h.1))

pub returns-in_err-relation-clause-well : goal.returns-in_err-relation-clause-well
returns-in_err-relation-clause-well c =
    let on = c.args.ground.now in
    let old = c.args.plans.now in
    let no = c.args.no.0 in
    let marks = c.in_ok-needed.needed.items in
    let reached = c.in_ok-needed.ensures.reached in
    let k = c.loop-k.k in
    let there = c.requires.there in
    let long = reached.long in
    let test = c.loop-k-test.true in
    let mark = slice_get_read marks (length marks) k c.index.result.now refl (omega arith) c.index.ensures in
    let done = c.in_err-relation.ensures in
    still_well on old c.reached.ensures.shared no k c.index.result.now c.loop-k.plans c.next.new.plans c.loop-k.invariant.well (λ t. reached.sound k (mark ∙ ap Some t)) done.nodes done.keeps done.not

pub returns-in_err-add-clause-well : goal.returns-in_err-add-clause-well
returns-in_err-add-clause-well c =
    let on = c.args.ground.now in
    let old = c.args.plans.now in
    let no = c.args.no.0 in
    let marks = c.in_ok-needed.needed.items in
    let reached = c.in_ok-needed.ensures.reached in
    let k = c.loop-k.k in
    let there = c.requires.there in
    let long = reached.long in
    let test = c.loop-k-test.true in
    let mark = slice_get_read marks (length marks) k c.index.result.now refl (omega arith) c.index.ensures in
    let done = c.in_ok-relation.ensures in
    still_well on old c.reached.ensures.shared no k c.index.result.now c.loop-k.plans c.next.new.plans c.loop-k.invariant.well (λ t. reached.sound k (mark ∙ ap Some t)) done.nodes done.keeps done.not

pub loop-k-preserved : goal.loop-k-preserved
loop-k-preserved c =
    let on = c.args.ground.now in
    let old = c.args.plans.now in
    let no = c.args.no.0 in
    let marks = c.in_ok-needed.needed.items in
    let reached = c.in_ok-needed.ensures.reached in
    let k = c.loop-k.k in
    let there = c.requires.there in
    let long = reached.long in
    let test = c.loop-k-test.true in
    let mark = slice_get_read marks (length marks) k c.index.result.now refl (omega arith) c.index.ensures in
    let done = c.in_ok-relation.ensures in
    let r = option_map (λ x. x.value) c.in_ok-relation.relation in
    rw c.in_ok-add.ensures
    (one_filled on old c.reached.ensures.shared no k c.index.result.now c.loop-k.plans c.next.new.plans c.loop-k.made r c.loop-k.invariant (λ t. reached.sound k (mark ∙ ap Some t))
    (λ w. is_marked (slice_get marks k) c.index.result.now mark (reached.whole k w)) done.nodes done.keeps done.not done.rows done.room)
