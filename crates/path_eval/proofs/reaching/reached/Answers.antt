use Rattle.std.proofs.Common.{◌≡◌, ◌+◌, ◌-◌, ℕ, true, false, true≢false, Some, length, refl, sym, ap, subst, ◌∙◌, arith}
use Rattle.std.proofs.lemmas.Option.{slice_get_read}
use Rattle.plan_cache.specs.Operations.{op_term}
use Rattle.path_eval.specs.Reached.{IsMarking}
use Rattle.path_eval.proofs.Marking.{marks_on, marks_past, all_reached}
use Rattle.path_eval.proofs.reaching.reached.Goals.{else-index-via-then-index+else-is_free, else-index-via-else-index}
use Rattle.path_eval.proofs.reaching.reached.Goals as goal

pub loop-rest-preserved-then-is_free : goal.loop-rest-preserved-then-is_free
loop-rest-preserved-then-is_free c =
    let table = c.args.plans.now in
    let items = c.loop-rest.marks.items in
    let most = c.loop-rest.invariant.0 in
    let some = c.loop-rest-test.true in
    let long = c.loop-rest.invariant.1.long in
    let same : c.loop-rest.rest ≡ c.loop-rest.rest - 1 + 1 = omega arith in
    let marking = subst (λ (v : ℕ). IsMarking table.nodes table.kept c.args.no.0 v items) same c.loop-rest.invariant.1 in
    let at = slice_get_read items (length items) (c.loop-rest.rest - 1) c.index.result.now refl (omega arith) c.index.ensures in
    let here = at ∙ ap Some c.if-index.true in
    let free = c.is_free.ensures.0 c.if-is_free.true in
    (omega arith, rw c.mark_op.ensures (marks_on table.nodes c.len-lower.ensures.shared table.kept c.args.no.0 (c.loop-rest.rest - 1) items (op_term c.op.result.now) marking here free c.op.ensures (omega arith)))

pub loop-rest-preserved : goal.loop-rest-preserved
loop-rest-preserved c =
    let table = c.args.plans.now in
    let items = c.loop-rest.marks.items in
    let most = c.loop-rest.invariant.0 in
    let some = c.loop-rest-test.true in
    let long = c.loop-rest.invariant.1.long in
    let same : c.loop-rest.rest ≡ c.loop-rest.rest - 1 + 1 = omega arith in
    let marking = subst (λ (v : ℕ). IsMarking table.nodes table.kept c.args.no.0 v items) same c.loop-rest.invariant.1 in
    let at = slice_get_read items (length items) (c.loop-rest.rest - 1) c.index.result.now refl (omega arith) c.index.ensures in (
      omega arith,
      marks_past table.nodes table.kept c.args.no.0 (c.loop-rest.rest - 1) items marking (λ here free. elim c.else-index.branch [
        | else-index-via-then-index+else-is_free w ↦ true≢false (sym (w.is_free.ensures.1 free) ∙ w.if-is_free.false)
        | else-index-via-else-index w ↦ (let e : true ≡ false = (let f = w.if-index.false in cc) in true≢false e)
      ]),
    )

pub returns-clause-reached : goal.returns-clause-reached
returns-clause-reached c =
    let table = c.args.plans.now in
    let done = c.loop-rest-test.false in
    let zero : c.loop-rest.rest ≡ 0 = omega arith in
    all_reached table.nodes table.kept c.args.no.0 c.loop-rest.marks.items (subst (λ (v : ℕ). IsMarking table.nodes table.kept c.args.no.0 v c.loop-rest.marks.items) zero c.loop-rest.invariant.1)
