use Rattle.std.proofs.Common.{get_or, ⊎_elim, subst, true≢false, sym, ◌∙◌}
use Rattle.itpg_base.specs.Graphs.{Exists}
use Rattle.itpg_base.specs.declared.object_number.ObjNo.{ObjNo}
use Rattle.itpg_graph.proofs.Rising.{number_there}
use Rattle.itpg_edit.proofs.Checked.{taken_number}
use Rattle.itpg_edit.proofs.Moments.{covered, existing}
use Rattle.itpg_edit.proofs.facts.some_exists.Goals as goal

pub live-requires : goal.live-requires
live-requires c = c.requires _ (number_there c.args.objects.now c.loop-object.object-index _ c.loop-object-test.true)

pub returns-then-touches-clause-some : goal.returns-then-touches-clause-some
returns-then-touches-clause-some c = λ _.
    let default : ObjNo = record { 0 = 0 } in
    let object = get_or c.args.objects.now c.loop-object.object-index default in
    let m = c.touches.ensures.0 c.if-touches.true in
    (object.0, number_there c.args.objects.now c.loop-object.object-index default c.loop-object-test.true, (m.0, m.1, existing c.args.graph.now object.0 c.live.result.now c.live.ensures.family m.0 m.2))

pub loop-object-preserved : goal.loop-object-preserved
loop-object-preserved c = λ e t has within exists.
    let default : ObjNo = record { 0 = 0 } in
    let object = get_or c.args.objects.now c.loop-object.object-index default in
    ⊎_elim
    (λ old. c.loop-object.invariant e t old within exists)
    (λ own. absurd (true≢false (sym (c.touches.ensures.1 (t, within, covered c.args.graph.now object.0 c.live.result.now c.live.ensures.family t (subst (λ k. Exists c.args.graph.now k t) (sym own) exists))) ∙ c.if-touches.false)))
    (taken_number c.args.objects.now c.loop-object.object-index default e c.loop-object-test.true has)
