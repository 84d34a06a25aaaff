use Rattle.std.proofs.Common.{◌+◌, ◌-◌, ◌<◌, length, sym, ◌∙◌, subst, ap, refl, arith, true≢false}
use Rattle.std.specs.Global.{Global}
use Rattle.std.specs.declared.vec.Vec.{Vec}
use Rattle.itpg_base.specs.declared.object_number.ObjNo.{ObjNo}
use Rattle.condition_eval.proofs.Finding.{FoundBelow, none_found, next_found, next_not_within, all_found, is_declared}
use Rattle.condition_eval.proofs.objects.each_within.Goals.{then-is_within+in_ok-push, else-is_within}
use Rattle.condition_eval.proofs.objects.each_within.Goals as goal

pub loop-object-init : goal.loop-object-init
loop-object-init c = none_found c.args.scope.now c.args.graph.now c.new-objects.result.items c.new-objects.ensures.items

pub loop-object-smaller : goal.loop-object-smaller
loop-object-smaller c =
    let next = c.in-Some.ensures.next in
    let least = next.behind in
    let lt = is_declared c.args.scope.now c.args.graph.now c.in-Some.object.0 next.stands in
    let less : length c.args.graph.now.objects - (c.in-Some.object.0 + 1) < length c.args.graph.now.objects - c.loop-object.from = omega arith in
    less

pub loop-object-preserved : goal.loop-object-preserved
loop-object-preserved c =
    elim c.if-is_within.branch [
      | then-is_within+in_ok-push w ↦
          next_found c.args.scope.now c.args.graph.now c.loop-object.from c.loop-object.objects.items c.loop-object.invariant c.in-Some.object c.in-Some.ensures.next c.if-is_within.objects.items
          (ap (λ (v : Vec ObjNo Global). v.items) w.objects-is ∙ w.in_ok-push.ensures.items) (c.is_within.ensures.0 w.if-is_within.true)
      | else-is_within w ↦
          subst (λ (v : Vec ObjNo Global). FoundBelow c.args.scope.now c.args.graph.now (c.in-Some.object.0 + 1) v.items) (sym w.objects-is)
          (next_not_within c.args.scope.now c.args.graph.now c.loop-object.from c.loop-object.objects.items c.loop-object.invariant c.in-Some.object c.in-Some.ensures.next
          (λ h. true≢false (sym (c.is_within.ensures.1 h) ∙ w.if-is_within.false)))
    ]

pub returns-clause-within : goal.returns-clause-within
returns-clause-within c = all_found c.args.scope.now c.args.graph.now c.loop-object.from c.loop-object.objects.items (c.in_default.ensures.none refl) c.loop-object.invariant
