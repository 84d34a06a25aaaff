use Rattle.std.proofs.Common.{◌+◌, take, sym, ◌∙◌, subst, true≢false}
use Rattle.std.specs.Global.{Global}
use Rattle.std.specs.declared.vec.Vec.{Vec}
use Rattle.itpg_base.specs.declared.object_number.ObjNo.{ObjNo}
use Rattle.path_eval.specs.WithinBoth.{AreThoseWithin}
use Rattle.path_eval.proofs.WithinBoth.{none_kept, one_kept, one_left, all_kept, stands_at}
use Rattle.path_eval.proofs.within_both.those_within.Goals.{then-is_within+in_ok-push, else-is_within}
use Rattle.path_eval.proofs.within_both.those_within.Goals as goal

pub loop-object-init : goal.loop-object-init
loop-object-init c = none_kept c.args.scope.now c.args.ground.now.graph.now c.args.objects.now c.requires.rise c.new-kept.result.items c.new-kept.ensures.items

pub is_within-requires : goal.is_within-requires
is_within-requires c = stands_at c.args.ground.now.graph.now c.args.objects.now c.requires.stand c.loop-object.object-index _ c.loop-object-test.true

pub loop-object-preserved : goal.loop-object-preserved
loop-object-preserved c =
    elim c.if-is_within.branch [
      | then-is_within+in_ok-push w ↦
          (let pushed = w.in_ok-push.ensures.items in
          subst (λ (v : Vec ObjNo Global). AreThoseWithin c.args.scope.now c.args.ground.now.graph.now (take (c.loop-object.object-index + 1) c.args.objects.now) v.items) (sym w.kept-is)
          (one_kept c.args.scope.now c.args.ground.now.graph.now c.args.objects.now c.requires.rise c.loop-object.object-index _ c.loop-object-test.true c.loop-object.kept.items c.loop-object.invariant (c.is_within.ensures.0 w.if-is_within.true) w.push.new.self.items pushed))
      | else-is_within w ↦
          subst (λ (v : Vec ObjNo Global). AreThoseWithin c.args.scope.now c.args.ground.now.graph.now (take (c.loop-object.object-index + 1) c.args.objects.now) v.items) (sym w.kept-is)
          (one_left c.args.scope.now c.args.ground.now.graph.now c.args.objects.now c.requires.rise c.loop-object.object-index _ c.loop-object-test.true c.loop-object.kept.items c.loop-object.invariant (λ h. true≢false (sym (c.is_within.ensures.1 h) ∙ w.if-is_within.false)))
    ]

pub returns : goal.returns
returns c = all_kept c.args.scope.now c.args.ground.now.graph.now c.args.objects.now c.requires.rise c.loop-object.object-index c.loop-object.kept.items c.loop-object-test.false c.loop-object.invariant
