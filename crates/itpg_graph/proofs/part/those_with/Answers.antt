use Rattle.std.proofs.Common.{◌+◌, take, sym, ◌∙◌, subst, true≢false}
use Rattle.std.specs.Global.{Global}
use Rattle.std.specs.declared.vec.Vec.{Vec}
use Rattle.itpg_base.specs.declared.object_number.ObjNo.{ObjNo}
use Rattle.itpg_graph.proofs.PartLabels.{AreThose, stands_there, none_yet, one_kept, one_left, all_those}
use Rattle.itpg_graph.proofs.part.those_with.Goals.{then-has_label+in_ok-push, else-has_label}
use Rattle.itpg_graph.proofs.part.those_with.Goals as goal

pub loop-object-init : goal.loop-object-init
loop-object-init c = none_yet c.args.graph.now c.args.label.now c.args.objects.now c.requires c.new-kept.result.items c.new-kept.ensures.items

pub has_label-requires : goal.has_label-requires
has_label-requires c = stands_there c.args.graph.now c.args.objects.now c.requires c.loop-object.object-index _ c.loop-object-test.true

pub loop-object-preserved : goal.loop-object-preserved
loop-object-preserved c =
    let g = c.args.graph.now in
    let label = c.args.label.now in
    let xs = c.args.objects.now in
    let i = c.loop-object.object-index in
    elim c.if-has_label.branch [
      | then-has_label+in_ok-push w ↦
          subst (λ (v : Vec ObjNo Global). AreThose g label (take (i + 1) xs) v.items) (sym w.kept-is)
          (one_kept g label xs c.requires i _ c.loop-object-test.true c.loop-object.kept.items c.loop-object.invariant (c.has_label.ensures.0 w.if-has_label.true) w.push.new.self.items w.in_ok-push.ensures.items)
      | else-has_label w ↦
          subst (λ (v : Vec ObjNo Global). AreThose g label (take (i + 1) xs) v.items) (sym w.kept-is)
          (one_left g label xs c.requires i _ c.loop-object-test.true c.loop-object.kept.items c.loop-object.invariant (λ h. true≢false (sym (c.has_label.ensures.1 h) ∙ w.if-has_label.false)))
    ]

pub returns : goal.returns
returns c = all_those c.args.graph.now c.args.label.now c.args.objects.now c.requires c.loop-object.object-index c.loop-object.kept.items c.loop-object-test.false c.loop-object.invariant
