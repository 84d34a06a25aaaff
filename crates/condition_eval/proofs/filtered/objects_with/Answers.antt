use Rattle.std.proofs.Common.{refl, sym, subst, take, ◌+◌, Vec, Global}
use Rattle.itpg_base.specs.declared.object_number.ObjNo.{ObjNo}
use Rattle.itpg_base.proofs.Lists.{among_at}
use Rattle.path_ast.specs.Terms.{leaf_term}
use Rattle.condition_eval.specs.Filtered.{AreThoseWith}
use Rattle.condition_eval.proofs.Keeping.{none_kept, one_left, one_kept, all_kept}
use Rattle.condition_eval.proofs.filtered.objects_with.Goals.{then-holds+in_ok-push, else-holds}
use Rattle.condition_eval.proofs.filtered.objects_with.Goals as goal

pub loop-object-init : goal.loop-object-init
loop-object-init c = none_kept (leaf_term c.args.leaf.now) c.args.graph.now c.args.objects.now c.requires.rise _ c.new-kept.ensures.items

pub holds_of-requires : goal.holds_of-requires
holds_of-requires c = c.requires.stand _ (_, among_at c.args.objects.now c.loop-object.object-index (record { 0 = 0 }) c.loop-object-test.true, refl)

pub loop-object-preserved : goal.loop-object-preserved
loop-object-preserved c =
    elim c.if-holds.branch [
      | then-holds+in_ok-push w ↦
          (let pushed = w.in_ok-push.ensures.items in
          subst (λ (v : Vec ObjNo Global). AreThoseWith (leaf_term c.args.leaf.now) c.args.graph.now (take (c.loop-object.object-index + 1) c.args.objects.now) v.items) (sym w.kept-is)
          (one_kept (leaf_term c.args.leaf.now) c.args.graph.now c.args.objects.now c.requires.rise c.loop-object.object-index (record { 0 = 0 }) c.loop-object-test.true c.loop-object.kept.items c.loop-object.invariant
          c.in-Some.holds c.in-Some.ensures w.if-holds.true _ pushed))
      | else-holds w ↦
          subst (λ (v : Vec ObjNo Global). AreThoseWith (leaf_term c.args.leaf.now) c.args.graph.now (take (c.loop-object.object-index + 1) c.args.objects.now) v.items) (sym w.kept-is)
          (one_left (leaf_term c.args.leaf.now) c.args.graph.now c.args.objects.now c.requires.rise c.loop-object.object-index (record { 0 = 0 }) c.loop-object-test.true c.loop-object.kept.items c.loop-object.invariant
          c.in-Some.holds c.in-Some.ensures w.if-holds.false)
    ]

pub returns : goal.returns
returns c = all_kept (leaf_term c.args.leaf.now) c.args.graph.now c.args.objects.now c.requires.rise c.loop-object.object-index c.loop-object.kept.items c.loop-object-test.false c.loop-object.invariant
