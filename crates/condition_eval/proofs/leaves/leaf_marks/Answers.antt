use Rattle.std.proofs.Common.{refl}
use Rattle.itpg_base.proofs.Lists.{among_at}
use Rattle.path_ast.specs.Terms.{leaf_term}
use Rattle.condition_eval.specs.Tested.{HoldsAt}
use Rattle.condition_eval.proofs.Marked.{no_objects, next_object, all_objects, near_of, marks_order}
use Rattle.condition_eval.proofs.Points.{near_point}
use Rattle.condition_eval.proofs.leaves.leaf_marks.Goals as goal

pub loop-object-init : goal.loop-object-init
loop-object-init c = no_objects (HoldsAt (leaf_term c.args.leaf.now) c.args.graph.now) c.args.objects.now c.in_ok-rows.rows.items c.in_ok-rows.ensures.items

pub push_leaf-requires-clause-stands : goal.push_leaf-requires-clause-stands
push_leaf-requires-clause-stands c = c.requires.stand _ (_, among_at c.args.objects.now c.loop-object.object-index (record { 0 = 0 }) c.loop-object-test.true, refl)

pub loop-object-preserved : goal.loop-object-preserved
loop-object-preserved c =
    next_object (HoldsAt (leaf_term c.args.leaf.now) c.args.graph.now) c.args.objects.now c.requires.rise c.loop-object.object-index (record { 0 = 0 }) c.loop-object-test.true c.loop-object.rows.items _
    c.in_ok-push_leaf.ensures c.loop-object.invariant

pub of-requires-clause-order : goal.of-requires-clause-order
of-requires-clause-order c = marks_order c.args.objects.now (HoldsAt (leaf_term c.args.leaf.now) c.args.graph.now) c.loop-object.rows.items
    (all_objects (HoldsAt (leaf_term c.args.leaf.now) c.args.graph.now) c.args.objects.now c.loop-object.object-index c.loop-object.rows.items c.loop-object-test.false c.loop-object.invariant)

pub of-requires-clause-near : goal.of-requires-clause-near
of-requires-clause-near c = near_of c.args.objects.now (HoldsAt (leaf_term c.args.leaf.now) c.args.graph.now) c.loop-object.rows.items (λ x h. near_point c.args.graph.now c.horizon.ensures.good x h.0)
    (all_objects (HoldsAt (leaf_term c.args.leaf.now) c.args.graph.now) c.args.objects.now c.loop-object.object-index c.loop-object.rows.items c.loop-object-test.false c.loop-object.invariant)

pub returns : goal.returns
returns c = rw c.of.ensures (all_objects (HoldsAt (leaf_term c.args.leaf.now) c.args.graph.now) c.args.objects.now c.loop-object.object-index c.loop-object.rows.items c.loop-object-test.false c.loop-object.invariant)
