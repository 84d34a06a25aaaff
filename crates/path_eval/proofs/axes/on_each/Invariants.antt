use Rattle.std.proofs.Common.{take, []}
use Rattle.itpg_base.specs.declared.object_number.ObjNo.{ObjNo}
use Rattle.relation_rows.specs.Relations.{InItem}
use Rattle.path_eval.proofs.Adding.{Added}
use Rattle.path_eval.proofs.axes.on_each.Given as goal

abbrev pub invariant-loop-object : goal.invariant-loop-object
invariant-loop-object l = Added (λ (o : ObjNo). InItem (o, o, l.fn.zone)) [] (take l.object-index l.objects) l.items.items
