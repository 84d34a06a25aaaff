use Rattle.std.proofs.Common.{List, sym, subst}
use Rattle.itpg_base.specs.declared.object_number.ObjNo.{ObjNo}
use Rattle.condition_eval.specs.Within.{AreWithin}
use Rattle.path_eval.proofs.Composing.{cut_normal}
use Rattle.relation_rows.proofs.Restricting.{cut_few}
use Rattle.path_eval.proofs.powers.cut.Goals as goal

pub returns-clause-rows : goal.returns-clause-rows
returns-clause-rows c =
    let a = c.args in
    cut_normal a.ground.now.graph.now a.whole.now a.a.now a.b.now c.deref.result.now c.deref-2.result.now
    (subst (λ (v : List ObjNo). AreWithin a.a.now a.ground.now.graph.now v) (sym c.deref.ensures.value) c.in_ok-sources.ensures.within)
    (subst (λ (v : List ObjNo). AreWithin a.b.now a.ground.now.graph.now v) (sym c.deref-2.ensures.value) c.in_ok-targets.ensures.within)
    c.restrict.result c.restrict.ensures

pub returns-clause-few : goal.returns-clause-few
returns-clause-few c = cut_few c.args.whole.now c.deref.result.now c.deref-2.result.now c.restrict.result c.restrict.ensures
