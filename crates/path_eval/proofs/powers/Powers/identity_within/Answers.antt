use Rattle.std.proofs.Common.{List, sym, subst}
use Rattle.itpg_base.specs.declared.object_number.ObjNo.{ObjNo}
use Rattle.condition_eval.specs.Within.{AreWithin}
use Rattle.path_eval.proofs.Composing.{identity_gives}
use Rattle.path_eval.proofs.powers.Powers.identity_within.Goals as goal

pub returns : goal.returns
returns c =
    let on = c.args.self.now.ground.now in
    identity_gives on.graph.now c.in_ok-objects.ensures.good c.args.scope.now c.deref.result.now
    (subst (λ (v : List ObjNo). AreWithin c.args.scope.now on.graph.now v) (sym c.deref.ensures.value) c.in_ok-objects.ensures.within)
    on.horizon on.begun on.max_rows c.identity.result c.identity.ensures
