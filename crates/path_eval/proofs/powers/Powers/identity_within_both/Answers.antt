use Rattle.std.proofs.Common.{List, sym, subst}
use Rattle.itpg_base.specs.declared.object_number.ObjNo.{ObjNo}
use Rattle.path_eval.specs.WithinBoth.{AreWithinBoth}
use Rattle.path_eval.proofs.WithinBoth.{identity_within_both}
use Rattle.path_eval.proofs.powers.Powers.identity_within_both.Goals as goal

pub returns : goal.returns
returns c =
    let on = c.args.self.now.ground.now in
    identity_within_both on.graph.now c.args.a.now c.args.b.now c.deref.result.now
    (subst (λ (v : List ObjNo). AreWithinBoth c.args.a.now c.args.b.now on.graph.now v) (sym c.deref.ensures.value) c.in_ok-objects.ensures.within)
    c.in_ok-objects.ensures.good on.horizon on.begun on.max_rows c.identity.result c.identity.ensures
