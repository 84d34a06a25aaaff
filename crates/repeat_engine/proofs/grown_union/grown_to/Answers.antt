use Rattle.std.proofs.Common.{Option, IfSome, subst}
use Rattle.repeat_engine.specs.GrownUnions.{IsFresh}
use Rattle.repeat_engine.proofs.Steps.{nothing_more}
use Rattle.repeat_engine.proofs.grown_union.grown_to.Goals as goal

pub returns-in-Some-clause-grows : goal.returns-in-Some-clause-grows
returns-in-Some-clause-grows g c x own k on n below is new =
    let m = g.C.Composed in
    let laws = g.met.C.Composed.lawful c.args.c.now in
    let fresh = subst (λ (o : Option _). IfSome o (IsFresh (m.alike c.args.c.now) (m.algebra c.args.c.now) x m.means n)) c.in-Some.is new in
    record {
      is = is;
      newest = λ e. fresh.newest;
      former = λ e. fresh.former;
      stays = λ t. nothing_more laws m.means x own k c.args.half.now on n below (m.means c.args.all) is (c.same-done.ensures.0 t);
    }

pub returns-in-None-clause-grows : goal.returns-in-None-clause-grows
returns-in-None-clause-grows g c x own k on n below is new =
    let m = g.C.Composed in
    let laws = g.met.C.Composed.lawful c.args.c.now in
    record {
      is = is;
      newest = λ e. tt;
      former = λ e. tt;
      stays = λ t. nothing_more laws m.means x own k c.args.half.now on n below (m.means c.args.all) is (c.same-done.ensures.0 t);
    }
