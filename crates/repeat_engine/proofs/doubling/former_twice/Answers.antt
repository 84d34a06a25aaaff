use Rattle.repeat_engine.proofs.Steps.{kept, former_is_whole, former_is_more}
use Rattle.repeat_engine.proofs.doubling.former_twice.Goals as goal

pub returns-in-Ok-clause-former : goal.returns-in-Ok-clause-former
returns-in-Ok-clause-former g c x own k on =
    let m = g.C.Composed in
    let laws = g.met.C.Composed.lawful c.args.c.now in
    kept _ _ (λ w h. former_is_more laws m.means x own k c.args.half.now on c.args.newest.now c.in-Some.former (m.means c.in-Ok.made) (m.means w) c.requires.newest c.in-Some.is c.requires.sound c.in-Ok.ensures.value h)
    c.union.result c.ok.result c.ok.ensures.value c.union.ensures.value

pub returns-in-None-clause-former : goal.returns-in-None-clause-former
returns-in-None-clause-former g c x own k on =
    let m = g.C.Composed in
    let laws = g.met.C.Composed.lawful c.args.c.now in
    kept _ _ (λ w h. former_is_whole laws m.means x own k c.args.half.now on (m.means w) h) c.union-in-None.result c.ok-in-None.result c.ok-in-None.ensures.value c.union-in-None.ensures.value
