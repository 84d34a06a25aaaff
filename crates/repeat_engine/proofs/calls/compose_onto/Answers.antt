use Rattle.repeat_engine.proofs.Results.{own_found, fits_found}
use Rattle.repeat_engine.proofs.calls.compose_onto.Goals as goal

pub returns-clause-own : goal.returns-clause-own
returns-clause-own g c =
    let m = g.C.Composed in
    let laws = g.met.C.Composed.lawful c.args.c.now in
    let a = m.algebra c.args.c.now in
    own_found laws m.means c.compose_onto.result (a.unite (m.means c.args.base.now) (a.compose (m.means c.args.x.now) (m.means c.args.y.now)))
    (laws.own_united _ _ c.requires.own_base (laws.own_composed _ _ c.requires.own_x c.requires.own_y)) c.compose_onto.ensures.value

pub returns-clause-fits : goal.returns-clause-fits
returns-clause-fits g c =
    let m = g.C.Composed in
    let laws = g.met.C.Composed.lawful c.args.c.now in
    let a = m.algebra c.args.c.now in
    fits_found laws m.means m.wants_memory c.compose_onto.result (a.unite (m.means c.args.base.now) (a.compose (m.means c.args.x.now) (m.means c.args.y.now)))
    c.compose_onto.ensures.value c.compose_onto.ensures.exact
