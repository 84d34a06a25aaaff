use Rattle.repeat_engine.proofs.Results.{own_result, fits_result}
use Rattle.repeat_engine.proofs.calls.compose.Goals as goal

pub returns-clause-own : goal.returns-clause-own
returns-clause-own g c =
    let m = g.C.Composed in
    let laws = g.met.C.Composed.lawful c.args.c.now in
    own_result laws m.means c.compose.result ((m.algebra c.args.c.now).compose (m.means c.args.x.now) (m.means c.args.y.now)) (laws.own_composed _ _ c.requires.own_x c.requires.own_y) c.compose.ensures.value

pub returns-clause-fits : goal.returns-clause-fits
returns-clause-fits g c =
    let m = g.C.Composed in
    let laws = g.met.C.Composed.lawful c.args.c.now in
    fits_result laws m.means m.wants_memory c.compose.result ((m.algebra c.args.c.now).compose (m.means c.args.x.now) (m.means c.args.y.now)) c.compose.ensures.value c.compose.ensures.exact
