use Rattle.repeat_engine.proofs.Results.{value_as, own_result, fits_result}
use Rattle.repeat_engine.proofs.Squaring.{none_is}
use Rattle.repeat_engine.proofs.powers.power.Goals as goal

pub returns-then-n-eq0-clause-value : goal.returns-then-n-eq0-clause-value
returns-then-n-eq0-clause-value g c =
    let m = g.C.Composed in
    let laws = g.met.C.Composed.lawful c.args.c.now in
    value_as laws m.means c.one.result _ _ (none_is laws (m.means c.args.x.now) c.requires.own_x c.args.n c.if-n-eq0.true) c.one.ensures.value

pub returns-then-n-eq0-clause-own : goal.returns-then-n-eq0-clause-own
returns-then-n-eq0-clause-own g c =
    let laws = g.met.C.Composed.lawful c.args.c.now in
    own_result laws g.C.Composed.means c.one.result _ laws.own_one c.one.ensures.value

pub returns-then-n-eq0-clause-fits : goal.returns-then-n-eq0-clause-fits
returns-then-n-eq0-clause-fits g c =
    let m = g.C.Composed in
    let laws = g.met.C.Composed.lawful c.args.c.now in
    fits_result laws m.means m.wants_memory c.one.result _ c.one.ensures.value c.one.ensures.exact
