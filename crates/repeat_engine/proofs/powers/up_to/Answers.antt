use Rattle.repeat_engine.proofs.Results.{own_from, fits_from}
use Rattle.repeat_engine.proofs.Uniting.{none_is, none_fits}
use Rattle.repeat_engine.proofs.powers.up_to.Goals as goal

pub returns-then-n-eq0-clause-value : goal.returns-then-n-eq0-clause-value
returns-then-n-eq0-clause-value g c =
    let m = g.C.Composed in
    let laws = g.met.C.Composed.lawful c.args.c.now in
    let x = m.means c.args.x.now in
    let one = m.means c.in_ok-one.one in
    none_is laws x c.requires.own_x one c.args.n c.if-n-eq0.true c.in_ok-one.ensures.value

pub returns-then-n-eq0-clause-own : goal.returns-then-n-eq0-clause-own
returns-then-n-eq0-clause-own g c =
    let m = g.C.Composed in
    let laws = g.met.C.Composed.lawful c.args.c.now in
    let one = m.means c.in_ok-one.one in
    own_from laws one (m.algebra c.args.c.now).one c.in_ok-one.ensures.value laws.own_one

pub returns-then-n-eq0-clause-fits : goal.returns-then-n-eq0-clause-fits
returns-then-n-eq0-clause-fits g c =
    let m = g.C.Composed in
    let laws = g.met.C.Composed.lawful c.args.c.now in
    let one = m.means c.in_ok-one.one in
    fits_from laws one (m.algebra c.args.c.now).one c.in_ok-one.ensures.value c.in_ok-one.ensures.exact

pub returns-then-n-eq0-clause-exact : goal.returns-then-n-eq0-clause-exact
returns-then-n-eq0-clause-exact g c =
    let m = g.C.Composed in
    let laws = g.met.C.Composed.lawful c.args.c.now in
    let x = m.means c.args.x.now in
    (c.in_ok-one.ensures.exact, none_fits laws x c.requires.own_x c.args.n c.if-n-eq0.true)
