use Rattle.std.proofs.Common.{◌+◌}
use Rattle.std.proofs.lemmas.Result.{err_from_is_err_and}
use Rattle.repeat_engine.proofs.Steps.{on_below, at_fits, is_whole_step, whole_step_fits, whole_step_must_fit}
use Rattle.repeat_engine.proofs.single_steps.stepped.Goals as goal

pub returns-in-Some-clause-exact : goal.returns-in-Some-clause-exact
returns-in-Some-clause-exact g c k on =
    let m = g.C.Composed in
    let laws = g.met.C.Composed.lawful c.args.c.now in
    let x = m.means c.args.x.now in
    at_fits laws m.means x c.requires.own_x (k + 1) c.in-Some.next (c.in-Some.ensures.grows k on) c.in-Some.ensures.sound.fits_all

pub returns-in_err-all-clause-exact : goal.returns-in_err-all-clause-exact
returns-in_err-all-clause-exact g c k on =
    let m = g.C.Composed in
    let laws = g.met.C.Composed.lawful c.args.c.now in
    let x = m.means c.args.x.now in
    let p = err_from_is_err_and c.from_residual.result c.from_residual.ensures.1 in
    rw (p.1, p.2)
    (λ other fit. c.in_err-all.ensures.exact other (whole_step_must_fit laws m.means x c.requires.own_x k c.args.half.now on (m.means c.args.first.now) c.requires.first fit))

pub returns-clause-grows : goal.returns-clause-grows
returns-clause-grows g c k on =
    let m = g.C.Composed in
    let laws = g.met.C.Composed.lawful c.args.c.now in
    let x = m.means c.args.x.now in
    let below = (on_below laws m.means x c.requires.own_x k c.args.half.now on).0 in
    c.grown_to.ensures.grows x c.requires.own_x k on (k + 1) below
    (is_whole_step laws m.means x c.requires.own_x k c.args.half.now on (m.means c.args.first.now) (m.means c.in_ok-all.all) c.requires.first c.in_ok-all.ensures.value) tt

pub returns-clause-exact : goal.returns-clause-exact
returns-clause-exact g c k on =
    let m = g.C.Composed in
    let laws = g.met.C.Composed.lawful c.args.c.now in
    let x = m.means c.args.x.now in
    whole_step_fits laws m.means x c.requires.own_x k c.args.half.now on (m.means c.args.first.now) c.requires.first c.in_ok-all.ensures.exact
