use Rattle.std.proofs.Common.{◌+◌}
use Rattle.std.proofs.lemmas.Result.{err_from_is_err_and}
use Rattle.repeat_engine.proofs.Steps.{on_below, double_makes, is_united, united_fits, united_must_fit}
use Rattle.repeat_engine.proofs.Growth.{made_new}
use Rattle.repeat_engine.proofs.doubling.squared.Goals as goal

pub returns-in_err-all-in-Ok-clause-exact : goal.returns-in_err-all-in-Ok-clause-exact
returns-in_err-all-in-Ok-clause-exact g c x own k on =
    let m = g.C.Composed in
    let laws = g.met.C.Composed.lawful c.args.c.now in
    let makes = double_makes laws m.means x own k c.args.half.now on c.newest_of-2.result.now (m.means c.in-Ok.made) c.newest_of-2.ensures c.requires.sound c.in-Ok.ensures.value in
    let p = err_from_is_err_and c.from_residual.result c.from_residual.ensures.1 in
    rw (p.1, p.2)
    (λ other fit. c.in_err-all-in-Ok.ensures.exact other (united_must_fit laws m.means x own k c.args.half.now on (k + k) (m.means c.in-Ok.made) makes fit))

pub returns-in-Ok-clause-grows : goal.returns-in-Ok-clause-grows
returns-in-Ok-clause-grows g c x own k on =
    let m = g.C.Composed in
    let laws = g.met.C.Composed.lawful c.args.c.now in
    let below = (on_below laws m.means x own k c.args.half.now on).1 in
    let makes = double_makes laws m.means x own k c.args.half.now on c.newest_of-2.result.now (m.means c.in-Ok.made) c.newest_of-2.ensures c.requires.sound c.in-Ok.ensures.value in
    c.grown_to.ensures.grows x own k on (k + k) below
    (is_united laws m.means x own k c.args.half.now on (k + k) (m.means c.in-Ok.made) makes (m.means c.in_ok-all-in-Ok.all) c.in_ok-all-in-Ok.ensures.value)
    (c.newest_squared-newest.ensures.new x own k on (made_new laws x own k (k + k) (m.means c.in-Ok.made) below makes))

pub returns-in-Ok-clause-exact : goal.returns-in-Ok-clause-exact
returns-in-Ok-clause-exact g c x own k on =
    let m = g.C.Composed in
    let laws = g.met.C.Composed.lawful c.args.c.now in
    let makes = double_makes laws m.means x own k c.args.half.now on c.newest_of-2.result.now (m.means c.in-Ok.made) c.newest_of-2.ensures c.requires.sound c.in-Ok.ensures.value in
    united_fits laws m.means x own k c.args.half.now on (k + k) (m.means c.in-Ok.made) makes c.in_ok-all-in-Ok.ensures.exact
