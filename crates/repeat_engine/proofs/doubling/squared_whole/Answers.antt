use Rattle.std.proofs.Common.{◌+◌}
use Rattle.std.proofs.lemmas.Result.{err_from_is_err_and}
use Rattle.repeat_engine.proofs.Steps.{on_below, is_whole_double, whole_double_fits, whole_double_must_fit}
use Rattle.repeat_engine.proofs.doubling.squared_whole.Goals as goal

pub returns-in_err-all-clause-exact : goal.returns-in_err-all-clause-exact
returns-in_err-all-clause-exact g c x own k on =
    let m = g.C.Composed in
    let laws = g.met.C.Composed.lawful c.args.c.now in
    let p = err_from_is_err_and c.from_residual.result c.from_residual.ensures.1 in
    rw (p.1, p.2)
    (λ other fit. c.in_err-all.ensures.exact other (whole_double_must_fit laws m.means x own k c.args.half.now on fit))

pub returns-clause-grows : goal.returns-clause-grows
returns-clause-grows g c x own k on =
    let m = g.C.Composed in
    let laws = g.met.C.Composed.lawful c.args.c.now in
    let below = (on_below laws m.means x own k c.args.half.now on).1 in
    c.grown_to.ensures.grows x own k on (k + k) below
    (is_whole_double laws m.means x own k c.args.half.now on (m.means c.in_ok-all.all) c.in_ok-all.ensures.value)
    (c.short_squared-newest.ensures.new x own k on)

pub returns-clause-exact : goal.returns-clause-exact
returns-clause-exact g c x own k on =
    let m = g.C.Composed in
    let laws = g.met.C.Composed.lawful c.args.c.now in
    whole_double_fits laws m.means x own k c.args.half.now on c.in_ok-all.ensures.exact
