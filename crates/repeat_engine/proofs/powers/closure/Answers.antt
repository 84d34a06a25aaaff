use Rattle.std.proofs.lemmas.Result.{err_from_is_err_and}
use Rattle.repeat_engine.specs.Powers.{union_of_powers}
use Rattle.repeat_engine.proofs.UnionLaws.{all_held, least_held}
use Rattle.repeat_engine.proofs.Doubles.{doubles_of, chain_of_doubles}
use Rattle.repeat_engine.proofs.powers.closure.Goals as goal

pub returns-in_err-grown-clause-exact : goal.returns-in_err-grown-clause-exact
returns-in_err-grown-clause-exact g c =
    let m = g.C.Composed in
    let x = m.means c.args.x.now in
    let p = err_from_is_err_and c.from_residual.result c.from_residual.ensures.1 in
    rw (p.1, p.2)
    (λ other fit. c.in_err-grown.ensures.exact other (fit.0, chain_of_doubles (λ k. m.fits c.args.c.now (union_of_powers (m.algebra c.args.c.now) x k)) 60 fit.1))

pub returns-clause-includes_powers : goal.returns-clause-includes_powers
returns-clause-includes_powers g c =
    let m = g.C.Composed in
    let laws = g.met.C.Composed.lawful c.args.c.now in
    let x = m.means c.args.x.now in
    all_held laws x (m.means c.in_ok-grown.grown.all) c.requires.own_x c.in_ok-grown.ensures.grows.is

pub returns-clause-least : goal.returns-clause-least
returns-clause-least g c =
    let m = g.C.Composed in
    let laws = g.met.C.Composed.lawful c.args.c.now in
    let x = m.means c.args.x.now in
    least_held laws x (m.means c.in_ok-grown.grown.all) c.requires.own_x c.in_ok-grown.ensures.grows.is

pub returns-clause-exact : goal.returns-clause-exact
returns-clause-exact g c =
    let m = g.C.Composed in
    let x = m.means c.args.x.now in
    let fit = c.in_ok-grown.ensures.exact in
    (fit.0, doubles_of (λ k. m.fits c.args.c.now (union_of_powers (m.algebra c.args.c.now) x k)) 60 fit.1)
