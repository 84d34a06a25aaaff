use Rattle.std.proofs.lemmas.Result.{err_from_is_err_and}
use Rattle.repeat_engine.proofs.Results.{own_from, fits_from}
use Rattle.repeat_engine.proofs.Uniting.{first_is, first_must_fit}
use Rattle.repeat_engine.proofs.union_chain.united_from_one.Goals as goal

pub returns-in_err-first-clause-exact : goal.returns-in_err-first-clause-exact
returns-in_err-first-clause-exact g c =
    let m = g.C.Composed in
    let laws = g.met.C.Composed.lawful c.args.c.now in
    let x = m.means c.args.x.now in
    let one = m.means c.in_ok-one.one in
    let p = err_from_is_err_and c.from_residual-in_err-first.result c.from_residual-in_err-first.ensures.1 in
    rw (p.1, p.2)
    (λ other fit. c.in_err-first.ensures.exact other (first_must_fit laws x c.requires.own_x one c.in_ok-one.ensures.value c.args.n c.requires.some fit))

pub at_once-requires-clause-own_one : goal.at_once-requires-clause-own_one
at_once-requires-clause-own_one g c =
    let m = g.C.Composed in
    let laws = g.met.C.Composed.lawful c.args.c.now in
    let one = m.means c.in_ok-one.one in
    own_from laws one (m.algebra c.args.c.now).one c.in_ok-one.ensures.value laws.own_one

pub at_once-requires-clause-fits_one : goal.at_once-requires-clause-fits_one
at_once-requires-clause-fits_one g c =
    let m = g.C.Composed in
    let laws = g.met.C.Composed.lawful c.args.c.now in
    let one = m.means c.in_ok-one.one in
    fits_from laws one (m.algebra c.args.c.now).one c.in_ok-one.ensures.value c.in_ok-one.ensures.exact

pub union-requires-clause-own_x : goal.union-requires-clause-own_x
union-requires-clause-own_x g c =
    let m = g.C.Composed in
    let laws = g.met.C.Composed.lawful c.args.c.now in
    let one = m.means c.in_ok-one.one in
    own_from laws one (m.algebra c.args.c.now).one c.in_ok-one.ensures.value laws.own_one

pub union-requires-clause-fits_x : goal.union-requires-clause-fits_x
union-requires-clause-fits_x g c =
    let m = g.C.Composed in
    let laws = g.met.C.Composed.lawful c.args.c.now in
    let one = m.means c.in_ok-one.one in
    fits_from laws one (m.algebra c.args.c.now).one c.in_ok-one.ensures.value c.in_ok-one.ensures.exact

pub united-requires-clause-first : goal.united-requires-clause-first
united-requires-clause-first g c =
    let m = g.C.Composed in
    let laws = g.met.C.Composed.lawful c.args.c.now in
    let x = m.means c.args.x.now in
    let one = m.means c.in_ok-one.one in
    let first = m.means c.in_ok-first.first in
    laws.joined _ _ _ c.in_ok-first.ensures.value (first_is laws x c.requires.own_x one c.in_ok-one.ensures.value)

pub returns-in_err-foreseen-clause-exact : goal.returns-in_err-foreseen-clause-exact
returns-in_err-foreseen-clause-exact g c =
    let p = err_from_is_err_and c.from_residual-in_err-foreseen.result c.from_residual-in_err-foreseen.ensures.1 in
    rw (p.1, p.2) (λ other fit. c.in_err-foreseen.ensures other fit.1)
