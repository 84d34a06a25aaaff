use Rattle.std.proofs.Common.{◌≡◌, ◌+◌, ◌/◌, ◌≤◌, arith}
use Rattle.std.proofs.lemmas.Result.{err_from_is_err_and}
use Rattle.repeat_engine.proofs.Results.{exact_as}
use Rattle.repeat_engine.proofs.Steps.{one_fits, one_must_fit, half_must_fit, double_must_fit, even_fits, done_half_fits, done_double_fits, odd_fits, odd_must_fit, done_at, on_of, at_result}
use Rattle.repeat_engine.proofs.union_chain.+united.Goals as goal

pub returns-then-n-eq1-clause-exact : goal.returns-then-n-eq1-clause-exact
returns-then-n-eq1-clause-exact g t c =
    let m = g.C.Composed in
    let laws = g.met.C.Composed.lawful c.args.c.now in
    let x = m.means c.args.x.now in
    exact_as m.wants_memory c.grown_first.result (one_fits laws m.means x c.requires.own_x c.args.n c.if-n-eq1.true) (one_must_fit laws m.means x c.requires.own_x c.args.n c.if-n-eq1.true) c.grown_first.ensures.exact

pub returns-in_err-half-clause-exact : goal.returns-in_err-half-clause-exact
returns-in_err-half-clause-exact g t c =
    let m = g.C.Composed in
    let laws = g.met.C.Composed.lawful c.args.c.now in
    let x = m.means c.args.x.now in
    let two : 2 ≤ c.args.n = omega arith in
    let p = err_from_is_err_and c.from_residual.result c.from_residual.ensures.1 in
    rw (p.1, p.2)
    (λ other fit. c.in_err-half.ensures.exact other (half_must_fit laws m.means x c.requires.own_x c.args.n two fit))

pub returns-then-half-clause-grows : goal.returns-then-half-clause-grows
returns-then-half-clause-grows g t c =
    let m = g.C.Composed in
    let laws = g.met.C.Composed.lawful c.args.c.now in
    let x = m.means c.args.x.now in
    let le : c.args.n / 2 ≤ c.args.n = omega arith in
    done_at laws m.means x c.requires.own_x (c.args.n / 2) c.args.n c.in_ok-half.half le c.if-half.true c.in_ok-half.ensures.grows

pub returns-then-half-clause-exact : goal.returns-then-half-clause-exact
returns-then-half-clause-exact g t c =
    let m = g.C.Composed in
    let laws = g.met.C.Composed.lawful c.args.c.now in
    let x = m.means c.args.x.now in
    let two : 2 ≤ c.args.n = omega arith in
    done_half_fits laws m.means x c.requires.own_x c.args.n c.in_ok-half.half two c.in_ok-half.ensures.exact c.in_ok-half.ensures.grows c.if-half.true c.in_ok-half.ensures.sound.fits_all

pub returns-in_err-double-clause-exact : goal.returns-in_err-double-clause-exact
returns-in_err-double-clause-exact g t c =
    let m = g.C.Composed in
    let laws = g.met.C.Composed.lawful c.args.c.now in
    let x = m.means c.args.x.now in
    let two : 2 ≤ c.args.n = omega arith in
    let p = err_from_is_err_and c.from_residual-in_err-double.result c.from_residual-in_err-double.ensures.1 in
    rw (p.1, p.2)
    (λ other fit. c.in_err-double.ensures.exact other (double_must_fit laws m.means x c.requires.own_x c.args.n two fit))

pub returns-then-n-eq0-clause-exact : goal.returns-then-n-eq0-clause-exact
returns-then-n-eq0-clause-exact g t c =
    let m = g.C.Composed in
    let laws = g.met.C.Composed.lawful c.args.c.now in
    let x = m.means c.args.x.now in
    let two : 2 ≤ c.args.n = omega arith in
    even_fits laws m.means x c.requires.own_x c.args.n two c.if-n-eq0.true c.in_ok-half.ensures.exact c.in_ok-double.ensures.exact

pub returns-then-double-clause-grows : goal.returns-then-double-clause-grows
returns-then-double-clause-grows g t c =
    let m = g.C.Composed in
    let laws = g.met.C.Composed.lawful c.args.c.now in
    let x = m.means c.args.x.now in
    let le : c.args.n / 2 + c.args.n / 2 ≤ c.args.n = omega arith in
    done_at laws m.means x c.requires.own_x (c.args.n / 2 + c.args.n / 2) c.args.n c.in_ok-double.double le c.if-double.true c.in_ok-double.ensures.grows

pub returns-then-double-clause-exact : goal.returns-then-double-clause-exact
returns-then-double-clause-exact g t c =
    let m = g.C.Composed in
    let laws = g.met.C.Composed.lawful c.args.c.now in
    let x = m.means c.args.x.now in
    let two : 2 ≤ c.args.n = omega arith in
    done_double_fits laws m.means x c.requires.own_x c.args.n c.in_ok-double.double two c.in_ok-half.ensures.exact c.in_ok-double.ensures.grows c.if-double.true c.in_ok-double.ensures.sound.fits_all

pub returns-clause-grows : goal.returns-clause-grows
returns-clause-grows g t c =
    let m = g.C.Composed in
    let laws = g.met.C.Composed.lawful c.args.c.now in
    let x = m.means c.args.x.now in
    let on = on_of laws m.means x c.requires.own_x (c.args.n / 2 + c.args.n / 2) c.in_ok-double.double (let e : 1 ≤ c.args.n / 2 + c.args.n / 2 = omega arith in e) c.in_ok-double.ensures.grows c.if-double.false in
    let last : c.args.n / 2 + c.args.n / 2 + 1 ≡ c.args.n = omega arith in
    at_result laws m.means x c.requires.own_x (c.args.n / 2 + c.args.n / 2 + 1) c.args.n c.stepped.result last (c.stepped.ensures.grows (c.args.n / 2 + c.args.n / 2) on)

pub returns-clause-exact : goal.returns-clause-exact
returns-clause-exact g t c =
    let m = g.C.Composed in
    let laws = g.met.C.Composed.lawful c.args.c.now in
    let x = m.means c.args.x.now in
    let two : 2 ≤ c.args.n = omega arith in
    let on = on_of laws m.means x c.requires.own_x (c.args.n / 2 + c.args.n / 2) c.in_ok-double.double (let e : 1 ≤ c.args.n / 2 + c.args.n / 2 = omega arith in e) c.in_ok-double.ensures.grows c.if-double.false in
    exact_as m.wants_memory c.stepped.result
    (odd_fits laws m.means x c.requires.own_x c.args.n two c.if-n-eq0.false c.in_ok-half.ensures.exact c.in_ok-double.ensures.exact)
    (odd_must_fit laws m.means x c.requires.own_x c.args.n two c.if-n-eq0.false)
    (c.stepped.ensures.exact (c.args.n / 2 + c.args.n / 2) on)
