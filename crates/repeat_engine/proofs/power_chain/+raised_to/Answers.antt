use Rattle.std.proofs.Common.{◌≡◌, ◌≤◌, ◌/◌, true, is_some, arith}
use Rattle.std.proofs.lemmas.Result.{err_from_is_err_and}
use Rattle.repeat_engine.specs.Powers.{nth_power}
use Rattle.repeat_engine.proofs.Squaring.{first_is, first_fits, first_must_fit, half_must_fit, double_must_fit, even_is, even_fits, odd_is, odd_fits, odd_must_fit}
use Rattle.repeat_engine.proofs.LastPowers.{IsRaised, turned_raised, done_fits, next_some}
use Rattle.repeat_engine.proofs.power_chain.+raised_to.Goals as goal

pub returns-in_err-value-clause-exact : goal.returns-in_err-value-clause-exact
returns-in_err-value-clause-exact g t c =
    let m = g.C.Composed in
    let laws = g.met.C.Composed.lawful c.args.c.now in
    let x = m.means c.args.x.now in
    let p = err_from_is_err_and c.from_residual.result c.from_residual.ensures.1 in
    rw (p.1, p.2)
    (λ other all. c.in_err-value.ensures.exact other (first_must_fit laws x c.requires.own_x c.args.n c.if-n-eq1.true all))

pub returns-then-n-eq1-clause-value : goal.returns-then-n-eq1-clause-value
returns-then-n-eq1-clause-value g t c =
    let m = g.C.Composed in
    let laws = g.met.C.Composed.lawful c.args.c.now in
    let x = m.means c.args.x.now in
    laws.joined (m.means c.in_ok-value.value) ((m.algebra c.args.c.now).unite x x) (nth_power (m.algebra c.args.c.now) x c.args.n) c.in_ok-value.ensures.value (first_is laws x c.requires.own_x c.args.n c.if-n-eq1.true)

pub returns-then-n-eq1-clause-exact : goal.returns-then-n-eq1-clause-exact
returns-then-n-eq1-clause-exact g t c =
    let m = g.C.Composed in
    let laws = g.met.C.Composed.lawful c.args.c.now in
    let x = m.means c.args.x.now in
    first_fits laws x c.requires.own_x c.args.n c.if-n-eq1.true c.in_ok-value.ensures.exact

pub returns-in_err-half-clause-exact : goal.returns-in_err-half-clause-exact
returns-in_err-half-clause-exact g t c =
    let m = g.C.Composed in
    let laws = g.met.C.Composed.lawful c.args.c.now in
    let x = m.means c.args.x.now in
    let two : 2 ≤ c.args.n = omega arith in
    let p = err_from_is_err_and c.from_residual-in_err-half.result c.from_residual-in_err-half.ensures.1 in
    rw (p.1, p.2)
    (λ other all. c.in_err-half.ensures.exact other (half_must_fit laws x c.requires.own_x c.args.n two all))

pub returns-in_err-double-clause-exact : goal.returns-in_err-double-clause-exact
returns-in_err-double-clause-exact g t c =
    let m = g.C.Composed in
    let laws = g.met.C.Composed.lawful c.args.c.now in
    let x = m.means c.args.x.now in
    let half = m.means c.in_ok-half.half.value in
    let two : 2 ≤ c.args.n = omega arith in
    let p = err_from_is_err_and c.from_residual-in_err-double.result c.from_residual-in_err-double.ensures.1 in
    rw (p.1, p.2)
    (λ other all. c.in_err-double.ensures.exact other (double_must_fit laws x c.requires.own_x c.args.n half half c.in_ok-half.ensures.value two all))

pub returns-then-n-eq0-clause-value : goal.returns-then-n-eq0-clause-value
returns-then-n-eq0-clause-value g t c =
    let m = g.C.Composed in
    let laws = g.met.C.Composed.lawful c.args.c.now in
    let x = m.means c.args.x.now in
    let half = m.means c.in_ok-half.half.value in
    let double = m.means c.in_ok-double.double in
    even_is laws x c.requires.own_x c.args.n half double c.in_ok-half.ensures.value c.if-n-eq0.true c.in_ok-double.ensures.value

pub returns-then-n-eq0-clause-exact : goal.returns-then-n-eq0-clause-exact
returns-then-n-eq0-clause-exact g t c =
    let m = g.C.Composed in
    let laws = g.met.C.Composed.lawful c.args.c.now in
    let x = m.means c.args.x.now in
    let half = m.means c.in_ok-half.half.value in
    let double = m.means c.in_ok-double.double in
    let two : 2 ≤ c.args.n = omega arith in
    even_fits laws x c.requires.own_x c.args.n half double c.in_ok-half.ensures.value two c.if-n-eq0.true c.in_ok-half.ensures.exact c.in_ok-double.ensures.exact

pub returns-in_err-value-2-clause-exact : goal.returns-in_err-value-2-clause-exact
returns-in_err-value-2-clause-exact g t c =
    let m = g.C.Composed in
    let laws = g.met.C.Composed.lawful c.args.c.now in
    let x = m.means c.args.x.now in
    let half = m.means c.in_ok-half.half.value in
    let double = m.means c.in_ok-double.double in
    let two : 2 ≤ c.args.n = omega arith in
    let p = err_from_is_err_and c.from_residual-in_err-value-2.result c.from_residual-in_err-value-2.ensures.1 in
    rw (p.1, p.2)
    (λ other all. c.in_err-value-2.ensures.exact other (odd_must_fit laws x c.requires.own_x c.args.n half double c.in_ok-half.ensures.value two c.if-n-eq0.false c.in_ok-double.ensures.value all))

pub returns-clause-value : goal.returns-clause-value
returns-clause-value g t c =
    let m = g.C.Composed in
    let laws = g.met.C.Composed.lawful c.args.c.now in
    let x = m.means c.args.x.now in
    let half = m.means c.in_ok-half.half.value in
    let double = m.means c.in_ok-double.double in
    laws.joined (m.means c.in_ok-value-2.value) ((m.algebra c.args.c.now).compose double x) (nth_power (m.algebra c.args.c.now) x c.args.n) c.in_ok-value-2.ensures.value (odd_is laws x c.requires.own_x c.args.n half double c.in_ok-half.ensures.value c.if-n-eq0.false c.in_ok-double.ensures.value)

pub returns-clause-exact : goal.returns-clause-exact
returns-clause-exact g t c =
    let m = g.C.Composed in
    let laws = g.met.C.Composed.lawful c.args.c.now in
    let x = m.means c.args.x.now in
    let half = m.means c.in_ok-half.half.value in
    let double = m.means c.in_ok-double.double in
    let two : 2 ≤ c.args.n = omega arith in
    odd_fits laws x c.requires.own_x c.args.n half double c.in_ok-half.ensures.value two c.if-n-eq0.false c.in_ok-double.ensures.value c.in_ok-half.ensures.exact c.in_ok-double.ensures.exact c.in_ok-value-2.ensures.exact

pub returns-then-is_some-clause-value : goal.returns-then-is_some-clause-value
returns-then-is_some-clause-value g t c =
    let m = g.C.Composed in
    let laws = g.met.C.Composed.lawful c.args.c.now in
    let x = m.means c.args.x.now in
    let at : IsRaised laws x c.requires.own_x m.means (c.args.n / 2) c.in_ok-half.half =
    record { is = c.in_ok-half.ensures.value; is_own = c.in_ok-half.ensures.own; fits = c.in_ok-half.ensures.fits; next = c.in_ok-half.ensures.next } in
    let some : is_some c.in_ok-half.half.next ≡ true = cc in
    let le : c.args.n / 2 ≤ c.args.n = omega arith in
    let raised = turned_raised laws x c.requires.own_x m.means (c.args.n / 2) c.in_ok-half.half at c.args.n le some c.turned.result c.turned.ensures.even c.turned.ensures.odd in
    raised.is

pub returns-then-is_some-clause-next : goal.returns-then-is_some-clause-next
returns-then-is_some-clause-next g t c =
    let m = g.C.Composed in
    let laws = g.met.C.Composed.lawful c.args.c.now in
    let x = m.means c.args.x.now in
    let at : IsRaised laws x c.requires.own_x m.means (c.args.n / 2) c.in_ok-half.half =
    record { is = c.in_ok-half.ensures.value; is_own = c.in_ok-half.ensures.own; fits = c.in_ok-half.ensures.fits; next = c.in_ok-half.ensures.next } in
    let some : is_some c.in_ok-half.half.next ≡ true = cc in
    let le : c.args.n / 2 ≤ c.args.n = omega arith in
    let raised = turned_raised laws x c.requires.own_x m.means (c.args.n / 2) c.in_ok-half.half at c.args.n le some c.turned.result c.turned.ensures.even c.turned.ensures.odd in
    raised.next

pub returns-then-is_some-clause-exact : goal.returns-then-is_some-clause-exact
returns-then-is_some-clause-exact g t c =
    let m = g.C.Composed in
    let laws = g.met.C.Composed.lawful c.args.c.now in
    let x = m.means c.args.x.now in
    let at : IsRaised laws x c.requires.own_x m.means (c.args.n / 2) c.in_ok-half.half =
    record { is = c.in_ok-half.ensures.value; is_own = c.in_ok-half.ensures.own; fits = c.in_ok-half.ensures.fits; next = c.in_ok-half.ensures.next } in
    let some : is_some c.in_ok-half.half.next ≡ true = cc in
    let two : 2 ≤ c.args.n = omega arith in
    done_fits laws x c.requires.own_x m.means c.args.n c.in_ok-half.half two at some c.in_ok-half.ensures.exact

pub returns-then-n-eq0-clause-next : goal.returns-then-n-eq0-clause-next
returns-then-n-eq0-clause-next g t c =
    let m = g.C.Composed in
    let laws = g.met.C.Composed.lawful c.args.c.now in
    let x = m.means c.args.x.now in
    let half = m.means c.in_ok-half.half.value in
    let double = m.means c.in_ok-double.double in
    next_some laws x c.requires.own_x m.means c.args.n double c.next_of-next.result
    (even_is laws x c.requires.own_x c.args.n half double c.in_ok-half.ensures.value c.if-n-eq0.true c.in_ok-double.ensures.value)
    c.next_of-next.ensures.own c.next_of-next.ensures.fits c.next_of-next.ensures.step c.next_of-next.ensures.back

pub returns-clause-next : goal.returns-clause-next
returns-clause-next g t c =
    let m = g.C.Composed in
    let laws = g.met.C.Composed.lawful c.args.c.now in
    let x = m.means c.args.x.now in
    let half = m.means c.in_ok-half.half.value in
    let double = m.means c.in_ok-double.double in
    let value = m.means c.in_ok-value-2.value in
    let is =
    laws.joined value ((m.algebra c.args.c.now).compose double x) (nth_power (m.algebra c.args.c.now) x c.args.n) c.in_ok-value-2.ensures.value
    (odd_is laws x c.requires.own_x c.args.n half double c.in_ok-half.ensures.value c.if-n-eq0.false c.in_ok-double.ensures.value) in
    next_some laws x c.requires.own_x m.means c.args.n value c.next_of-next-2.result is
    c.next_of-next-2.ensures.own c.next_of-next-2.ensures.fits c.next_of-next-2.ensures.step c.next_of-next-2.ensures.back
