use Rattle.std.proofs.Common.{refl, arith}
use Rattle.std.proofs.lemmas.Int.{ints}
use Rattle.relation_rows.proofs.ApartRows.{arrive_apart}
use Rattle.relation_rows.proofs.apart.arrive_apart.Goals as goal

pub returns : goal.returns
returns c = λ e.
    let from = c.if-first-second.false in
    let to = c.if-first-second-2.false in
    let high = c.first_high.ensures in
    let low = c.first_arrival.ensures in
    let first = c.if-not-is_free.ensures refl in
    let end = c.last_arrival.ensures in
    let begin = c.last_low.ensures in
    let last = c.is_free-2.ensures e in
    arrive_apart c.args.first.now c.args.second.now (omega (arith, ints, from)) (omega (arith, ints, to)) (omega (arith, ints, high, low, first)) (omega (arith, ints, end, begin, last))
