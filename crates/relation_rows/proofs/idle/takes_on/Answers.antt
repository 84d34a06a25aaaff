use Rattle.std.proofs.Common.{arith}
use Rattle.std.proofs.lemmas.Int.{ints}
use Rattle.relation_rows.proofs.IdleRows.{arrivals_within}
use Rattle.relation_rows.proofs.idle.takes_on.Goals as goal

pub returns : goal.returns
returns c =
    let begins = c.if-first_arrival-next.false in
    let ends = c.if-next-last_arrival.false in
    λ e. (c.if-next-row.false, arrivals_within c.args.row.now.band c.args.next.now.band c.first_arrival.result c.last_arrival.result c.first_arrival.ensures c.last_arrival.ensures (omega (arith, ints, begins)) (omega (arith, ints, ends)))
