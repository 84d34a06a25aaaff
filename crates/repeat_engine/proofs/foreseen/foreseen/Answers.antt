use Rattle.std.proofs.Common.{arith}
use Rattle.repeat_engine.specs.Powers.{union_of_powers}
use Rattle.repeat_engine.proofs.Foreseeing.{stands_half, stands_at}
use Rattle.repeat_engine.proofs.Results.{fails_as}
use Rattle.repeat_engine.proofs.foreseen.foreseen.Goals as goal

pub loop-member-preserved : goal.loop-member-preserved
loop-member-preserved g c =
    let m = g.C.Composed in
    let more = c.loop-member-test.true in
    stands_half (λ k. m.fits c.args.c.now (union_of_powers (m.algebra c.args.c.now) (m.means c.args.x.now) k)) c.args.n c.loop-member.member (omega (arith, more)) c.loop-member.invariant

pub returns : goal.returns
returns g c =
    let m = g.C.Composed in
    fails_as m.wants_memory c.check_union.result
    (stands_at (λ k. m.fits c.args.c.now (union_of_powers (m.algebra c.args.c.now) (m.means c.args.x.now) k)) c.args.n c.loop-member.member c.loop-member.invariant)
    c.check_union.ensures
