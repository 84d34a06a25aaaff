use Rattle.repeat_engine.specs.Powers.{union_of_powers}
use Rattle.repeat_engine.proofs.Results.{own_found, each_fits_found}
use Rattle.repeat_engine.proofs.UnionLaws.{own_union}
use Rattle.repeat_engine.proofs.calls.at_once.Goals as goal

pub returns-clause-own : goal.returns-clause-own
returns-clause-own g c =
    let m = g.C.Composed in
    let laws = g.met.C.Composed.lawful c.args.c.now in
    let x = m.means c.args.x.now in
    own_found laws m.means c.at_once.result (union_of_powers (m.algebra c.args.c.now) x c.args.n) (own_union laws x c.requires.own_x c.args.n) c.at_once.ensures.value

pub returns-clause-fits : goal.returns-clause-fits
returns-clause-fits g c =
    let m = g.C.Composed in
    let laws = g.met.C.Composed.lawful c.args.c.now in
    let x = m.means c.args.x.now in
    each_fits_found laws m.means c.at_once.result (λ k. union_of_powers (m.algebra c.args.c.now) x k) c.args.n c.at_once.ensures.value c.at_once.ensures.each_fits
