use Rattle.std.proofs.Common.{SFits, w64}
use Rattle.std.proofs.lemmas.Int.{to_z-of_z}
use Rattle.interval_set.proofs.Found.{next_by}
use Rattle.interval_set.proofs.places.next_from.Goals as goal

pub returns : goal.returns
returns g c =
    let fits : SFits w64 c.args.t = c.ranges.t in
    let place = simp to_z-of_z at c.ended_before.ensures in
    next_by g.T.Spanned.as_run c.args.items.now c.args.t c.ended_before.result c.get.result c.requires place.ended place.going c.get.ensures.lookup.0 c.get.ensures.lookup.1
