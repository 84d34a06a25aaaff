use Rattle.std.proofs.Common.{SFits, w64}
use Rattle.std.proofs.lemmas.Int.{to_z-of_z}
use Rattle.interval_set.proofs.Found.{value_at}
use Rattle.interval_set.proofs.places.run_at.Goals as goal

pub returns-in-Some-clause-some : goal.returns-in-Some-clause-some
returns-in-Some-clause-some g c =
    let fits : SFits w64 c.args.t = c.ranges.t in
    let next = simp to_z-of_z at c.in-Some.ensures in
    let begun = (simp to_z-of_z at (rw c.span.ensures at c.begins_by.ensures)).0 c.if-begins_by.true in
    value_at _ c.args.t _ next begun
