use Rattle.std.proofs.Common.{◌≤◌, length, arith}
use Rattle.std.proofs.lemmas.List.{length-take-le}
use Rattle.itpg_base.proofs.Fronts.{front_partitioned, point_of_front}
use Rattle.itpg_base.proofs.leading.count_leading.Goals as goal

pub returns-then-count-near-clause-partitioned : goal.returns-then-count-near-clause-partitioned
returns-then-count-near-clause-partitioned g c p key parted =
    let least : c.min.result ≤ length c.args.items.now = omega arith in
    let size = length-take-le c.min.result c.args.items.now least in
    point_of_front p c.args.items.now c.min.result c.partition_point-count.result least parted (let lt = c.if-count-near.true in omega arith)
    (c.partition_point-count.ensures.partitioned p key (front_partitioned p c.args.items.now c.min.result least parted))
