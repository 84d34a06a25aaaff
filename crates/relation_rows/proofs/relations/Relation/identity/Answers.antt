use Rattle.std.proofs.Common.{SFits, w64, to_z-of_z, rules}
use Rattle.relation_rows.specs.Relations.{IsItself}
use Rattle.relation_rows.proofs.Giving.{gives_alike}
use Rattle.relation_rows.proofs.Identity.{are_itself, itself_are, zone_there}
use Rattle.relation_rows.proofs.relations.Relation.identity.Goals as goal

pub returns : goal.returns
returns c =
    let from : SFits w64 c.from.result = search rules in
    let to : SFits w64 c.to.result = search rules in
    let zone = simp to_z-of_z at c.diagonal.ensures.zone in
    let stays = zone_there c.diagonal.result c.unwrap-zone.result c.from.result c.to.result c.args.horizon c.unwrap-zone.ensures zone c.from.ensures.value c.to.ensures.value in
    gives_alike _ (IsItself c.args.objects.now c.args.horizon)
    (are_itself c.unwrap-zone.result c.args.objects.now c.args.horizon stays)
    (itself_are c.unwrap-zone.result c.args.objects.now c.args.horizon stays)
    c.args.max_rows c.each_to_itself.result c.each_to_itself.ensures
