use Rattle.std.proofs.Common.{◌≡◌, [], ◌∷◌, map, arith}
use Rattle.relation_rows.specs.Relations.{ItemsHold}
use Rattle.relation_rows.proofs.Alike.{relation_of}
use Rattle.relation_rows.proofs.Identity.{to_itself, none_yet, each_more, each_wide, all_each}
use Rattle.relation_rows.proofs.gather.each_to_itself.Goals as goal

pub loop-object-init : goal.loop-object-init
loop-object-init c = (none_yet c.args.zone c.args.objects.now c.new-all.result.items c.requires c.new-all.ensures.items, rw c.new-all.ensures.items (omega arith))

pub loop-object-preserved : goal.loop-object-preserved
loop-object-preserved c =
    let zones : c.in_ok-zones.zones.items ≡ c.args.zone ∷ [] = c.in_ok-zones.ensures.items in (
      each_more c.args.zone c.args.objects.now c.requires c.loop-object.object-index _ c.loop-object-test.true c.loop-object.all.items c.loop-object.invariant.0 c.in_ok-zones.zones.items zones
          c.in_ok-bands.bands.items c.deref.result.now c.deref.ensures.value c.in_ok-bands.ensures.normal c.in_ok-bands.ensures.well_formed c.push_bands.new.rows.items c.in_ok-push_bands.ensures,
      omega arith,
    )

pub returns-then-len-room : goal.returns-then-len-room
returns-then-len-room c =
    let zones : c.in_ok-zones.zones.items ≡ c.args.zone ∷ [] = c.in_ok-zones.ensures.items in
    each_wide c.args.zone c.args.objects.now c.requires c.loop-object.object-index _ c.loop-object-test.true c.loop-object.all.items c.loop-object.invariant.0 c.in_ok-zones.zones.items zones
    c.in_ok-bands.bands.items c.deref.result.now c.deref.ensures.value c.in_ok-bands.ensures.normal c.in_ok-bands.ensures.well_formed c.push_bands.new.rows.items c.in_ok-push_bands.ensures c.args.room (omega arith)

pub invariant_of-result : goal.invariant_of-result
invariant_of-result c =
    relation_of (ItemsHold (map (to_itself c.args.zone) c.args.objects.now)) c.loop-object.all.items
    (all_each c.args.zone c.args.objects.now c.loop-object.object-index c.loop-object.all.items c.loop-object-test.false c.loop-object.invariant.0) (c.loop-object.invariant.0).formed
