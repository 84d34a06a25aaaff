use Rattle.band_normal.proofs.PartLemmas.{none_left}
use Rattle.relation_rows.proofs.Subtracting.{uncut_left, zones_left}
use Rattle.relation_rows.proofs.minus.push_left.Goals as goal

pub returns-then-is_empty : goal.returns-then-is_empty
returns-then-is_empty c =
    uncut_left c.args.row.now c.args.group.now c.args.cuts.now c.requires.group (none_left c.args.cuts.now c.if-is_empty.ensures) c.args.items.now.items c.push_zones.new.items.items c.in_ok-push_zones.ensures

pub returns : goal.returns
returns c =
    zones_left c.args.row.now c.args.group.now c.args.cuts.now c.in_ok-zones.zones.items c.deref.result.now c.in_ok-zones.ensures c.deref.ensures.value c.args.items.now.items c.push_items.new.items.items c.in_ok-push_items.ensures
