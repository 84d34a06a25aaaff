use Rattle.relation_rows.proofs.Leaving.{left_of_bands}
use Rattle.relation_rows.proofs.minus.left_of.Goals as goal

pub returns : goal.returns
returns c =
    left_of_bands c.args.rows.now c.args.cuts.now c.in_ok-zones.zones.items c.in_ok-zones_of_cuts.zones_of_cuts.items c.deref.result.now c.deref-2.result.now c.new-left.result.items c.push_rest.new.rest.items
    c.in_ok-zones.ensures c.in_ok-zones_of_cuts.ensures c.deref.ensures.value c.deref-2.ensures.value c.new-left.ensures.items c.in_ok-push_rest.ensures
