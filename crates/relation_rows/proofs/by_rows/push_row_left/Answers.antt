use Rattle.std.proofs.Common.{arith}
use Rattle.itpg_base.proofs.Lists.{among_at}
use Rattle.band_normal.proofs.PartLemmas.{none_left}
use Rattle.relation_rows.proofs.ByRows.{whole_added, one_cut_added, rest_added}
use Rattle.relation_rows.proofs.Settling.{no_row}
use Rattle.relation_rows.proofs.by_rows.push_row_left.Goals as goal

pub returns-then-is_empty : goal.returns-then-is_empty
returns-then-is_empty c =
    let pushed = c.in_ok-push.ensures.items in
    whole_added c.args.row.now c.args.cuts.now c.zone_of-zone.result c.zone_of-zone.ensures (none_left c.args.cuts.now c.if-is_empty.ensures) c.args.left.now.items c.push.new.self.items pushed

pub zone_of-requires : goal.zone_of-requires
zone_of-requires c =
    let some = c.in-len1.len_at_least in
    c.requires.cuts _ (among_at c.args.cuts.now 0 no_row (omega (arith, some)))

pub returns-in-len1 : goal.returns-in-len1
returns-in-len1 c =
    one_cut_added c.args.row.now c.args.cuts.now c.zone_of-zone.result c.zone_of.result no_row c.zone_of-zone.ensures c.zone_of.ensures c.in-len1.len_at_least c.in-len1.len_below
    c.args.left.now.items c.push_without.new.left.items c.in_ok-push_without.ensures

pub returns : goal.returns
returns c =
    let extended = c.in_ok-extend_from_slice.ensures.items in
    rest_added c.args.row.now c.args.cuts.now c.zone_of-zone.result c.zone_of-zone.ensures c.in_ok-zones.zones.items c.deref.result.now c.in_ok-rest.rest.items c.deref-2.result.now
    c.in_ok-zones.ensures c.deref.ensures.value c.in_ok-rest.ensures c.deref-2.ensures.value c.args.left.now.items c.extend_from_slice.new.self.items extended
