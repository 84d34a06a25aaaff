use Rattle.std.proofs.Common.{List, map, ◌∙◌, subst, sym}
use Rattle.std.proofs.lemmas.Slice.Eq.{slice_eq-Decides}
use Rattle.zone_core.specs.declared.Bounds.{Bounds}
use Rattle.band_normal.specs.Normal.{Normal}
use Rattle.band_normal.specs.Zones.{SomeMeets}
use Rattle.band_normal.proofs.Sorting.{normal_like}
use Rattle.relation_rows.proofs.ItemZones.{zone_of_item}
use Rattle.relation_rows.proofs.EqualZones.{zone_decides}
use Rattle.relation_rows.proofs.known.Known.learn.Goals as goal

pub returns-then-eq-clause-normal : goal.returns-then-eq-clause-normal
returns-then-eq-clause-normal c =
    let same = (slice_eq-Decides zone_decides c.fill_zones.new.zones.items c.self.inside.zones.items c.eq.result c.eq.ensures).0 c.if-eq.true in
    let known = subst (λ (v : List Bounds). Normal (SomeMeets v) c.self.inside.bands.items) (sym same) c.self.invariant.normal in
    normal_like (SomeMeets c.fill_zones.new.zones.items) (SomeMeets (map zone_of_item c.args.items.now)) c.self.inside.bands.items c.in_ok-fill_zones.ensures known

pub returns-clause-normal : goal.returns-clause-normal
returns-clause-normal c =
    let copied = c.in_ok-zones.ensures.items ∙ c.deref.ensures.value in
    let found = subst (λ (v : List Bounds). Normal (SomeMeets v) c.in_ok-self-inside.field-0.items) copied c.in_ok-self-inside.ensures.normal in
    normal_like (SomeMeets c.fill_zones.new.zones.items) (SomeMeets (map zone_of_item c.args.items.now)) c.in_ok-self-inside.field-0.items c.in_ok-fill_zones.ensures found
