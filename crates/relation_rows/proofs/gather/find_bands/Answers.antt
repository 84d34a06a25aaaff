use Rattle.std.proofs.Common.{◌≡◌, ◌≤◌, ◌<◌, List, [], ◌∷◌, length, slice_index_or, map, inl, sym, ◌∙◌, subst, arith, ⊎_elim}
use Rattle.zone_core.specs.Zone.{Meets}
use Rattle.band_normal.specs.declared.band.Band.{Band}
use Rattle.itpg_base.specs.Lists.{Among}
use Rattle.band_normal.specs.Bands.{IsWellFormed}
use Rattle.band_normal.specs.Normal.{Normal}
use Rattle.band_normal.specs.Zones.{SomeMeets}
use Rattle.band_normal.proofs.Sorting.{normal_like}
use Rattle.relation_rows.specs.Relations.{Item}
use Rattle.relation_rows.proofs.Covering.{alone_is}
use Rattle.relation_rows.proofs.ItemZones.{zone_of_item}
use Rattle.relation_rows.proofs.gather.find_bands.Goals as goal

lone_normal : (items : List Item) (item : Item) (rows : List Band) → 1 ≤ length items → length items < 2 → item ≡ slice_index_or items 0 item → Normal (Meets (zone_of_item item)) rows → Normal (SomeMeets (map zone_of_item items)) rows
lone_normal (i ∷ []) item rows some few is n =
    normal_like (Meets (zone_of_item i)) (SomeMeets (zone_of_item i ∷ [])) rows (λ t u. (λ h. inl h, ⊎_elim (λ h. h) absurd)) (subst (λ (k : Item). Normal (Meets (zone_of_item k)) rows) is n)
lone_normal [] item rows some few is n = absurd (omega arith)
lone_normal (i ∷ j ∷ more) item rows some few is n = absurd (omega arith)

pub returns-in-len1-clause-normal : goal.returns-in-len1-clause-normal
returns-in-len1-clause-normal c =
    let adds = c.in_ok-push_bands_of.ensures in
    let same = alone_is _ _ _ c.clear.ensures.items adds.is in
    lone_normal c.args.items.now c.item-item.result _ c.in-len1.len_at_least c.in-len1.len_below c.item-item.is
    (subst (λ (v : List Band). Normal (Meets (zone_of_item c.item-item.result)) v) same adds.normal)

pub returns-in-len1-clause-formed : goal.returns-in-len1-clause-formed
returns-in-len1-clause-formed c =
    let adds = c.in_ok-push_bands_of.ensures in
    let same = alone_is _ _ _ c.clear.ensures.items adds.is in
    subst (λ (v : List Band). (b : Band) → Among v b → IsWellFormed b) same adds.formed

pub returns-clause-normal : goal.returns-clause-normal
returns-clause-normal c =
    let same = alone_is _ _ _ c.clear-2.ensures.items c.in_ok-extend_from_slice.ensures.items in
    subst (λ (v : List Band). Normal (SomeMeets (map zone_of_item c.args.items.now)) v) (sym c.bands.ensures ∙ same) c.in_ok-learn.ensures.normal
