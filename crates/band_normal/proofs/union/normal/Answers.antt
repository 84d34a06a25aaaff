use Rattle.std.proofs.Common.{◌≡◌, ◌≤◌, ◌<◌, List, [], ◌∷◌, ◌++◌, length, slice_index_or, inl, subst, sym, arith, ⊎_elim}
use Rattle.std.specs.Prelude.{IfOk}
use Rattle.zone_core.specs.declared.Bounds.{Bounds}
use Rattle.zone_core.specs.Zone.{Meets}
use Rattle.band_normal.specs.declared.band.Band.{Band}
use Rattle.itpg_base.specs.Lists.{Among}
use Rattle.band_normal.specs.Bands.{IsWellFormed}
use Rattle.band_normal.specs.Normal.{Normal}
use Rattle.band_normal.specs.Zones.{SomeMeets}
use Rattle.band_normal.proofs.Sorting.{normal_like}
use Rattle.band_normal.proofs.PartLemmas.{first_adds, can_order, ok_ordered, ok_formed}
use Rattle.band_normal.proofs.union.normal.Goals as goal

-- the bands of the one zone of a list are all there is
alone_is : (old more rows : List Band) → old ≡ [] → rows ≡ old ++ more → more ≡ rows
alone_is old more rows e f = sym (subst (λ (v : List Band). rows ≡ v ++ more) e f)

one_normal : (zones : List Bounds) (zone : Bounds) (rows : List Band) → 1 ≤ length zones → length zones < 2 → zone ≡ slice_index_or zones 0 zone → Normal (Meets zone) rows → Normal (SomeMeets zones) rows
one_normal (z ∷ []) zone rows some few is n = normal_like (Meets z) (SomeMeets (z ∷ [])) rows (λ t u. (λ h. inl h, ⊎_elim (λ h. h) absurd)) (subst (λ k. Normal (Meets k) rows) is n)
one_normal [] zone rows some few is n = absurd (omega arith)
one_normal (z ∷ y ∷ more) zone rows some few is n = absurd (omega arith)

pub returns-in-len1-clause-normal : goal.returns-in-len1-clause-normal
returns-in-len1-clause-normal c =
    let same = alone_is _ _ _ c.new-rows.ensures.items c.in_ok-push_present.ensures in
    subst (λ (zones : List Bounds). Normal (SomeMeets zones) c.push_present.new.bands.items) c.deref.ensures.value
    (one_normal c.deref.result.now c.zone-item.result _ c.in-len1.len_at_least c.in-len1.len_below c.zone-item.is (subst (λ (v : List Band). Normal (Meets c.zone-item.result) v) same c.bands_of.ensures.normal))

pub returns-in-len1-clause-well_formed : goal.returns-in-len1-clause-well_formed
returns-in-len1-clause-well_formed c =
    let same = alone_is _ _ _ c.new-rows.ensures.items c.in_ok-push_present.ensures in
    subst (λ (v : List Band). (b : Band) → Among v b → IsWellFormed b) same c.bands_of.ensures.well_formed

pub in_order-requires : goal.in_order-requires
in_order-requires c = can_order _ _ (first_adds _ _ _ c.new-rows.ensures.items c.in_ok-add_parted.ensures)

pub returns-clause-normal : goal.returns-clause-normal
returns-clause-normal c =
    subst (λ (zones : List Bounds). IfOk c.in_order.result (λ v. Normal (SomeMeets zones) v.items)) c.deref-3.ensures.value
    (ok_ordered _ _ _ (first_adds _ _ _ c.new-rows.ensures.items c.in_ok-add_parted.ensures) c.in_order.ensures)

pub returns-clause-well_formed : goal.returns-clause-well_formed
returns-clause-well_formed c = ok_formed _ _ _ (first_adds _ _ _ c.new-rows.ensures.items c.in_ok-add_parted.ensures) c.in_order.ensures
