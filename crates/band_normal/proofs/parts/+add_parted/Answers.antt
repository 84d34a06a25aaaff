use Rattle.std.proofs.Common.{List, Bor, sym, ap, subst, ℤ, ◌↔◌, ◌∙◌}
use Rattle.zone_core.specs.declared.Bounds.{Bounds}
use Rattle.zone_core.specs.declared.Zone.{Zone}
use Rattle.itpg_base.specs.Lists.{Ordered}
use Rattle.band_normal.specs.Zones.{SomeMeets}
use Rattle.band_normal.specs.Parts.{BeginsNoLater}
use Rattle.band_normal.proofs.PartLemmas.{only_adds, rows_added, parting_start, parting_step, parting_end, none_left}
use Rattle.band_normal.proofs.parts.+add_parted.Goals as goal
use Rattle.band_normal.proofs.parts.+add_parted.Goals.{in-Some-sorted, in-None}

pub loop-left-init : goal.loop-left-init
loop-left-init t c =
    let now = λ (v : Bor (List Zone)). v.now in
    let InOrder : List Bounds → Type 0 = λ v. Ordered (BeginsNoLater c.args.measure) v in
    parting_start _ _ _ (elim c.match-sorted.branch [
      | in-Some-sorted w ↦ subst InOrder (sym (ap now w.left-is ∙ w.deref-in-Some-sorted.ensures.value)) (rw w.in-Some-sorted.is at c.in_ok-sorted.ensures.order)
      | in-None w ↦ subst InOrder (sym (ap now w.left-is)) (rw w.in-None.is at c.in_ok-sorted.ensures.kept)
    ])

pub group_len-requires-clause-order : goal.group_len-requires-clause-order
group_len-requires-clause-order t c = c.loop-left.invariant.order

pub loop-left-preserved : goal.loop-left-preserved
loop-left-preserved t c = parting_step _ _ _ _ _ _ _ _ _ c.loop-left.invariant c.split_at.ensures.by_index.0 c.split_at.ensures.front c.split_at.ensures.back c.group_len.ensures.apart c.in_ok-rows.ensures

pub returns : goal.returns
returns t c =
    let now = λ (v : Bor (List Zone)). v.now in
    let Same : List Bounds → Type 0 = λ v. (t : ℤ) → (u : ℤ) → SomeMeets v t u ↔ SomeMeets c.args.zones.now t u in
    parting_end _ _ _ _ _ _ c.loop-left.invariant (none_left c.loop-left.left.now c.loop-left-test.ensures) (elim c.match-sorted.branch [
      | in-Some-sorted w ↦ subst Same (sym (ap now w.left-is ∙ w.deref-in-Some-sorted.ensures.value)) (rw w.in-Some-sorted.is at c.in_ok-sorted.ensures.pairs)
      | in-None w ↦ subst Same (sym (ap now w.left-is)) (λ t u. (λ h. h, λ h. h))
    ])

pub returns-in-len1 : goal.returns-in-len1
returns-in-len1 t c =
    let adds = c.in_ok-push_bands_of.ensures in
    only_adds _ _ _ _ _ c.in-len1.len_at_least c.in-len1.len_below c.zone-item.is adds.normal adds.formed adds.is

pub returns-in-Some : goal.returns-in-Some
returns-in-Some t c = rows_added _ _ _ _ _ (rw c.in-Some.is at c.in_ok-more.ensures.rows) c.deref.ensures.value c.in_ok-extend_from_slice.ensures.items
