use Rattle.std.proofs.Common.{◌≡◌, List, ◌++◌, refl, sym, subst, rules}
use Rattle.std.proofs.lemmas.Fn.{always_returns_same}
use Rattle.band_normal.specs.declared.band.Band.{Band}
use Rattle.itpg_base.specs.Lists.{Among, Ordered}
use Rattle.band_normal.specs.Strips.{BeginsEarlier}
use Rattle.itpg_base.proofs.Lists.{permutation_among}
use Rattle.band_normal.proofs.Sweeping.{sorted_earlier}
use Rattle.band_normal.proofs.PartLemmas.{none_left, can_sweep, rows_swept}
use Rattle.band_normal.proofs.sweep.swept.Goals as goal

pub departures-requires-clause-well_formed : goal.departures-requires-clause-well_formed
departures-requires-clause-well_formed c = λ b i.
    c.in_ok-bands.ensures.well_formed b (permutation_among _ _ c.sort_by_key.ensures.permutation b (subst (λ (v : List Band). Among v b) c.deref.ensures.value i))

pub departures-requires-clause-order : goal.departures-requires-clause-order
departures-requires-clause-order c =
    subst (λ (v : List Band). Ordered BeginsEarlier v) (sym c.deref.ensures.value)
    (sorted_earlier _ (c.in_ok-sort_by_key.ensures.sorted (λ (b : Band). b.from) (always_returns_same _ _ _ (λ a r q k. search rules))))

pub rows_over-requires : goal.rows_over-requires
rows_over-requires c =
    let order = sorted_earlier _ (c.in_ok-sort_by_key.ensures.sorted (λ (b : Band). b.from) (always_returns_same _ _ _ (λ a r q k. search rules))) in
    can_sweep _ _ _ _ _ c.in_ok-bands.ensures.well_formed c.sort_by_key.ensures.permutation order c.deref.ensures.value c.deref-2.ensures.value c.in-Some.ensures.some

pub returns-clause-rows : goal.returns-clause-rows
returns-clause-rows c =
    let order = sorted_earlier _ (c.in_ok-sort_by_key.ensures.sorted (λ (b : Band). b.from) (always_returns_same _ _ _ (λ a r q k. search rules))) in
    let can = can_sweep _ _ _ _ c.in-Some.span c.in_ok-bands.ensures.well_formed c.sort_by_key.ensures.permutation order c.deref.ensures.value c.deref-2.ensures.value c.in-Some.ensures.some in
    rows_swept _ _ _ _ _ _ _ _ _ c.in_ok-bands.ensures.pairs c.sort_by_key.ensures.permutation c.deref-2.ensures.value can (rw c.in-Some-2.is at c.in_ok-rows.ensures.rows) c.deref-3.ensures.value c.in_ok-extend_from_slice.ensures.items

pub returns-then-is_empty-clause-rows : goal.returns-then-is_empty-clause-rows
returns-then-is_empty-clause-rows c =
    let order = sorted_earlier _ (c.in_ok-sort_by_key.ensures.sorted (λ (b : Band). b.from) (always_returns_same _ _ _ (λ a r q k. search rules))) in
    let can = can_sweep _ _ _ _ c.in-Some.span c.in_ok-bands.ensures.well_formed c.sort_by_key.ensures.permutation order c.deref.ensures.value c.deref-2.ensures.value c.in-Some.ensures.some in
    let none = none_left c.in-Some-2.rows.complete.items (rw c.in-Some-2.rows.complete.ok.0 at c.if-is_empty.ensures) in
    rows_swept _ _ _ _ _ _ _ _ _ c.in_ok-bands.ensures.pairs c.sort_by_key.ensures.permutation c.deref-2.ensures.value can (rw c.in-Some-2.is at c.in_ok-rows.ensures.rows) refl
    (subst (λ (v : List Band). c.in-Some-2.rows.reaching.items ≡ v ++ c.in-Some-2.rows.reaching.items) (sym none) refl)
