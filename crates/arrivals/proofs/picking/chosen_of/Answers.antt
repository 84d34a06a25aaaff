use Rattle.std.proofs.Common.{◌↔◌, ℤ, List, sym, subst}
use Rattle.zone_core.specs.declared.Bounds.{Bounds}
use Rattle.band_normal.specs.Zones.{SomeMeets}
use Rattle.arrivals.specs.declared.picking.Choice.{Choice}
use Rattle.arrivals.specs.Firsts.{SomeOf}
use Rattle.arrivals.specs.Choosing.{Beats, Unbeaten, InBandOf}
use Rattle.arrivals.proofs.Choosing.{first_kept, last_kept, rows_reach, rows_late}
use Rattle.arrivals.proofs.picking.chosen_of.Goals as goal

pub least_of-requires : goal.least_of-requires
least_of-requires c = rows_reach c.args.rows.now c.requires c.deref.result.now
    (subst (λ (v : List Bounds). (t : ℤ) (u : ℤ) → SomeMeets v t u ↔ SomeOf InBandOf c.args.rows.now t u) (sym c.deref.ensures.value) c.in_ok-zones.ensures)

pub latest_of-requires : goal.latest_of-requires
latest_of-requires c = rows_late c.args.rows.now c.requires c.deref-in-Last.result.now
    (subst (λ (v : List Bounds). (t : ℤ) (u : ℤ) → SomeMeets v t u ↔ SomeOf InBandOf c.args.rows.now t u) (sym c.deref-in-Last.ensures.value) c.in_ok-zones.ensures)

pub returns-in-First : goal.returns-in-First
returns-in-First c = subst (λ (v : Choice). (t : ℤ) (u : ℤ) → SomeMeets c.in_ok-least-in-First.least.items t u ↔ Unbeaten (Beats v) (SomeOf InBandOf c.args.rows.now) t u) (sym c.in-First.is)
    (first_kept c.args.rows.now c.requires c.deref.result.now
    (subst (λ (v : List Bounds). (t : ℤ) (u : ℤ) → SomeMeets v t u ↔ SomeOf InBandOf c.args.rows.now t u) (sym c.deref.ensures.value) c.in_ok-zones.ensures)
    c.in_ok-least-in-First.least.items c.in_ok-least-in-First.ensures)

pub returns : goal.returns
returns c = subst (λ (v : Choice). (t : ℤ) (u : ℤ) → SomeMeets c.in_ok-latest-in-Last.latest.items t u ↔ Unbeaten (Beats v) (SomeOf InBandOf c.args.rows.now) t u) (sym c.in-Last.is)
    (last_kept c.args.rows.now c.requires c.deref-in-Last.result.now
    (subst (λ (v : List Bounds). (t : ℤ) (u : ℤ) → SomeMeets v t u ↔ SomeOf InBandOf c.args.rows.now t u) (sym c.deref-in-Last.ensures.value) c.in_ok-zones.ensures)
    c.in_ok-latest-in-Last.latest.items c.in_ok-latest-in-Last.ensures)
