use Rattle.std.proofs.Common.{◌↔◌, ℤ, List, sym, subst}
use Rattle.zone_core.specs.declared.Bounds.{Bounds}
use Rattle.band_normal.specs.Zones.{SomeMeets}
use Rattle.arrivals.specs.Firsts.{LeastOf, Reversed}
use Rattle.arrivals.proofs.Turning.{reversed_reach, latest_back}
use Rattle.arrivals.proofs.zones.latest_of.Goals as goal

pub least_of-requires : goal.least_of-requires
least_of-requires c = reversed_reach c.args.zones.now c.deref.result.now
    (subst (λ (v : List Bounds). (t : ℤ) (u : ℤ) → SomeMeets v t u ↔ Reversed (SomeMeets c.args.zones.now) t u) (sym c.deref.ensures.value) c.in_ok-turned.ensures) c.requires

pub returns : goal.returns
returns c = latest_back (SomeMeets c.args.zones.now) (SomeMeets c.in_ok-turned.turned.items) (SomeMeets c.in_ok-least.least.items) (SomeMeets c.in_ok-latest.latest.items) c.in_ok-turned.ensures
    (subst (λ (v : List Bounds). (t : ℤ) (u : ℤ) → SomeMeets c.in_ok-least.least.items t u ↔ LeastOf (SomeMeets v) t u) c.deref.ensures.value c.in_ok-least.ensures)
    (subst (λ (v : List Bounds). (t : ℤ) (u : ℤ) → SomeMeets c.in_ok-latest.latest.items t u ↔ Reversed (SomeMeets v) t u) c.deref-2.ensures.value c.in_ok-latest.ensures)
