use Rattle.std.proofs.Common.{List, subst}
use Rattle.band_normal.specs.declared.band.Band.{Band}
use Rattle.band_normal.specs.Zones.{SomeMeets}
use Rattle.arrivals.specs.Firsts.{OnLow}
use Rattle.arrivals.proofs.Pushing.{Pushed, pushed_alone}
use Rattle.arrivals.proofs.Ups.{least_lines}
use Rattle.arrivals.proofs.zones.least_of.Goals as goal

pub returns : goal.returns
returns c t u =
    let p = pushed_alone OnLow c.new-least.result.items c.in_ok-bands.bands.items c.push_lines.new.zones.items c.new-least.ensures.items
    (subst (λ (v : List Band). Pushed OnLow c.new-least.result.items v c.push_lines.new.zones.items) c.deref.ensures.value c.in_ok-push_lines.ensures) t u in
    let q = least_lines (SomeMeets c.args.zones.now) c.requires c.in_ok-bands.bands.items c.in_ok-bands.ensures.normal t u in
    (λ h. q.0 (p.0 h), λ h. p.1 (q.1 h))
