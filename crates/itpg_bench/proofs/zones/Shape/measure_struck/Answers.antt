use Rattle.std.proofs.Common.{List, subst, sym}
use Rattle.band_normal.specs.declared.band.Band.{Band}
use Rattle.itpg_base.specs.Lists.{Ordered}
use Rattle.band_normal.specs.Rows.{AreApart}
use Rattle.band_normal.proofs.PartLemmas.{normal_all}
use Rattle.itpg_bench.proofs.zones.Shape.measure_struck.Goals as goal

pub struck-requires : goal.struck-requires
struck-requires c = subst (λ (v : List Band). Ordered AreApart v) (sym c.deref.ensures.value) (normal_all _ _ c.in_ok-bands.ensures.normal).apart
