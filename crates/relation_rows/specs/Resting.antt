-- Points that lead to themselves.
use Rattle.std.specs.Prelude.{◌≡◌, int_lt, if◌then◌else◌, pos, List}
use Rattle.itpg_base.specs.Lists.{Among}
use Rattle.itpg_base.specs.Points.{Relation}
use Rattle.itpg_base.specs.Spans.{Span}
use Rattle.zone_core.specs.Zone.{Within, moment_reach}
use Rattle.band_normal.specs.declared.band.Band.{Band}
use Rattle.band_normal.specs.declared.band.End.TheVariants.{Fixed, Moving}
use Rattle.relation_rows.specs.declared.rows.Row.{Row}
use Rattle.relation_rows.specs.declared.times.OneRow.{OneRow}
use Rattle.relation_rows.specs.Times.{TimesHold}

-- the moments of the rows are in range
abbrev pub AreNearTimes : List OneRow → Type 0
AreNearTimes rows = (r : OneRow) → Among rows r → Within moment_reach r.span.from × Within moment_reach r.span.to

-- each of the points leads to itself
abbrev pub StaysWithin : List OneRow → Relation
StaysWithin rows x y = (x ≡ y) × TimesHold rows x.object x.moment

-- the band that arrives when it departs, at the moments of the span
abbrev pub resting_band : Span → Band
resting_band s = if int_lt s.from s.to
    then record { from = s.from; to = s.to; low = Moving (pos 0); high = Moving (pos 0) }
    else record { from = s.from; to = s.to; low = Fixed s.from; high = Fixed s.from }

-- the row from the object to itself
abbrev pub resting : OneRow → Row
resting r = record { source = r.object; target = r.object; band = resting_band r.span }
