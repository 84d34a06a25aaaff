use Rattle.std.proofs.Common.{inl, inr, arith}
use Rattle.std.proofs.lemmas.Int.{ints}
use Rattle.relation_rows.proofs.Going.{through, none_through, still_through}
use Rattle.relation_rows.proofs.ways.way_by.Goals as goal
use Rattle.relation_rows.proofs.ways.way_by.Goals.{then-band-span-via-then-band-span, then-band-span-via-else-band-span+then-span-band}

pub returns-then-band-span : goal.returns-then-band-span
returns-then-band-span c = none_through c.args.zone.now c.args.span.0 c.args.span.1 c.args.band.now c.requires.span
    (elim c.then-band-span.branch [
      | then-band-span-via-then-band-span w ↦ inl (let h = w.if-band-span.true in omega (arith, ints))
      | then-band-span-via-else-band-span+then-span-band w ↦ inr (let h = w.if-span-band.true in omega (arith, ints))
    ])

pub returns-then-is_still : goal.returns-then-is_still
returns-then-is_still c = still_through c.args.zone.now c.args.band.now (c.is_still.ensures c.if-is_still.true) c.arriving_in.result c.arriving_in.ensures

pub returns : goal.returns
returns c = through c.args.zone.now c.zone_of.result c.args.band.now c.zone_of.ensures c.compose.result c.compose.ensures
