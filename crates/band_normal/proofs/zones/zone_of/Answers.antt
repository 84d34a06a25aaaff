use Rattle.band_normal.specs.Bands.{end_at}
use Rattle.band_normal.proofs.BandZone.{band-meets, band-near, band-pair}
use Rattle.band_normal.proofs.zones.zone_of.Goals as goal

pub tight-requires : goal.tight-requires
tight-requires c = rw c.band_bounds.ensures (band-near _ _ _ _ c.requires)

pub unwrap-requires : goal.unwrap-requires
unwrap-requires c =
    let b = c.args.b.now in
    c.tight.ensures.some.1 (record {
      departure = b.from;
      arrival = end_at b.low b.from;
      related = rw c.band_bounds.ensures ((band-meets b.from b.to b.low b.high c.requires _ _).1 (band-pair _ c.requires));
    })

pub returns : goal.returns
returns c = λ t u.
    let b = c.args.b.now in
    let h = rw (c.unwrap.ensures, c.band_bounds.ensures) at (c.tight.ensures.pairs t u) in
    let f = band-meets b.from b.to b.low b.high c.requires t u in
    (λ m. f.0 (h.0 m), λ i. h.1 (f.1 i))
