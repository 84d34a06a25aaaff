use Rattle.std.proofs.Common.{◌≡◌, [], ◌∷◌, arith}
use Rattle.std.proofs.lemmas.Int.{ints}
use Rattle.band_normal.specs.Zones.{present}
use Rattle.band_normal.proofs.Turns.{one_piece}
use Rattle.band_normal.proofs.sweep.push_bands_of.Goals as goal

pub returns-then-first-k : goal.returns-then-first-k
returns-then-first-k c =
    let e : c.first_piece-first.result.to ≡ c.bounds-k.result.b = (let h = c.if-first-k.true in omega (arith, ints)) in
    let lone = one_piece _ _ _ c.bounds-k.ensures.same c.bounds-k.ensures.near c.first_piece-first.ensures e in
    record { more = c.first_piece-first.result ∷ []; is = c.in_ok-push.ensures.items; normal = lone.normal; formed = lone.well_formed }

pub returns : goal.returns
returns c = record { more = present c.bands_of.result; is = c.in_ok-push_present.ensures; normal = c.bands_of.ensures.normal; formed = c.bands_of.ensures.well_formed }
