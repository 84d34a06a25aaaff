use Rattle.std.proofs.Common.{◌≡◌, ◌∙◌, ap, sym, SFits, w64, to_z, to_z-of_z, rules}
use Rattle.std.proofs.lemmas.Bool.Decides.{Decides-eqb}
use Rattle.relation_rows.proofs.BandWays.{once_rests}
use Rattle.relation_rows.proofs.direct.rests_once.Goals as goal

pub returns-then-first_arrival-band : goal.returns-then-first_arrival-band
returns-then-first_arrival-band c = λ e.
    let from : SFits w64 c.args.band.now.from = search rules in
    let to : SFits w64 c.args.band.now.to = search rules in
    let first : SFits w64 c.first_arrival.result = search rules in
    let last : SFits w64 c.last_arrival.result = search rules in
    let one : c.args.band.now.from ≡ c.args.band.now.to = sym (to_z-of_z from) ∙ ap (to_z w64) c.if-band.false ∙ to_z-of_z to in
    let low : c.first_arrival.result ≡ c.args.band.now.from = sym (to_z-of_z first) ∙ ap (to_z w64) c.if-first_arrival-band.true ∙ to_z-of_z from in
    let high : c.last_arrival.result ≡ c.args.band.now.to = sym (to_z-of_z last) ∙ ap (to_z w64) ((Decides-eqb _ _).0 e) ∙ to_z-of_z to in
    once_rests c.args.band.now one (sym c.first_arrival.ensures ∙ low) (sym c.last_arrival.ensures ∙ high)
