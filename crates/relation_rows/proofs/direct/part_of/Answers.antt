use Rattle.std.proofs.Common.{◌≡◌, ◌∙◌, ap, arith, SFits, w64, to_z-of_z, rules}
use Rattle.std.proofs.lemmas.Int.{ints}
use Rattle.band_normal.specs.Bands.{end_at}
use Rattle.relation_rows.proofs.BandWays.{many_lone, one_lone, one_pairs}
use Rattle.relation_rows.proofs.direct.part_of.Goals as goal

pub returns-then-from-to-clause-lone : goal.returns-then-from-to-clause-lone
returns-then-from-to-clause-lone c =
    let lt = c.if-from-to.true in
    rw (to_z-of_z c.ranges.from, to_z-of_z c.ranges.to)
    (many_lone c.args.band.now c.requires.band c.args.from c.args.to c.requires.begins c.requires.some c.requires.ends (omega (arith, ints, lt)))

pub at-requires : goal.at-requires
at-requires c =
    let some = c.requires.some in
    let ends = c.requires.ends in
    let near = (c.requires.band).formed.low c.args.from c.requires.begins (omega (arith, ints, some, ends)) in
    let fits : SFits w64 (end_at c.args.band.now.low c.args.from) = omega (arith, ints) in
    simp (to_z-of_z, c.ranges.from) fits

pub at-requires-2 : goal.at-requires-2
at-requires-2 c =
    let some = c.requires.some in
    let ends = c.requires.ends in
    let near = (c.requires.band).formed.high c.args.from c.requires.begins (omega (arith, ints, some, ends)) in
    let fits : SFits w64 (end_at c.args.band.now.high c.args.from) = omega (arith, ints) in
    simp (to_z-of_z, c.ranges.from) fits

pub returns-clause-lone : goal.returns-clause-lone
returns-clause-lone c =
    let first : SFits w64 c.at.result = search rules in
    let last : SFits w64 c.at-2.result = search rules in
    let low : c.at.result ≡ end_at c.args.band.now.low c.args.from = c.at.ensures ∙ ap (end_at c.args.band.now.low) (to_z-of_z c.ranges.from) in
    let high : c.at-2.result ≡ end_at c.args.band.now.high c.args.from = c.at-2.ensures ∙ ap (end_at c.args.band.now.high) (to_z-of_z c.ranges.from) in
    let le = c.if-from-to.false in
    rw (to_z-of_z c.ranges.from, to_z-of_z c.ranges.to, to_z-of_z first, to_z-of_z last)
    (one_lone c.args.band.now c.requires.band c.args.from c.args.to c.requires.begins c.requires.some c.requires.ends c.at.result c.at-2.result low high (omega (arith, ints, le)))

pub returns-clause-pairs : goal.returns-clause-pairs
returns-clause-pairs c =
    let first : SFits w64 c.at.result = search rules in
    let last : SFits w64 c.at-2.result = search rules in
    let low : c.at.result ≡ end_at c.args.band.now.low c.args.from = c.at.ensures ∙ ap (end_at c.args.band.now.low) (to_z-of_z c.ranges.from) in
    let high : c.at-2.result ≡ end_at c.args.band.now.high c.args.from = c.at-2.ensures ∙ ap (end_at c.args.band.now.high) (to_z-of_z c.ranges.from) in
    let le = c.if-from-to.false in
    rw (to_z-of_z c.ranges.from, to_z-of_z c.ranges.to, to_z-of_z first, to_z-of_z last)
    (one_pairs c.args.band.now c.requires.band c.args.from c.args.to c.requires.begins c.requires.some c.requires.ends c.at.result c.at-2.result low high (omega (arith, ints, le)))
