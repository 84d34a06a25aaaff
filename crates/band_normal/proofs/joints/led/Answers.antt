use Rattle.std.proofs.Common.{◌≡◌, ◌+ℤ◌, ◌-ℤ◌, pos, ⊎_elim, SFits, w64, rules, arith}
use Rattle.std.proofs.lemmas.Int.{ints}
use Rattle.band_normal.specs.Bands.{end_at}
use Rattle.band_normal.proofs.joints.led.Goals as goal

pub returns-else-at_first-last-clause-row : goal.returns-else-at_first-last-clause-row
returns-else-at_first-last-clause-row c = λ one.
    let to : SFits w64 c.args.row.to = search rules in
    let last : SFits w64 c.at_last-last.result = search rules in
    let is_last = c.at_last-last.ensures in
    let near = c.requires.near in
    let fits : SFits w64 (c.at_last-last.result -ℤ c.args.row.to) = omega (arith, ints) in
    omega (arith, ints)

pub returns-else-at_first-last-clause-strip : goal.returns-else-at_first-last-clause-strip
returns-else-at_first-last-clause-strip c = λ one.
    let to : SFits w64 c.args.row.to = search rules in
    let last : SFits w64 c.at_last-last.result = search rules in
    let first : SFits w64 c.at_first.result = search rules in
    let is_last = c.at_last-last.ensures in
    let is_first = c.at_first.ensures in
    let near = c.requires.near in
    let fits : SFits w64 (c.at_last-last.result -ℤ c.args.row.to) = omega (arith, ints) in
    let follows = c.requires.follows in
    ⊎_elim (λ (e : end_at c.args.next c.args.strip.from ≡ end_at c.args.end c.args.row.to). omega (arith, ints)) (λ (e : end_at c.args.next c.args.strip.from ≡ end_at c.args.end c.args.row.to +ℤ pos 1). omega (arith, ints)) c.requires.steps
