use Rattle.std.proofs.Common.{◌≡◌, ap, SFits, w64, rules, arith}
use Rattle.std.proofs.lemmas.Int.{ints}
use Rattle.band_normal.specs.Bands.{end_at}
use Rattle.band_normal.proofs.joints.alone.Goals as goal

pub returns : goal.returns
returns c =
    let span = c.requires.span in
    let from : SFits w64 c.args.strip.from = search rules in
    let to : SFits w64 c.args.strip.to = search rules in
    let low : SFits w64 c.at_first.result = search rules in
    let high : SFits w64 c.at_first-2.result = search rules in
    let is_low = c.at_first.ensures in
    let is_high = c.at_first-2.ensures in
    record {
      from = omega (arith, ints);
      to = omega (arith, ints);
      low = λ t a b.
          let e : end_at c.args.strip.low c.args.strip.from ≡ end_at c.args.strip.low t = ap (end_at c.args.strip.low) (let here : c.args.strip.from ≡ t = omega (arith, ints) in here) in
          omega (arith, ints);
      high = λ t a b.
          let e : end_at c.args.strip.high c.args.strip.from ≡ end_at c.args.strip.high t = ap (end_at c.args.strip.high) (let here : c.args.strip.from ≡ t = omega (arith, ints) in here) in
          omega (arith, ints);
      single_low = λ e. tt;
      single_high = λ e. tt;
    }
