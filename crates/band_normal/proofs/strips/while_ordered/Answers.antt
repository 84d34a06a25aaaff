use Rattle.std.proofs.Common.{◌≡◌, ◌≤ℤ◌, ◌+ℤ◌, ◌-ℤ◌, SFits, w64, to_z, of_z, arith, subst, sym, ℤ}
use Rattle.std.proofs.lemmas.Int.{ints}
use Rattle.band_normal.specs.declared.band.End.{End}
use Rattle.zone_core.specs.Zone.{Within, moment_reach}
use Rattle.band_normal.specs.declared.band.End.TheVariants.{Fixed, Moving}
use Rattle.band_normal.specs.Bands.{end_at}
use Rattle.band_normal.specs.Strips.{StayOrdered}
use Rattle.band_normal.proofs.Stretches.{moving_until}
use Rattle.band_normal.proofs.strips.while_ordered.Goals as goal

-- what is known where x moves and y stays
record Meeting (from k n slack : ℤ) : Type 0 where
  near : Within moment_reach from
  x_near : Within moment_reach (from +ℤ k)
  y_near : Within moment_reach n
  slack_near : Within 2 slack
  ordered : (from +ℤ k) ≤ℤ (n +ℤ slack)

meeting : (x y : End) (from k n slack : ℤ) → x ≡ Moving k → y ≡ Fixed n → Within moment_reach from → Within moment_reach (end_at x from) → Within moment_reach (end_at y from) → Within 2 slack
    → end_at x from ≤ℤ (end_at y from +ℤ slack) → Meeting from k n slack
meeting x y from k n slack ex ey near xn yn sn h = record {
  near = near;
  x_near = subst (λ (v : End). Within moment_reach (end_at v from)) ex xn;
  y_near = subst (λ (v : End). Within moment_reach (end_at v from)) ey yn;
  slack_near = sn;
  ordered = subst (λ (v : End). end_at v from ≤ℤ (n +ℤ slack)) ex (subst (λ (v : End). end_at x from ≤ℤ (end_at v from +ℤ slack)) ey h);
}

sum_fits : (from k n slack : ℤ) → Meeting from k n slack → SFits w64 n × SFits w64 slack × SFits w64 k × SFits w64 (n +ℤ slack) × SFits w64 ((n +ℤ slack) -ℤ k)
sum_fits from k n slack m = (omega (arith, ints), omega (arith, ints), omega (arith, ints), omega (arith, ints), omega (arith, ints))

read_back : (from k n slack : ℤ) → Meeting from k n slack → to_z w64 (of_z w64 (to_z w64 (of_z w64 n) +ℤ to_z w64 (of_z w64 slack))) -ℤ to_z w64 (of_z w64 k) ≡ (n +ℤ slack) -ℤ k
read_back from k n slack m =
    let f = sum_fits from k n slack m in
    let a = f.0 in let b = f.1 in let c = f.2 in let d = f.3 in
    omega (arith, ints)

pub overflow_sub-n : goal.overflow_sub-n
overflow_sub-n c =
    let m = meeting c.args.x c.args.y c.args.along.from c.in-Moving.k c.in-Fixed-y.n c.args.slack c.in-Moving.is c.in-Fixed-y.is c.requires.from_near c.requires.x_near c.requires.y_near c.requires.slack c.requires.ordered in
    let f = sum_fits _ _ _ _ m in
    rw (read_back _ _ _ _ m) f.4

pub cut_to-requires-clause-after : goal.cut_to-requires-clause-after
cut_to-requires-clause-after c =
    let m = meeting c.args.x c.args.y c.args.along.from c.in-Moving.k c.in-Fixed-y.n c.args.slack c.in-Moving.is c.in-Fixed-y.is c.requires.from_near c.requires.x_near c.requires.y_near c.requires.slack c.requires.ordered in
    let f = sum_fits _ _ _ _ m in
    let fits = f.4 in let h = m.ordered in
    rw (read_back _ _ _ _ m) (omega (arith, ints))

pub returns-in-Fixed-y-clause-ordered : goal.returns-in-Fixed-y-clause-ordered
returns-in-Fixed-y-clause-ordered c =
    let m = meeting c.args.x c.args.y c.args.along.from c.in-Moving.k c.in-Fixed-y.n c.args.slack c.in-Moving.is c.in-Fixed-y.is c.requires.from_near c.requires.x_near c.requires.y_near c.requires.slack c.requires.ordered in
    let f = sum_fits _ _ _ _ m in
    let fits = f.4 in
    let last = rw (read_back _ _ _ _ m) at c.cut_to.ensures.last in
    let P : End → Type 0 = λ v. StayOrdered v c.args.y c.args.slack c.cut_to.result in
    let Q : End → Type 0 = λ v. StayOrdered (Moving c.in-Moving.k) v c.args.slack c.cut_to.result in
    subst P (sym c.in-Moving.is) (subst Q (sym c.in-Fixed-y.is) (moving_until c.in-Moving.k c.in-Fixed-y.n c.args.slack c.cut_to.result (omega (arith, ints))))
