use Rattle.std.proofs.Common.{sym, subst, ℤ, pos, List, get_or, ◌≡◌, ◌≤ℤ◌, arith, SFits, w64, to_z, of_z, to_z-of_z}
use Rattle.std.proofs.lemmas.Int.{ints}
use Rattle.std.proofs.lemmas.List.{take_all}
use Rattle.zone_core.specs.Zone.{Within, moment_reach}
use Rattle.itpg_base.specs.Lists.{Among}
use Rattle.band_normal.specs.declared.band.Band.{Band}
use Rattle.band_normal.specs.declared.band.End.TheVariants.{Fixed}
use Rattle.itpg_base.proofs.Lists.{among_at}
use Rattle.band_normal.proofs.PartLemmas.{departs_more}
use Rattle.band_normal.proofs.sweep.last_departure.Goals as goal

-- what a list is read as past its end
abbrev unread : Band
unread = record { from = pos 0; to = pos 0; low = Fixed (pos 0); high = Fixed (pos 0) }

pub later-last-requires-clause-band : goal.later-last-requires-clause-band
later-last-requires-clause-band c = (c.requires.well_formed _ (among_at c.args.bands.now c.loop-band.band-index _ c.loop-band-test.true)).to

pub loop-band-preserved : goal.loop-band-preserved
loop-band-preserved c =
    let near = c.later-last.ensures.near in
    let fits : SFits w64 c.later-last.result = omega (arith, ints) in
    let e : to_z w64 (of_z w64 c.later-last.result) ≡ c.later-last.result = to_z-of_z fits in
    let old = c.later-last.ensures.old in
    let other = c.loop-band.invariant.other in
    let band = c.later-last.ensures.band in
    record {
      near = subst (λ (v : ℤ). Within moment_reach v) (sym e) near;
      other = omega (arith, ints);
      all = departs_more c.args.bands.now c.loop-band.band-index unread (to_z w64 c.loop-band.last-bits) _ c.loop-band-test.true c.loop-band.invariant.all
          (subst (λ (v : ℤ). to_z w64 c.loop-band.last-bits ≤ℤ v) (sym e) old)
          (subst (λ (v : ℤ). (get_or c.args.bands.now c.loop-band.band-index unread).to ≤ℤ v) (sym e) band);
    }

pub returns-clause-near : goal.returns-clause-near
returns-clause-near c = c.loop-band.invariant.near

pub returns-clause-other : goal.returns-clause-other
returns-clause-other c = let other = c.loop-band.invariant.other in let fits = c.ranges.other in omega (arith, ints)

pub returns-clause-all : goal.returns-clause-all
returns-clause-all c = subst (λ (v : List Band). (b : Band) → Among v b → b.to ≤ℤ to_z w64 c.loop-band.last-bits) (take_all c.loop-band.band-index c.args.bands.now c.loop-band-test.false) c.loop-band.invariant.all
