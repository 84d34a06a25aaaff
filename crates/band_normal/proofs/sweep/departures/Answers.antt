use Rattle.std.proofs.Common.{◌≡◌, ◌≤ℤ◌, ℤ, sym, subst, List, [], ◌∷◌, inl, inr, ap, SFits, w64, to_z, of_z, to_z-of_z, arith, Some}
use Rattle.std.specs.Prelude.{slice_get}
use Rattle.std.proofs.lemmas.Int.{ints}
use Rattle.zone_core.specs.Zone.{Within, moment_reach}
use Rattle.band_normal.specs.declared.band.Band.{Band}
use Rattle.itpg_base.specs.Lists.{Among, Ordered}
use Rattle.band_normal.specs.Strips.{BeginsEarlier}
use Rattle.band_normal.proofs.LineLemmas.{first_in}
use Rattle.band_normal.proofs.sweep.departures.Goals as goal

first_from : (bands : List Band) (x : Band) → Some x ≡ slice_get bands 0 → Ordered BeginsEarlier bands → (b : Band) → Among bands b → x.from ≤ℤ b.from
first_from [] x e o b i = absurd i
first_from (y ∷ ys) x e o b (inl same) =
    let is : x ≡ b = cc in
    let from : x.from ≡ b.from = ap (λ (v : Band). v.from) is in
    omega (arith, ints)
first_from (y ∷ ys) x e o b (inr i) =
    let is : x ≡ y = cc in
    let from : x.from ≡ y.from = ap (λ (v : Band). v.from) is in
    let later = o.0 b i in
    omega (arith, ints)

pub returns-clause-some : goal.returns-clause-some
returns-clause-some c =
    let w = c.requires.well_formed c.in_ok-first.first.now (first_in c.args.bands.now c.in_ok-first.first.now c.in_ok-first.ensures.value) in
    let near = w.from in
    let fits : SFits w64 c.in_ok-first.first.now.from = omega (arith, ints) in
    let last = w.to in let span = w.span in
    let end_near = c.last_departure.ensures.near in
    let end_fits : SFits w64 c.last_departure.result = omega (arith, ints) in
    let end = c.last_departure.ensures.other in
    let e : to_z w64 (of_z w64 c.last_departure.result) ≡ c.last_departure.result = to_z-of_z end_fits in
    record {
      span = simp to_z-of_z (omega (arith, ints));
      from_near = simp to_z-of_z near;
      to_near = subst (λ (v : ℤ). Within moment_reach v) (sym e) end_near;
      from = λ b i. let a = first_from c.args.bands.now c.in_ok-first.first.now c.in_ok-first.ensures.value c.requires.order b i in omega (arith, ints);
      to = λ b i. let a = c.last_departure.ensures.all b i in omega (arith, ints);
    }
