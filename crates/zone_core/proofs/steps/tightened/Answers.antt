use Rattle.std.proofs.Common.{rules}
use Rattle.zone_core.proofs.Pairs.{bounds_ext}
use Rattle.zone_core.proofs.ReadBack.{
  moment-difference,
  difference_fits,
  max_difference_back,
  min_difference_back,
  max_sum_back,
  min_sum_back,
}
use Rattle.zone_core.proofs.Tighten.{can_meet, tightened-meets, tightened-meets_back, tightened-near, tightened-tight}
use Rattle.zone_core.proofs.steps.tightened.Goals as goal

pub overflow_sub-k-3 : goal.overflow_sub-k-3
overflow_sub-k-3 c = difference_fits _ _ (moment-difference _ c.requires.c) (moment-difference _ c.requires.b)

pub overflow_sub-k-4 : goal.overflow_sub-k-4
overflow_sub-k-4 c = difference_fits _ _ (moment-difference _ c.requires.d) (moment-difference _ c.requires.a)

pub returns : goal.returns
returns c =
    let k = c.args.k in
    let a = moment-difference _ c.requires.a in
    let b = moment-difference _ c.requires.b in
    let low = moment-difference _ c.requires.c in
    let high = moment-difference _ c.requires.d in
    let least = c.requires.e in
    let most = c.requires.f in
    rw (bounds_ext
    (max_difference_back k.a k.c k.f c.max.result a low most (search rules) c.max.ensures.value)
    (min_difference_back k.b k.d k.e c.min.result b high least (search rules) c.min.ensures.value)
    (max_sum_back k.c k.a k.e c.max-2.result low a least (search rules) c.max-2.ensures.value)
    (min_sum_back k.d k.b k.f c.min-2.result high b most (search rules) c.min-2.ensures.value)
    (max_difference_back k.e k.c k.b c.max-3.result least low b (search rules) c.max-3.ensures.value)
    (min_difference_back k.f k.d k.a c.min-3.result most high a (search rules) c.min-3.ensures.value))
    (record {
      pairs = λ t u. (tightened-meets_back k t u, tightened-meets k t u);
      tight = λ order. tightened-tight k (can_meet k order);
      near = λ order. tightened-near k c.requires (can_meet k order);
    })
