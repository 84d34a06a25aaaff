use Rattle.std.proofs.Common.{rules}
use Rattle.zone_core.proofs.Pairs.{bounds_ext}
use Rattle.zone_core.proofs.ReadBack.{
  moment-difference,
  difference_fits,
  sum_fits,
  max_difference_back,
  min_difference_back,
  max_sum_back,
  min_sum_back,
}
use Rattle.zone_compose.proofs.MiddleMoment.{
  composed-middle,
  composed-near,
  middle-composed,
  shared-high_near,
  shared-low_near,
}
use Rattle.zone_compose.proofs.Sums.{max_sum_difference_back, min_sum_difference_back}
use Rattle.zone_compose.proofs.composed.Goals as goal

pub overflow_sub-middle : goal.overflow_sub-middle
overflow_sub-middle c =
    difference_fits _ _
    (shared-low_near c.args.x c.args.y _ c.requires.shared c.requires.order c.requires.x_near)
    c.requires.x_near.f

pub overflow_sub-middle-2 : goal.overflow_sub-middle-2
overflow_sub-middle-2 c =
    difference_fits _ _
    (shared-high_near c.args.x c.args.y _ c.requires.shared c.requires.order c.requires.x_near)
    c.requires.x_near.e

pub overflow_add-middle : goal.overflow_add-middle
overflow_add-middle c =
    sum_fits _ _
    (shared-low_near c.args.x c.args.y _ c.requires.shared c.requires.order c.requires.x_near)
    c.requires.y_near.e

pub overflow_add-middle-2 : goal.overflow_add-middle-2
overflow_add-middle-2 c =
    sum_fits _ _
    (shared-high_near c.args.x c.args.y _ c.requires.shared c.requires.order c.requires.x_near)
    c.requires.y_near.f

pub overflow_add-x : goal.overflow_add-x
overflow_add-x c = sum_fits _ _ c.requires.x_near.e c.requires.y_near.e

pub overflow_sub-y : goal.overflow_sub-y
overflow_sub-y c =
    difference_fits _ _ (moment-difference _ c.requires.y_near.c)
    (moment-difference _ c.requires.x_near.b)

pub overflow_add-x-2 : goal.overflow_add-x-2
overflow_add-x-2 c = sum_fits _ _ c.requires.x_near.f c.requires.y_near.f

pub overflow_sub-y-2 : goal.overflow_sub-y-2
overflow_sub-y-2 c =
    difference_fits _ _ (moment-difference _ c.requires.y_near.d)
    (moment-difference _ c.requires.x_near.a)

pub returns : goal.returns
returns c =
    let x = c.args.x in
    let y = c.args.y in
    let m = c.args.middle in
    let x_near = c.requires.x_near in
    let y_near = c.requires.y_near in
    let shared = c.requires.shared in
    let order = c.requires.order in
    let low = shared-low_near x y m shared order x_near in
    let high = shared-high_near x y m shared order x_near in
    let x_a = moment-difference _ x_near.a in
    let x_b = moment-difference _ x_near.b in
    let y_c = moment-difference _ y_near.c in
    let y_d = moment-difference _ y_near.d in
    rw (bounds_ext
    (max_difference_back x.a m.low x.f c.max.result x_a low x_near.f (search rules) c.max.ensures.value)
    (min_difference_back x.b m.high x.e c.min.result x_b high x_near.e (search rules) c.min.ensures.value)
    (max_sum_back y.c m.low y.e c.max-2.result y_c low y_near.e (search rules) c.max-2.ensures.value)
    (min_sum_back y.d m.high y.f c.min-2.result y_d high y_near.f (search rules) c.min-2.ensures.value)
    (max_sum_difference_back x.e y.e y.c x.b c.max-3.result
    x_near.e y_near.e y_c x_b (search rules) c.max-3.ensures.value)
    (min_sum_difference_back x.f y.f y.d x.a c.min-3.result
    x_near.f y_near.f y_d x_a (search rules) c.min-3.ensures.value))
    (record {
      near = composed-near x y m shared order c.requires.x_tight c.requires.y_tight x_near y_near;
      pairs = λ t u. (
        composed-middle x y m shared order c.requires.x_tight c.requires.y_tight t u,
        middle-composed x y m shared c.requires.x_tight c.requires.y_tight t u,
      );
    })
