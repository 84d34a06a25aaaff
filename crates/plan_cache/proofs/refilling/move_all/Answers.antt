use Rattle.std.proofs.Common.{ℕ, ◌<◌, None, length, slice_set, refl, ap, ◌∙◌, arith}
use Rattle.plan_cache.specs.Former.{kept_at}
use Rattle.plan_cache.proofs.Forgetting.{length_set}
use Rattle.plan_cache.proofs.Moved.{moving_first, moving_next, number_got}
use Rattle.plan_cache.proofs.refilling.move_all.Goals as goal

pub loop-place-init : goal.loop-place-init
loop-place-init c = record {
  moving = moving_first c.args.former.now c.args.from.now.kept c.args.to.now.kept c.requires.free c.requires.room;
  feet = refl;
  each = refl;
}

pub loop-place-preserved : goal.loop-place-preserved
loop-place-preserved c =
    let test = c.loop-place-test.true in
    let each = c.loop-place.invariant.each in
    let places = c.requires.places in
    let long : c.loop-place.place < length c.args.former.now = omega arith in
    let within : c.loop-place.place < length c.loop-place.to.kept = omega arith in
    let number = number_got c.args.former.now c.loop-place.place _ long in
    let taken = c.move_kept.ensures.taken ∙ ap (λ (w : ℕ). slice_set c.loop-place.from.kept w None) number in
    let kept = c.move_kept.ensures.kept ∙ ap (λ (w : ℕ). slice_set c.loop-place.to.kept c.loop-place.place (kept_at c.loop-place.from.kept w)) number in
    record {
      moving = moving_next c.loop-place.place c.args.former.now c.args.from.now.kept c.loop-place.from.kept c.loop-place.to.kept c.loop-place.invariant.moving within long c.requires.apart
          c.move_kept.new.from.kept c.move_kept.new.to.kept taken kept;
      feet = c.move_kept.ensures.feet ∙ c.loop-place.invariant.feet;
      each = ap length kept ∙ length_set c.loop-place.to.kept c.loop-place.place _ ∙ c.loop-place.invariant.each;
    }
