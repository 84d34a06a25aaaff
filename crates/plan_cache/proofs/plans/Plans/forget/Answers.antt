use Rattle.std.proofs.Common.{◌∙◌}
use Rattle.plan_cache.proofs.Edited.{forgets_as_many}
use Rattle.plan_cache.proofs.plans.Plans.forget.Goals as goal

pub invariant_of-self : goal.invariant_of-self
invariant_of-self c = record {
  feet = c.forget.ensures.feet ∙ c.self.invariant.feet;
  each = forgets_as_many c.args.touch.now c.self.inside.shelf.feet c.self.inside.shelf.kept c.forget.new.self.kept c.forget.ensures.kept ∙ c.self.invariant.each;
}
