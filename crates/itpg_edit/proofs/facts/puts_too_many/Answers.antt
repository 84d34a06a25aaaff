use Rattle.std.proofs.Common.{◌<◌, inl, inr, length, refl, arith, true≢false}
use Rattle.std.proofs.lemmas.Grind.{common_steps}
use Rattle.itpg_base.specs.declared.limits.TheConstants.{MAX_PROPERTIES}
use Rattle.itpg_base.proofs.Objects.{there, here}
use Rattle.itpg_edit.proofs.Families.{puts_many, puts_few, puts_first, has_property}
use Rattle.itpg_edit.proofs.facts.puts_too_many.Goals as goal

pub returns-in-Some-clause-few : goal.returns-in-Some-clause-few
returns-in-Some-clause-few c = λ is. (
  puts_few c.args.graph.now c.args.site.now.object.0 c.args.prop.now c.in-Some.values.now c.args.site.now.span c.in-Some.ensures.some c.args.value.now c.puts_beyond.result c.puts_beyond.ensures is,
  inl (has_property c.args.graph.now c.args.site.now.object.0 c.args.prop.now c.in-Some.values.now c.args.site.now.span c.in-Some.ensures.some (λ never. absurd (true≢false (c.in-Some.ensures.none.1 never)))),
)

pub returns-in-Some-clause-many : goal.returns-in-Some-clause-many
returns-in-Some-clause-many c = λ is.
    inl (puts_many c.args.graph.now c.args.site.now.object.0 c.args.prop.now c.in-Some.values.now c.args.site.now.span c.in-Some.ensures.some c.args.value.now c.puts_beyond.result c.puts_beyond.ensures is)

pub returns-in-None-clause-few : goal.returns-in-None-clause-few
returns-in-None-clause-few c = λ is.
    let none = c.in-None.ensures.none.0 refl in
    let t = there c.args.graph.now.objects c.args.site.now.object.0 _ c.prop_count.ensures.count in
    let count = t.2 in (
      puts_first c.args.graph.now c.args.site.now.object.0 c.args.prop.now c.args.site.now.span none c.args.value.now c.requires.span,
      inr (here c.args.graph.now.objects c.args.site.now.object.0 (λ x. length x.properties < MAX_PROPERTIES) t.0 t.1 (grind (arith, common_steps))),
    )
