use Rattle.std.proofs.Common.{sym, ◌∙◌}
use Rattle.condition_eval.specs.Tested.{StartsAt}
use Rattle.condition_eval.proofs.Marked.{near_of}
use Rattle.condition_eval.proofs.Points.{near_point}
use Rattle.condition_eval.proofs.Starting.{starts_marked}
use Rattle.condition_eval.proofs.starts.starts_of.Goals as goal

pub of-requires-clause-near : goal.of-requires-clause-near
of-requires-clause-near c =
    near_of c.args.objects.now (StartsAt c.args.rel.now c.args.graph.now) c.in_ok-rows.rows.items (λ x h. near_point c.args.graph.now c.horizon.ensures.good x h.0)
    (starts_marked c.args.graph.now c.unwrap.result (sym c.horizon.ensures.value ∙ c.unwrap.ensures) c.args.objects.now c.requires.stand c.args.rel.now c.in_ok-times.times c.rows.result.now c.in_ok-all.all.items c.deref.result.now c.in_ok-rows.rows.items
    c.in_ok-times.ensures.times c.rows.ensures.value c.in_ok-all.ensures c.deref.ensures.value c.in_ok-rows.ensures)

pub returns : goal.returns
returns c = rw c.of.ensures
    (starts_marked c.args.graph.now c.unwrap.result (sym c.horizon.ensures.value ∙ c.unwrap.ensures) c.args.objects.now c.requires.stand c.args.rel.now c.in_ok-times.times c.rows.result.now c.in_ok-all.all.items c.deref.result.now c.in_ok-rows.rows.items
    c.in_ok-times.ensures.times c.rows.ensures.value c.in_ok-all.ensures c.deref.ensures.value c.in_ok-rows.ensures)
