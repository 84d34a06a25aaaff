use Rattle.std.proofs.Common.{◌+◌, ◌-◌, ◌*◌, ◌≤◌, length}
use Rattle.path_ast.specs.declared.counts.TheConstants.{MAX_TERMS}
use Rattle.plan_cache.specs.RightRows.{IsTableRight}
use Rattle.answer_hints.proofs.RepeatedLemmas.{AreTried}
use Rattle.answer_hints.proofs.repeated.first_alike.Given as goal

abbrev pub invariant-loop-times : goal.invariant-loop-times
invariant-loop-times l = record {
  right : IsTableRight l.site.graph.now l.site.max_rows l.plans;
  few : length l.plans.nodes ≤ 2 * MAX_TERMS + (l.times - l.repetition.least) * MAX_TERMS;
  tried : AreTried l.site.graph.now l.site.max_rows l.repetition l.times;
}
