use Rattle.std.proofs.Common.{◌≡◌, length}
use Rattle.plan_cache.specs.RightRows.{IsTableRight}
use Rattle.question_costs.specs.Counts.{AreTold, HaveChildren, counts_of}
use Rattle.question_costs.proofs.counting.Asking.count_all.Given as goal

abbrev pub invariant-loop-number : goal.invariant-loop-number
invariant-loop-number g l = record {
  nodes : l.plans.nodes ≡ l.initial.plans.nodes;
  right : IsTableRight l.fn.self.graph.now l.fn.self.max_rows l.plans;
  many : length l.members.items ≡ l.number;
  children : HaveChildren l.plans.nodes l.members.items;
  told : AreTold l.fn.self.graph.now l.fn.self.max_rows l.plans.nodes (counts_of l.members.items);
}
