use Rattle.std.proofs.Common.{◌≤◌, [], length, map, take}
use Rattle.path_ast.specs.Terms.{query_term}
use Rattle.plan_cache.specs.Nodes.{AreNodesOf}
use Rattle.plan_cache.specs.Growing.{AddsUnder}
use Rattle.plan_cache.specs.Refilled.{terms_of, members_asked, numbers_of}
use Rattle.plan_cache.proofs.refilling.intern_all.Given as goal

abbrev pub invariant-loop-place : goal.invariant-loop-place
invariant-loop-place l = record {
  numbers : AreNodesOf l.nodes (numbers_of l.numbers.items) (members_asked (take l.place (map query_term l.queries)));
  only : AddsUnder [] l.nodes (numbers_of l.numbers.items);
  few : length l.nodes ≤ terms_of (take l.place (map query_term l.queries));
}
