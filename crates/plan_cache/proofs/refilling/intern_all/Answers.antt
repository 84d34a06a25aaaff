use Rattle.std.proofs.Common.{length, map, arith}
use Rattle.path_ast.specs.Terms.{query_term}
use Rattle.plan_cache.specs.declared.nodes.TheConstants.{MAX_NODES}
use Rattle.plan_cache.proofs.Refilled.{query_got, among_at, room_next, nodes_next, only_next, few_next}
use Rattle.plan_cache.proofs.refilling.intern_all.Goals as goal

pub intern-requires-clause-in_range : goal.intern-requires-clause-in_range
intern-requires-clause-in_range c =
    let test = c.loop-place-test.true in
    let there = query_got c.args.queries.now c.loop-place.place c.index-queries-place.result (omega arith) in
    c.requires.in_range _ (among_at (map query_term c.args.queries.now) c.loop-place.place _ there)

pub intern-requires-clause-room : goal.intern-requires-clause-room
intern-requires-clause-room c =
    let test = c.loop-place-test.true in
    let there = query_got c.args.queries.now c.loop-place.place c.index-queries-place.result (omega arith) in
    room_next (map query_term c.args.queries.now) c.loop-place.place (length c.loop-place.nodes) MAX_NODES _ there c.loop-place.invariant.few c.requires.room

pub loop-place-preserved : goal.loop-place-preserved
loop-place-preserved c =
    let test = c.loop-place-test.true in
    let there = query_got c.args.queries.now c.loop-place.place c.index-queries-place.result (omega arith) in
    record {
      numbers = nodes_next c.loop-place.nodes c.intern.new.self (map query_term c.args.queries.now) c.loop-place.place _ there c.intern.ensures.grows
          c.loop-place.numbers.items c.push.new.self.items c.in_ok-no.no c.in_ok-push.ensures.items c.loop-place.invariant.numbers c.in_ok-no.ensures.node;
      only = only_next c.loop-place.nodes c.intern.new.self (map query_term c.args.queries.now) c.loop-place.place _ there c.intern.ensures.grows
          c.loop-place.numbers.items c.push.new.self.items c.in_ok-no.no c.in_ok-push.ensures.items c.loop-place.invariant.only c.in_ok-no.ensures.only;
      few = few_next c.loop-place.nodes c.intern.new.self (map query_term c.args.queries.now) c.loop-place.place _ there c.intern.ensures.grows
          c.loop-place.numbers.items c.push.new.self.items c.in_ok-no.no c.in_ok-push.ensures.items c.loop-place.invariant.few;
    }
