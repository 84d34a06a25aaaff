use Rattle.relation_rows.proofs.Joining.{fresh_each, fresh_there}
use Rattle.relation_rows.proofs.beyond.fresh_ways.Goals as goal

pub returns-clause-there : goal.returns-clause-there
returns-clause-there c =
    fresh_there c.args.all.now c.args.rows.now c.args.second.now c.in_ok-sorted.sorted.items c.deref.result.now c.in_ok-space.space.items c.in_ok-ways.ways.items c.deref-2.result.now
    c.in_ok-fresh.fresh.items c.sort_unstable_by_key.new.self.items c.in_ok-space.ensures.items c.deref.ensures.value c.in_ok-sorted.ensures c.in_ok-ways.ensures c.deref-2.ensures.value
    c.in_ok-fresh.ensures.there c.in_ok-fresh.ensures.each c.sort_unstable_by_key.ensures.permutation

pub returns-clause-each : goal.returns-clause-each
returns-clause-each c =
    fresh_each c.args.all.now c.args.rows.now c.args.second.now c.in_ok-sorted.sorted.items c.deref.result.now c.in_ok-space.space.items c.in_ok-ways.ways.items c.deref-2.result.now
    c.in_ok-fresh.fresh.items c.sort_unstable_by_key.new.self.items c.in_ok-space.ensures.items c.deref.ensures.value c.in_ok-sorted.ensures c.in_ok-ways.ensures c.deref-2.ensures.value
    c.in_ok-fresh.ensures.there c.in_ok-fresh.ensures.each c.sort_unstable_by_key.ensures.permutation
