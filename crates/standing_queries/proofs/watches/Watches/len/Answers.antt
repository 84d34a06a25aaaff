use Rattle.std.proofs.Common.{◌≡◌, length, arith, rules, subst}
use Rattle.standing_queries.specs.Stores.{AreSound}
use Rattle.standing_queries.proofs.Keeping.{as_many}
use Rattle.standing_queries.proofs.watches.Watches.len.Goals as goal

pub returns-clause-count : goal.returns-clause-count
returns-clause-count c =
    let many = as_many c.self.inside.queries.items c.self.inside.items.items c.args.self.now c.self.view_is c.self.invariant in
    let is : c.len.result ≡ length c.self.inside.items.items = search rules in
    omega arith

pub returns-clause-few : goal.returns-clause-few
returns-clause-few c =
    let many = as_many c.self.inside.queries.items c.self.inside.items.items c.args.self.now c.self.view_is c.self.invariant in
    let is : c.len.result ≡ length c.self.inside.items.items = search rules in
    let few = (subst AreSound c.self.view_is (c.self.invariant).sound).few in
    omega arith
