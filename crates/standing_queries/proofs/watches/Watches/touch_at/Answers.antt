use Rattle.std.proofs.Common.{◌<◌, length, rules}
use Rattle.standing_queries.proofs.Keeping.{within_items, kept_read, touched_there, touched_stored}
use Rattle.standing_queries.proofs.watches.Watches.touch_at.Goals as goal

pub index_mut-requires : goal.index_mut-requires
index_mut-requires c = let within : c.args.i < length c.self.inside.items.items = within_items c.self.inside.queries.items c.self.inside.items.items c.args.self.now c.self.view_is c.self.invariant c.args.i c.requires in search rules

pub invariant_of-self : goal.invariant_of-self
invariant_of-self c =
    let k = c.index_mut.result.now in
    let at = kept_read c.self.inside.queries.items c.self.inside.items.items c.args.self.now c.self.view_is c.self.invariant c.args.i k c.requires c.index_mut.ensures.value in
    touched_stored c.self.inside.queries.items c.self.inside.items.items c.args.self.now c.self.view_is c.self.invariant c.args.i k c.touch.new.self c.args.touch.now c.requires at c.touch.ensures.same c.touch.ensures.gone c.touch.ensures.stays c.touch.ensures.settled

pub returns : goal.returns
returns c =
    let k = c.index_mut.result.now in
    let at = kept_read c.self.inside.queries.items c.self.inside.items.items c.args.self.now c.self.view_is c.self.invariant c.args.i k c.requires c.index_mut.ensures.value in
    touched_there c.self.inside.queries.items c.self.inside.items.items c.args.self.now c.self.view_is c.self.invariant c.args.i k c.touch.new.self c.args.touch.now c.requires at c.touch.ensures.same c.touch.ensures.gone c.touch.ensures.stays
