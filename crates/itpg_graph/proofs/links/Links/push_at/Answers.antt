use Rattle.std.proofs.Common.{◌≡◌, ◌∷◌, ◌++◌, [], ◌∙◌, length, Some, refl, ap}
use Rattle.std.specs.Prelude.{slice_get}
use Rattle.std.proofs.lemmas.Option.{slice_get_read, slice_get_within}
use Rattle.itpg_base.proofs.Objects.{there}
use Rattle.itpg_graph.specs.Links.{list_of}
use Rattle.itpg_graph.proofs.Lists.{map_changed}
use Rattle.itpg_graph.proofs.links.Links.push_at.Goals as goal

pub returns : goal.returns
returns c =
    let lists = c.args.self.now.lists.items in
    let room = there lists c.args.o.0 _ c.requires.room_at in
    let at : slice_get lists c.args.o.0 ≡ Some c.index_mut.result.now = slice_get_read lists (length lists) c.args.o.0 c.index_mut.result.now refl (slice_get_within lists c.args.o.0 room.0 room.1) c.index_mut.ensures.value in
    c.push.ensures ∙ ap (λ ls. ls ++ [] ∷ []) (map_changed list_of lists c.args.o.0 c.index_mut.result.now c.push_reserved.new.self (λ list. list ++ c.args.edge ∷ []) at c.push_reserved.ensures.items)
