use Rattle.std.proofs.Common.{◌≡◌, ◌∙◌, ◌<◌, ◌+◌, ◌≤◌, length, map, Some, refl, ap, arith}
use Rattle.std.proofs.lemmas.List.{length-map}
use Rattle.std.specs.Prelude.{slice_get, slice_set, vec_len, vec_capacity}
use Rattle.std.proofs.lemmas.Option.{slice_get_read}
use Rattle.std.proofs.lemmas.Result.{on_ok_weaker}
use Rattle.itpg_base.proofs.Objects.{here}
use Rattle.itpg_graph.specs.Links.{list_of}
use Rattle.itpg_graph.proofs.Lists.{map_changed, changed_same, set_there}
use Rattle.itpg_graph.proofs.links.Links.reserve_at.Goals as goal

pub returns-clause-same : goal.returns-clause-same
returns-clause-same c =
    let lists = c.reserve.new.self.items in
    let within : c.args.o.0 < length lists = omega (arith, ap length c.reserve.ensures.items, length-map c.args.self.now.lists.items list_of, c.requires) in
    let at : slice_get lists c.args.o.0 ≡ Some c.index_mut.result.now = slice_get_read lists (length lists) c.args.o.0 c.index_mut.result.now refl within c.index_mut.ensures.value in
    map_changed list_of lists c.args.o.0 c.index_mut.result.now c.reserve-2.new.self (λ list. list) at c.reserve-2.ensures.items ∙ changed_same (map list_of lists) c.args.o.0 ∙ ap (map list_of) c.reserve.ensures.items

pub returns-clause-room_at : goal.returns-clause-room_at
returns-clause-room_at c =
    let lists = c.reserve.new.self.items in
    let within : c.args.o.0 < length lists = omega (arith, ap length c.reserve.ensures.items, length-map c.args.self.now.lists.items list_of, c.requires) in
    let at : slice_get lists c.args.o.0 ≡ Some c.index_mut.result.now = slice_get_read lists (length lists) c.args.o.0 c.index_mut.result.now refl within c.index_mut.ensures.value in
    on_ok_weaker c.reserve-2.result (λ (room : vec_len c.reserve-2.new.self + 1 ≤ vec_capacity c.reserve-2.new.self). here (slice_set lists c.args.o.0 c.reserve-2.new.self) c.args.o.0 _ c.reserve-2.new.self (set_there lists c.args.o.0 c.index_mut.result.now c.reserve-2.new.self at) (omega arith)) c.reserve-2.ensures.ok
