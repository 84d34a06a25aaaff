use Rattle.std.proofs.Common.{◌≡◌, ◌<◌, length, Some, refl, subst}
use Rattle.std.proofs.lemmas.List.{length-map}
use Rattle.std.specs.Prelude.{slice_get}
use Rattle.std.proofs.lemmas.Option.{slice_get_read}
use Rattle.itpg_graph.specs.Links.{list_of}
use Rattle.itpg_graph.proofs.Losing.{loses_number}
use Rattle.itpg_graph.proofs.links.Links.remove.Goals as goal

pub returns : goal.returns
returns c =
    let lists = c.args.self.now.lists.items in
    let within : c.args.o.0 < length lists = subst (λ n. c.args.o.0 < n) (length-map lists list_of) c.requires in
    let at : slice_get lists c.args.o.0 ≡ Some c.index_mut.result.now = slice_get_read lists (length lists) c.args.o.0 c.index_mut.result.now refl within c.index_mut.ensures.value in
    loses_number lists c.args.o.0 c.args.edge.0 c.index_mut.result.now c.take_out.new.list at c.take_out.ensures
