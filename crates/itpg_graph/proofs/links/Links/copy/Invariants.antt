use Rattle.std.proofs.Common.{◌≡◌, map, take}
use Rattle.itpg_graph.specs.Links.{list_of}
use Rattle.itpg_graph.proofs.links.Links.copy.Given as goal

abbrev pub invariant-loop-list : goal.invariant-loop-list
invariant-loop-list l = map list_of l.lists.items ≡ map list_of (take l.list-index l.list-items)
