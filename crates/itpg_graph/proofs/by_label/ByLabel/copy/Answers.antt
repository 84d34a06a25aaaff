use Rattle.std.specs.Cmp.Lexicographic.{pointwise}
use Rattle.std.specs.Prelude.{nat_eq}
use Rattle.itpg_graph.proofs.Copied.{list_alike}
use Rattle.itpg_graph.proofs.by_label.ByLabel.copy.Goals as goal

pub returns : goal.returns
returns c = λ label. list_alike (pointwise nat_eq label) c.args.self.now.lists.entries c.in_ok-lists.lists.entries c.in_ok-lists.ensures.cases
