use Rattle.source_rows.specs.Reach.{Reach}
use Rattle.itpg_graph.specs.Edges.{HasNumber}
use Rattle.itpg_graph.specs.GraphParts.{only_of}
use Rattle.itpg_graph.proofs.GraphParts.{only_is}
use Rattle.source_rows.proofs.Parts.{near_part, only_alike}
use Rattle.source_rows.proofs.laws.law_of_parts.Goals as goal

pub returns-clause-only : goal.returns-clause-only
returns-clause-only c = only_is

pub returns-clause-part : goal.returns-clause-part
returns-clause-part c = λ g o bound objects good are. near_part g good o bound objects are

pub returns-clause-near : goal.returns-clause-near
returns-clause-near c = λ g o bound objects are. only_alike g (only_of g objects) (HasNumber objects) (Reach g o bound) (λ a. (are.only a, are.whole a)) (only_is g objects)
