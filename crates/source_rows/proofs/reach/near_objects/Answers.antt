use Rattle.std.specs.Global.{Global}
use Rattle.std.specs.declared.vec.Vec.{Vec}
use Rattle.std.proofs.lemmas.Result.{IfOk-weaker}
use Rattle.itpg_base.specs.declared.object_number.ObjNo.{ObjNo}
use Rattle.itpg_graph.specs.Edges.{AreNumbers}
use Rattle.source_rows.specs.Reach.{Reach}
use Rattle.source_rows.specs.Found.{IsSeen}
use Rattle.itpg_graph.specs.GraphParts.{ArePart}
use Rattle.source_rows.proofs.Parts.{near_part}
use Rattle.source_rows.proofs.Finding.{found_near, found_stands}
use Rattle.source_rows.proofs.reach.near_objects.Goals as goal

pub add_ends-requires : goal.add_ends-requires
add_ends-requires c = record {
  stand = found_stands c.args.graph.now c.declared-declared.ensures.good c.args.object.0 c.unwrap_or.result c.in_ok-found.found c.requires (c.in_ok-found.ensures);
}

pub returns-clause-reach : goal.returns-clause-reach
returns-clause-reach c =
    IfOk-weaker c.listed.result (λ (objects : Vec ObjNo Global). AreNumbers (IsSeen c.add_ends.new.self) objects.items) (λ (objects : Vec ObjNo Global). AreNumbers (Reach c.args.graph.now c.args.object.0 c.args.steps) objects.items)
    (λ objects are. found_near c.args.graph.now c.declared-declared.ensures.good c.args.object.0 c.unwrap_or.result c.declared-declared.result c.args.steps c.in_ok-found.found c.add_ends.new.self c.requires
    c.unwrap_or.ensures c.declared-declared.ensures.count (c.in_ok-found.ensures) (c.in_ok-add_ends.ensures) objects.items are)
    c.listed.ensures

pub returns-clause-part : goal.returns-clause-part
returns-clause-part c =
    IfOk-weaker c.listed.result (λ (objects : Vec ObjNo Global). AreNumbers (Reach c.args.graph.now c.args.object.0 c.args.steps) objects.items) (λ (objects : Vec ObjNo Global). ArePart c.args.graph.now objects.items)
    (λ objects are. near_part c.args.graph.now c.declared-declared.ensures.good c.args.object.0 c.args.steps objects.items are)
    (returns-clause-reach c)
