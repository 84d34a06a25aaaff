use Rattle.std.proofs.Common.{Option, List, ap, subst, Bor}
use Rattle.std.specs.Prelude.{option_map, IfOk, IfSome}
use Rattle.itpg_base.specs.declared.object_number.ObjNo.{ObjNo}
use Rattle.itpg_graph.specs.Edges.{AreNumbers}
use Rattle.itpg_graph.specs.GraphParts.{ArePart}
use Rattle.itpg_graph.specs.WithLabel.{StandsWith}
use Rattle.itpg_graph.proofs.GraphParts.{listed_alike, listed_good}
use Rattle.itpg_graph.proofs.part.Part.objects_of.Goals as goal

pub those_with-requires : goal.those_with-requires
those_with-requires c =
    let is = ap (λ (l : Option (Bor (List ObjNo))). option_map (λ o. o.now) l) c.in-Some.is in
    subst (λ l. IfSome l (ArePart c.self.inside.graph.now)) is c.self.invariant

pub returns-in-Some-clause-numbers : goal.returns-in-Some-clause-numbers
returns-in-Some-clause-numbers c =
    let is = ap (λ (l : Option (Bor (List ObjNo))). option_map (λ o. o.now) l) c.in-Some.is in
    subst (λ p. IfOk c.those_with.result (λ objects. AreNumbers (StandsWith p c.args.label.now) objects.items)) (listed_alike c.self.inside.graph.now c.args.self.now _ c.in-Some.objects.now is c.self.view_is) c.those_with.ensures

pub returns-in-Some-clause-good : goal.returns-in-Some-clause-good
returns-in-Some-clause-good c =
    let is = ap (λ (l : Option (Bor (List ObjNo))). option_map (λ o. o.now) l) c.in-Some.is in
    listed_good c.self.inside.graph.now c.args.self.now (option_map (λ o. o.now) c.self.inside.listed) c.in-Some.objects.now is c.self.view_is c.self.invariant
