use Rattle.std.proofs.Common.{Option, List, ap, Bor}
use Rattle.std.specs.Prelude.{option_map}
use Rattle.itpg_base.specs.declared.object_number.ObjNo.{ObjNo}
use Rattle.itpg_graph.proofs.GraphParts.{seen_standing}
use Rattle.itpg_graph.proofs.part.Part.standing.Goals as goal

pub returns-in-Some : goal.returns-in-Some
returns-in-Some c =
    let is = ap (λ (l : Option (Bor (List ObjNo))). option_map (λ o. o.now) l) c.in-Some.is in
    let told = seen_standing c.self.inside.graph.now c.args.self.now (option_map (λ o. o.now) c.self.inside.listed) c.in-Some.objects.now c.args.o.0 is c.self.view_is c.self.invariant in
    ((λ h. told.0 (c.has.ensures.0 h)), (λ h. c.has.ensures.1 (told.1 h)))
