use Rattle.std.proofs.Common.{Option, List, ap, Bor}
use Rattle.std.specs.Prelude.{option_map}
use Rattle.std.proofs.lemmas.Option.{IfSome_then}
use Rattle.itpg_base.specs.declared.object_number.ObjNo.{ObjNo}
use Rattle.itpg_graph.proofs.GraphParts.{next_seen, none_seen, listed_good, seen_good}
use Rattle.itpg_graph.proofs.part.Part.next_standing.Goals as goal

pub returns-in-Some-clause-next : goal.returns-in-Some-clause-next
returns-in-Some-clause-next c =
    let is = ap (λ (l : Option (Bor (List ObjNo))). option_map (λ o. o.now) l) c.in-Some.is in
    IfSome_then c.next_of.result c.next_of.ensures.next
    (λ o next. next_seen c.self.inside.graph.now c.args.self.now (option_map (λ o. o.now) c.self.inside.listed) c.in-Some.objects.now c.args.from o.0 is c.self.view_is c.self.invariant next)

pub returns-in-Some-clause-none : goal.returns-in-Some-clause-none
returns-in-Some-clause-none c none =
    let is = ap (λ (l : Option (Bor (List ObjNo))). option_map (λ o. o.now) l) c.in-Some.is in
    none_seen c.self.inside.graph.now c.args.self.now (option_map (λ o. o.now) c.self.inside.listed) c.in-Some.objects.now c.args.from is c.self.view_is c.self.invariant (c.next_of.ensures.none none)

pub returns-in-Some-clause-good : goal.returns-in-Some-clause-good
returns-in-Some-clause-good c =
    let is = ap (λ (l : Option (Bor (List ObjNo))). option_map (λ o. o.now) l) c.in-Some.is in
    listed_good c.self.inside.graph.now c.args.self.now (option_map (λ o. o.now) c.self.inside.listed) c.in-Some.objects.now is c.self.view_is c.self.invariant

pub returns-in-None-clause-good : goal.returns-in-None-clause-good
returns-in-None-clause-good c = seen_good c.self.inside.graph.now c.args.self.now (option_map (λ o. o.now) c.self.inside.listed) c.self.view_is c.self.invariant c.next_standing.ensures.good
