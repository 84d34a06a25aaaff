use Rattle.std.proofs.Common.{rules, of_calls, sym, subst, Option}
use Rattle.std.specs.Prelude.{IfSome, IsNone}
use Rattle.itpg_base.specs.declared.object_number.ObjNo.{ObjNo}
use Rattle.itpg_graph.specs.GraphParts.{IsNextNumber}
use Rattle.std.proofs.lemmas.List.Sorted.{IsPartitionPoint-from_clause}
use Rattle.itpg_graph.proofs.NextNumbers.{is_below, below_partitioned, next_told, none_told}
use Rattle.itpg_graph.proofs.part.next_of.Goals as goal

pub returns-clause-next : goal.returns-clause-next
returns-clause-next c =
    let point = IsPartitionPoint-from_clause (is_below c.args.from) _ _ c.partition_point-place.ensures.partitioned (below_partitioned c.args.objects.now c.args.from c.requires) (λ a r f k. search (rules, of_calls)) in
    subst (λ (found : Option ObjNo). IfSome found (λ o. IsNextNumber c.args.objects.now c.args.from o.0)) (sym c.copied.ensures)
    (next_told c.args.objects.now c.args.from c.requires c.partition_point-place.result point c.get.result c.get.ensures.lookup.0 c.get.ensures.lookup.1)

pub returns-clause-none : goal.returns-clause-none
returns-clause-none c none =
    let point = IsPartitionPoint-from_clause (is_below c.args.from) _ _ c.partition_point-place.ensures.partitioned (below_partitioned c.args.objects.now c.args.from c.requires) (λ a r f k. search (rules, of_calls)) in
    none_told c.args.objects.now c.args.from c.requires c.partition_point-place.result point c.get.result c.get.ensures.lookup.0 (subst IsNone c.copied.ensures none)
