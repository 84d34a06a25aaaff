use Rattle.std.proofs.Common.{sym, subst}
use Rattle.relation_rows.specs.Relations.{Rise}
use Rattle.condition_eval.specs.Tested.{Stand}
use Rattle.path_eval.proofs.Wider.{first_of_both, second_of_both}
use Rattle.path_eval.proofs.WithinBoth.{both_of}
use Rattle.path_eval.proofs.within_both.objects_within_both.Goals as goal

pub those_within-requires-clause-rise : goal.those_within-requires-clause-rise
those_within-requires-clause-rise c = let are = c.in_ok-sources.ensures.within in subst Rise (sym c.deref.ensures.value) are.rise

pub those_within-requires-clause-stand : goal.those_within-requires-clause-stand
those_within-requires-clause-stand c = let are = c.in_ok-sources.ensures.within in subst (Stand c.args.ground.now.graph.now) (sym c.deref.ensures.value) are.stand

pub returns-clause-within : goal.returns-clause-within
returns-clause-within c = both_of c.args.a.now c.args.b.now c.args.ground.now.graph.now c.in_ok-sources.sources.items c.deref.result.now c.in_ok-both.both.items c.in_ok-sources.ensures.within c.deref.ensures.value c.in_ok-both.ensures

pub returns-then-covers-clause-within : goal.returns-then-covers-clause-within
returns-then-covers-clause-within c = first_of_both c.args.a.now c.args.b.now c.args.ground.now.graph.now c.in_ok-of_a.of_a.items (c.covers.ensures c.if-covers.true) c.in_ok-of_a.ensures.within

pub returns-then-covers-2-clause-within : goal.returns-then-covers-2-clause-within
returns-then-covers-2-clause-within c = second_of_both c.args.a.now c.args.b.now c.args.ground.now.graph.now c.in_ok-of_b.of_b.items (c.covers-2.ensures c.if-covers-2.true) c.in_ok-of_b.ensures.within
