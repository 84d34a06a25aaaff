use Rattle.std.proofs.Common.{sym, subst, ◌∙◌, true≢false, arith}
use Rattle.path_ast.specs.Terms.{path_term}
use Rattle.path_ast.specs.Sizes.{IsPathInRange}
use Rattle.answer_hints.specs.RuledOut.{LeadsOn}
use Rattle.answer_hints.proofs.RowLemmas.{leads_nowhere, leads_on, none_told}
use Rattle.answer_hints.proofs.RelaxedLemmas.{relaxed_fits, relaxed_in_range}
use Rattle.answer_hints.proofs.ruled_out.existence_rules_out.Goals as goal

pub rows_of-requires-2-clause-in_range : goal.rows_of-requires-2-clause-in_range
rows_of-requires-2-clause-in_range c = subst IsPathInRange (sym c.in_ok-free.ensures.path) (relaxed_in_range (path_term c.args.query.now.path) c.requires.in_range)

pub rows_of-requires-2-clause-terms : goal.rows_of-requires-2-clause-terms
rows_of-requires-2-clause-terms c = rw c.in_ok-free.ensures.path (omega (arith, relaxed_fits (path_term c.args.query.now.path), c.requires.terms))

pub returns-clause-certain : goal.returns-clause-certain
returns-clause-certain c told = record {
  nowhere = leads_nowhere c.args.graph.now c.args.max_rows (path_term c.args.query.now.path) c.in_ok-rows.rows c.in_ok-rows.ensures (c.tells_none.ensures.0 c.if-not-tells_none.false);
  free = subst (LeadsOn c.args.graph.now) c.in_ok-free.ensures.path (leads_on c.args.graph.now c.args.max_rows (path_term c.in_ok-free.free.path) c.in_ok-rows-2.rows c.in_ok-rows-2.ensures (c.tells_some.ensures.0 told));
}

pub returns-then-not-tells_none-clause-given : goal.returns-then-not-tells_none-clause-given
returns-then-not-tells_none-clause-given c fits free_fits ruled =
    absurd (true≢false (sym (c.tells_none.ensures.1 (none_told c.args.graph.now c.args.max_rows (path_term c.args.query.now.path) c.in_ok-rows.rows c.in_ok-rows.ensures fits ruled.nowhere)) ∙ c.if-not-tells_none.true))
