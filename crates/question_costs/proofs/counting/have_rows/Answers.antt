use Rattle.std.proofs.Common.{Bool, rules, tests, sym, ◌∙◌}
use Rattle.std.proofs.lemmas.Iterator.{YieldsList-from_slice}
use Rattle.std.proofs.lemmas.Iterator.Search.{all_from_yields_List}
use Rattle.std.proofs.lemmas.List.Folds.{list_all-map}
use Rattle.plan_cache.specs.declared.operations.PlanNo.{PlanNo}
use Rattle.question_costs.specs.Counts.{has_rows_at, counts_of}
use Rattle.question_costs.proofs.counting.have_rows.Goals as goal

pub returns : goal.returns
returns c =
    let counts = counts_of c.args.members.now in
    let test : PlanNo → Bool = λ no. has_rows_at counts no.0 in
    all_from_yields_List test _ _ c.all.result c.all.ensures.ran (YieldsList-from_slice c.args.nodes.now cc) (λ x b q k. search (rules, tests)) ∙ sym (list_all-map (has_rows_at counts) (λ (no : PlanNo). no.0) c.args.nodes.now)
