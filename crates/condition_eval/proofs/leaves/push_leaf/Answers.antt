use Rattle.std.proofs.Common.{List, sym, subst}
use Rattle.std.specs.Prelude.{OnOk}
use Rattle.itpg_base.specs.Spans.{Span, Covers}
use Rattle.path_ast.specs.Terms.{DoesExist, leaf_term}
use Rattle.path_ast.specs.declared.ast.Leaf.{Leaf}
use Rattle.condition_eval.specs.Tested.{HoldsAt}
use Rattle.condition_eval.specs.Walking.{HasRuns}
use Rattle.condition_eval.proofs.Marked.{point}
use Rattle.condition_eval.proofs.Points.{point_runs, life_same, on_ok}
use Rattle.condition_eval.proofs.leaves.push_leaf.Goals as goal

pub returns-in-Exists : goal.returns-in-Exists
returns-in-Exists c =
    let g = c.args.graph.now in
    let o = c.args.object in
    let same = life_same g o.0 c.live.result.now c.live.ensures.family in
    subst (λ (v : Leaf). OnOk c.push_spans.result (HasRuns c.args.object (λ t. HoldsAt (leaf_term v) c.args.graph.now (point c.args.object t)) c.args.rows.now.items c.push_spans.new.rows.items)) (sym c.in-Exists.is)
    (on_ok _ _ c.push_spans.result
    (λ h. point_runs g o DoesExist (Covers c.live.result.now) same (λ t k. c.requires.good.inside o.0 t ((same t).0 k)) _ _ (subst (λ (v : List Span). HasRuns c.args.object (Covers v) c.args.rows.now.items c.push_spans.new.rows.items) c.spans.ensures.value h))
    c.push_spans.ensures)
