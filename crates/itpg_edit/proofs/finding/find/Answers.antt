use Rattle.std.proofs.Common.{◌∷◌, [], inl, inr, sym, subst, rules}
use Rattle.itpg_base.specs.declared.rule_code.RuleCode.TheVariants.{NoGraph, Unknown, Backwards, Horizon, Ends, Absent, Held, Full}
use Rattle.itpg_edit.specs.declared.edit.Edit.TheVariants as edits
use Rattle.itpg_edit.specs.Rules.{Breaks, FirstOf, Broken, PlaceBreaks}
use Rattle.itpg_edit.proofs.FirstOf.{first_longer}
use Rattle.itpg_edit.proofs.Checked.{edge_unknown}
use Rattle.itpg_edit.proofs.finding.find.Goals as goal

pub returns-in_err-source-in-AddEdge-clause-broken : goal.returns-in_err-source-in-AddEdge-clause-broken
returns-in_err-source-in-AddEdge-clause-broken c =
    let e = c.in-AddEdge in
    let broken : Broken c.args.graph.now c.args.edit.now c.in_err-source-in-AddEdge.field-0.0 = subst (λ edit. Broken c.args.graph.now edit c.in_err-source-in-AddEdge.field-0.0) (sym e.is)
    (edge_unknown c.args.graph.now e.id c.in_ok-check_new-in-AddEdge.ensures.new e.labels e.source e.target c.in_err-source-in-AddEdge.field-0.0 (inl c.in_err-source-in-AddEdge.ensures.broken)) in
    search rules

pub returns-in_err-target-in-AddEdge-clause-broken : goal.returns-in_err-target-in-AddEdge-clause-broken
returns-in_err-target-in-AddEdge-clause-broken c =
    let e = c.in-AddEdge in
    let broken : Broken c.args.graph.now c.args.edit.now c.in_err-target-in-AddEdge.field-0.0 = subst (λ edit. Broken c.args.graph.now edit c.in_err-target-in-AddEdge.field-0.0) (sym e.is)
    (edge_unknown c.args.graph.now e.id c.in_ok-check_new-in-AddEdge.ensures.new e.labels e.source e.target c.in_err-target-in-AddEdge.field-0.0 (inr c.in_err-target-in-AddEdge.ensures.broken)) in
    search rules

pub returns-in_err-site_of-in-Live-clause-broken : goal.returns-in_err-site_of-in-Live-clause-broken
returns-in_err-site_of-in-Live-clause-broken c =
    let e = c.in-Live in
    let told = c.in_err-site_of-in-Live.ensures.broken in
    let placed : FirstOf (PlaceBreaks c.args.graph.now e.id e.from e.to) (NoGraph ∷ Unknown ∷ Backwards ∷ Horizon ∷ []) c.in_err-site_of-in-Live.field-0.0 = search rules in
    let broken : Broken c.args.graph.now c.args.edit.now c.in_err-site_of-in-Live.field-0.0 = subst (λ edit. Broken c.args.graph.now edit c.in_err-site_of-in-Live.field-0.0) (sym e.is)
    (first_longer (Breaks c.args.graph.now (edits.Live e.id e.from e.to)) (NoGraph ∷ Unknown ∷ Backwards ∷ Horizon ∷ []) (Ends ∷ Full ∷ []) c.in_err-site_of-in-Live.field-0.0 placed) in
    search rules

pub returns-in_err-site_of-in-Gone-clause-broken : goal.returns-in_err-site_of-in-Gone-clause-broken
returns-in_err-site_of-in-Gone-clause-broken c =
    let e = c.in-Gone in
    let told = c.in_err-site_of-in-Gone.ensures.broken in
    let placed : FirstOf (PlaceBreaks c.args.graph.now e.id e.from e.to) (NoGraph ∷ Unknown ∷ Backwards ∷ Horizon ∷ []) c.in_err-site_of-in-Gone.field-0.0 = search rules in
    let broken : Broken c.args.graph.now c.args.edit.now c.in_err-site_of-in-Gone.field-0.0 = subst (λ edit. Broken c.args.graph.now edit c.in_err-site_of-in-Gone.field-0.0) (sym e.is)
    (first_longer (Breaks c.args.graph.now (edits.Gone e.id e.from e.to)) (NoGraph ∷ Unknown ∷ Backwards ∷ Horizon ∷ []) (Held ∷ Full ∷ []) c.in_err-site_of-in-Gone.field-0.0 placed) in
    search rules

pub returns-in_err-site-in-Put-clause-broken : goal.returns-in_err-site-in-Put-clause-broken
returns-in_err-site-in-Put-clause-broken c =
    let e = c.in-Put in
    let told = c.in_err-site-in-Put.ensures.broken in
    let placed : FirstOf (PlaceBreaks c.args.graph.now e.id e.from e.to) (NoGraph ∷ Unknown ∷ Backwards ∷ Horizon ∷ []) c.in_err-site-in-Put.field-0.0 = search rules in
    let broken : Broken c.args.graph.now c.args.edit.now c.in_err-site-in-Put.field-0.0 = subst (λ edit. Broken c.args.graph.now edit c.in_err-site-in-Put.field-0.0) (sym e.is)
    (first_longer (Breaks c.args.graph.now (edits.Put e.id e.prop e.value e.from e.to)) (NoGraph ∷ Unknown ∷ Backwards ∷ Horizon ∷ []) (Absent ∷ Full ∷ []) c.in_err-site-in-Put.field-0.0 placed) in
    search rules

pub returns-in_err-site-in-Clear-clause-broken : goal.returns-in_err-site-in-Clear-clause-broken
returns-in_err-site-in-Clear-clause-broken c =
    let e = c.in-Clear in
    let told = c.in_err-site-in-Clear.ensures.broken in
    let placed : FirstOf (PlaceBreaks c.args.graph.now e.id e.from e.to) (NoGraph ∷ Unknown ∷ Backwards ∷ Horizon ∷ []) c.in_err-site-in-Clear.field-0.0 = search rules in
    let broken : Broken c.args.graph.now c.args.edit.now c.in_err-site-in-Clear.field-0.0 = subst (λ edit. Broken c.args.graph.now edit c.in_err-site-in-Clear.field-0.0) (sym e.is)
    (first_longer (Breaks c.args.graph.now (edits.Clear e.id e.prop e.from e.to)) (NoGraph ∷ Unknown ∷ Backwards ∷ Horizon ∷ []) (Full ∷ []) c.in_err-site-in-Clear.field-0.0 placed) in
    search rules
