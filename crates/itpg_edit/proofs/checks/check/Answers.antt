use Rattle.std.proofs.Common.{◌≡◌, false, sym, subst, rules}
use Rattle.std.proofs.lemmas.Result.{IfOk-weaker}
use Rattle.itpg_base.specs.declared.rule_code.RuleCode.TheVariants.{Kind, Ends, Absent, Held, Incident, Full}
use Rattle.itpg_edit.specs.declared.edit.Edit.{Edit}
use Rattle.itpg_edit.specs.Rules.{Broken}
use Rattle.itpg_edit.specs.Changes.{IsAsked, Fits}
use Rattle.itpg_edit.proofs.Checked.{refused, last, node_full, edge_kind, edge_full, live_ends, live_full, gone_held, gone_full, put_absent, put_full, clear_full, remove_incident}
use Rattle.itpg_edit.proofs.checks.check.Goals as goal

pub returns-in_err-refuse_if-in-Live-clause-broken : goal.returns-in_err-refuse_if-in-Live-clause-broken
returns-in_err-refuse_if-in-Live-clause-broken c =
    let told = c.in_err-refuse_if-in-Live.ensures.broken in
    let broken : (edit : Edit) → IsAsked c.args.graph.now edit c.args.change.now → Broken c.args.graph.now edit c.in_err-refuse_if-in-Live.field-0.0 =
    refused c.args.graph.now _ _ _ Ends c.in-Live.is told.0 (λ edit asked. subst (λ e. Broken c.args.graph.now e Ends) (sym asked.1) (live_ends c.args.graph.now asked.0 c.in-Live.site asked.2 (c.lacks_end.ensures.missing told.1))) in
    search rules

pub returns-in_err-refuse_if-in-Gone-clause-broken : goal.returns-in_err-refuse_if-in-Gone-clause-broken
returns-in_err-refuse_if-in-Gone-clause-broken c =
    let told = c.in_err-refuse_if-in-Gone.ensures.broken in
    let broken : (edit : Edit) → IsAsked c.args.graph.now edit c.args.change.now → Broken c.args.graph.now edit c.in_err-refuse_if-in-Gone.field-0.0 =
    refused c.args.graph.now _ _ _ Held c.in-Gone.is told.0 (λ edit asked. subst (λ e. Broken c.args.graph.now e Held) (sym asked.1) (gone_held c.args.graph.now asked.0 c.in-Gone.site asked.2 (c.is_held.ensures.held told.1))) in
    search rules

pub returns-in_err-refuse_if-in-Put-clause-broken : goal.returns-in_err-refuse_if-in-Put-clause-broken
returns-in_err-refuse_if-in-Put-clause-broken c =
    let told = c.in_err-refuse_if-in-Put.ensures.broken in
    let broken : (edit : Edit) → IsAsked c.args.graph.now edit c.args.change.now → Broken c.args.graph.now edit c.in_err-refuse_if-in-Put.field-0.0 =
    refused c.args.graph.now _ _ _ Absent c.in-Put.is told.0 (λ edit asked. subst (λ e. Broken c.args.graph.now e Absent) (sym asked.1) (put_absent c.args.graph.now asked.0 c.in-Put.site asked.2 c.in-Put.prop.now c.in-Put.value.now (c.is_absent.ensures.missing told.1))) in
    search rules

pub returns-in_err-refuse_if-in-AddEdge-clause-broken : goal.returns-in_err-refuse_if-in-AddEdge-clause-broken
returns-in_err-refuse_if-in-AddEdge-clause-broken c =
    let told = c.in_err-refuse_if-in-AddEdge.ensures.broken in
    let e = c.in-AddEdge in
    let broken : (edit : Edit) → IsAsked c.args.graph.now edit c.args.change.now → Broken c.args.graph.now edit c.in_err-refuse_if-in-AddEdge.field-0.0 =
    refused c.args.graph.now _ _ _ Kind e.is told.0 (λ edit asked. subst (λ e. Broken c.args.graph.now e Kind) (sym asked.2)
    (edge_kind c.args.graph.now e.id.now asked.3 e.labels.now asked.0 asked.1 e.source e.target asked.4 asked.5 (c.joins_edge.ensures.edge told.1))) in
    search rules

pub returns-in_ok-refuse_if-in-AddEdge-clause-broken : goal.returns-in_ok-refuse_if-in-AddEdge-clause-broken
returns-in_ok-refuse_if-in-AddEdge-clause-broken c =
    let e = c.in-AddEdge in
    let nodes = c.joins_edge.ensures.nodes c.in_ok-refuse_if-in-AddEdge.ensures.kept in
    last c.args.graph.now c.args.change.now _ Full c.check_room-in-AddEdge.result e.is c.check_room-in-AddEdge.ensures.full
    (λ told edit asked. subst (λ e. Broken c.args.graph.now e Full) (sym asked.2) (edge_full c.args.graph.now e.id.now asked.3 e.labels.now asked.0 asked.1 e.source e.target asked.4 asked.5 nodes.0 nodes.1 told))

pub returns-in-AddNode-clause-broken : goal.returns-in-AddNode-clause-broken
returns-in-AddNode-clause-broken c =
    last c.args.graph.now c.args.change.now _ Full c.check_room.result c.in-AddNode.is c.check_room.ensures.full
    (λ told edit asked. node_full c.args.graph.now c.in-AddNode.id.now asked.1 c.in-AddNode.labels.now edit asked.0 told)

pub returns-in-Clear-clause-broken : goal.returns-in-Clear-clause-broken
returns-in-Clear-clause-broken c =
    last c.args.graph.now c.args.change.now _ Full c.refuse_if-in-Clear.result c.in-Clear.is c.refuse_if-in-Clear.ensures.broken
    (λ told edit asked. subst (λ e. Broken c.args.graph.now e Full) (sym asked.1) (clear_full c.args.graph.now asked.0 c.in-Clear.site asked.2 c.in-Clear.prop.now (c.clears_too_many.ensures.many told)))

pub returns-in-Remove-clause-broken : goal.returns-in-Remove-clause-broken
returns-in-Remove-clause-broken c =
    last c.args.graph.now c.args.change.now _ Incident c.refuse_if-in-Remove.result c.in-Remove.is c.refuse_if-in-Remove.ensures.broken
    (λ told edit asked. subst (λ e. Broken c.args.graph.now e Incident) (sym asked.1) (remove_incident c.args.graph.now asked.0 c.in-Remove.object asked.2 (c.is_incident.ensures.end told)))

pub returns-in_ok-refuse_if-in-Gone-clause-fits : goal.returns-in_ok-refuse_if-in-Gone-clause-fits
returns-in_ok-refuse_if-in-Gone-clause-fits c =
    IfOk-weaker c.refuse_if-in-Gone-2.result (λ _. c.cuts_too_many.result ≡ false) (λ _. Fits c.args.graph.now c.args.change.now)
    (λ _ few. subst (Fits c.args.graph.now) (sym c.in-Gone.is) (c.is_held.ensures.free c.in_ok-refuse_if-in-Gone.ensures.kept, c.cuts_too_many.ensures.few few)) c.refuse_if-in-Gone-2.ensures.kept

pub returns-in_ok-refuse_if-in-Live-clause-broken : goal.returns-in_ok-refuse_if-in-Live-clause-broken
returns-in_ok-refuse_if-in-Live-clause-broken c =
    last c.args.graph.now c.args.change.now _ Full c.refuse_if-in-Live-2.result c.in-Live.is c.refuse_if-in-Live-2.ensures.broken
    (λ told edit asked. subst (λ e. Broken c.args.graph.now e Full) (sym asked.1) (live_full c.args.graph.now asked.0 c.in-Live.site asked.2 (c.lacks_end.ensures.there c.in_ok-refuse_if-in-Live.ensures.kept) (c.joins_too_many.ensures.many told)))

pub returns-in_ok-refuse_if-in-Gone-clause-broken : goal.returns-in_ok-refuse_if-in-Gone-clause-broken
returns-in_ok-refuse_if-in-Gone-clause-broken c =
    last c.args.graph.now c.args.change.now _ Full c.refuse_if-in-Gone-2.result c.in-Gone.is c.refuse_if-in-Gone-2.ensures.broken
    (λ told edit asked. subst (λ e. Broken c.args.graph.now e Full) (sym asked.1) (gone_full c.args.graph.now asked.0 c.in-Gone.site asked.2 (c.is_held.ensures.free c.in_ok-refuse_if-in-Gone.ensures.kept) (c.cuts_too_many.ensures.many told)))

pub returns-in_ok-refuse_if-in-Put-clause-broken : goal.returns-in_ok-refuse_if-in-Put-clause-broken
returns-in_ok-refuse_if-in-Put-clause-broken c =
    last c.args.graph.now c.args.change.now _ Full c.refuse_if-in-Put-2.result c.in-Put.is c.refuse_if-in-Put-2.ensures.broken
    (λ told edit asked. subst (λ e. Broken c.args.graph.now e Full) (sym asked.1) (put_full c.args.graph.now asked.0 c.in-Put.site asked.2 c.in-Put.prop.now c.in-Put.value.now (c.is_absent.ensures.there c.in_ok-refuse_if-in-Put.ensures.kept) (c.puts_too_many.ensures.many told)))
