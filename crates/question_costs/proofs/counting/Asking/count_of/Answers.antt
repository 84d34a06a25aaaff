use Rattle.std.proofs.Common.{List, length, slice_get, Err, refl, sym, ap, ◌∙◌}
use Rattle.std.proofs.lemmas.List.{length-map}
use Rattle.relation_rows.specs.declared.rows.Row.{Row}
use Rattle.plan_cache.specs.Refilled.{numbers_of}
use Rattle.question_costs.specs.declared.count.MemberCount.{MemberCount}
use Rattle.question_costs.specs.Counts.{counts_of}
use Rattle.question_costs.proofs.Telling.{unknown_at, over_at, rows_at}
use Rattle.question_costs.proofs.counting.Asking.count_of.Goals as goal

pub returns-then-not-have_rows-clause-told : goal.returns-then-not-have_rows-clause-told
returns-then-not-have_rows-clause-told c =
    let nodes = c.args.plans.now.nodes in
    let long = length-map c.args.members.now (λ (m : MemberCount). m.count) ∙ c.requires.many in
    unknown_at c.args.self.now.graph.now c.args.self.now.max_rows nodes (counts_of c.args.members.now) c.requires.told c.law_of_shared_nodes.ensures.shared c.args.no.0 long
    (numbers_of c.args.children.now) (slice_get nodes c.args.no.0) refl c.requires.children (sym c.if-not-have_rows.ensures)

pub returns-in-Ok-clause-told : goal.returns-in-Ok-clause-told
returns-in-Ok-clause-told c =
    let nodes = c.args.plans.now.nodes in
    let long = length-map c.args.members.now (λ (m : MemberCount). m.count) ∙ c.requires.many in
    rows_at c.args.self.now.graph.now c.args.self.now.max_rows nodes (counts_of c.args.members.now) c.requires.told c.law_of_shared_nodes.ensures.shared c.args.no.0 long
    c.in-Ok.relation.value c.row_count.result (c.row_count.ensures.count ∙ ap (λ (rows : List Row). length rows) c.deref.ensures) (slice_get nodes c.args.no.0) c.in-Ok.ensures.rows

pub returns-in-Err-Wide-clause-told : goal.returns-in-Err-Wide-clause-told
returns-in-Err-Wide-clause-told c =
    let nodes = c.args.plans.now.nodes in
    let long = length-map c.args.members.now (λ (m : MemberCount). m.count) ∙ c.requires.many in
    over_at c.args.self.now.graph.now c.args.self.now.max_rows nodes (counts_of c.args.members.now) c.requires.told c.law_of_shared_nodes.ensures.shared c.args.no.0 long
    (numbers_of c.args.children.now) (slice_get nodes c.args.no.0) refl c.requires.children (sym c.if-not-have_rows.ensures) (c.in-Err-Wide.ensures.wide (ap Err c.in-Err-Wide.field-0-is))
