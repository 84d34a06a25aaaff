use Rattle.std.proofs.Common.{List, sym, ◌∙◌, subst}
use Rattle.relation_rows.specs.declared.rows.Row.{Row}
use Rattle.relation_rows.specs.Answers.{Gives}
use Rattle.relation_rows.specs.Rows.{RowsHold}
use Rattle.relation_rows.specs.Relations.{HasMiddlePoint}
use Rattle.relation_rows.specs.Idle.{IsWholeSide}
use Rattle.relation_rows.proofs.IdleRows.{gives_whole}
use Rattle.relation_rows.proofs.relations.Relation.compose.Goals as goal

pub returns-then-branch : goal.returns-then-branch
returns-then-branch c =
    subst (λ (v : List Row). Gives c.copied.result (HasMiddlePoint v c.args.other.now) c.args.max_rows) (c.deref.ensures.value ∙ c.self.view_is)
    (subst (λ (v : List Row). Gives c.copied.result (HasMiddlePoint c.deref.result.now v) c.args.max_rows) (c.deref-2.ensures.value ∙ c.other.view_is)
    (gives_whole c.deref.result.now c.deref-2.result.now c.deref-2.result.now (c.in_ok-is_second_whole.ensures c.if-branch.true) c.args.max_rows c.copied.result
    (subst (λ (v : List Row). Gives c.copied.result (RowsHold v) c.args.max_rows) (c.deref-then-branch.ensures.value ∙ sym c.deref-2.ensures.value) c.copied.ensures)))

pub returns-then-is_first_whole : goal.returns-then-is_first_whole
returns-then-is_first_whole c =
    let whole : IsWholeSide c.deref-4.result.now c.deref-3.result.now c.deref-4.result.now =
    subst (λ (v : List Row). IsWholeSide c.deref-4.result.now v c.deref-4.result.now) c.in_ok-second.ensures (c.is_first_whole.ensures c.if-is_first_whole.true) in
    subst (λ (v : List Row). Gives c.copied-then-is_first_whole.result (HasMiddlePoint v c.args.other.now) c.args.max_rows) (c.deref-4.ensures.value ∙ c.self.view_is)
    (subst (λ (v : List Row). Gives c.copied-then-is_first_whole.result (HasMiddlePoint c.deref-4.result.now v) c.args.max_rows) (c.deref-3.ensures.value ∙ c.other.view_is)
    (gives_whole c.deref-4.result.now c.deref-3.result.now c.deref-4.result.now whole c.args.max_rows c.copied-then-is_first_whole.result
    (subst (λ (v : List Row). Gives c.copied-then-is_first_whole.result (RowsHold v) c.args.max_rows) (c.deref-then-is_first_whole.ensures.value ∙ sym c.deref-4.ensures.value) c.copied-then-is_first_whole.ensures)))
