use Rattle.std.proofs.Common.{◌∙◌, sym}
use Rattle.std.proofs.lemmas.Slice.Eq.{slice_eq-Decides}
use Rattle.relation_rows.proofs.Equal.{row_decides}
use Rattle.relation_rows.proofs.relations.Relation.same.Goals as goal

pub returns : goal.returns
returns c =
    let d = slice_eq-Decides row_decides c.self.inside.rows.items c.other.inside.rows.items c.eq.result c.eq.ensures in
    (λ h. sym c.self.view_is ∙ d.0 h ∙ c.other.view_is, λ e. d.1 (c.self.view_is ∙ e ∙ sym c.other.view_is))
