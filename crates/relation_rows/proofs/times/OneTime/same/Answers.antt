use Rattle.std.proofs.Common.{◌∙◌, sym}
use Rattle.std.proofs.lemmas.Slice.Eq.{slice_eq-Decides}
use Rattle.relation_rows.proofs.Equal.{one_decides}
use Rattle.relation_rows.proofs.times.OneTime.same.Goals as goal

pub returns : goal.returns
returns c =
    let d = slice_eq-Decides one_decides c.rows.result.now c.rows-2.result.now c.eq.result c.eq.ensures in
    let one = c.rows.ensures ∙ c.self.view_is in
    let other = c.rows-2.ensures ∙ c.other.view_is in
    (λ h. sym one ∙ d.0 h ∙ other, λ e. d.1 (one ∙ e ∙ sym other))
