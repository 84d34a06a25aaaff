-- What a change leaves and touches, in the words of the edit that asks for it.
use Rattle.std.proofs.Common.{sym, subst}
use Rattle.itpg_base.specs.Graphs.{Graph}
use Rattle.itpg_base.specs.declared.touch.Touch.{Touch}
use Rattle.itpg_edit.specs.declared.edit.Edit.{Edit}
use Rattle.itpg_edit.specs.declared.change.Change.{Change}
use Rattle.itpg_edit.specs.declared.change.Change.TheVariants.{Begin, Widen, AddNode, AddEdge, Live, Gone, Put, Clear, Remove}
use Rattle.itpg_edit.specs.Next.{Next, TouchOf}
use Rattle.itpg_edit.specs.Changes.{IsAsked, Leaves, Touches}

pub next : (g new : Graph) (edit : Edit) (change : Change) → IsAsked g edit change → Leaves g change new → Next g edit new
next g new edit (Begin name horizon) asked left = subst (λ e. Next g e new) (sym asked.0) left
next g new edit (Widen horizon) asked left = subst (λ e. Next g e new) (sym asked.0) left
next g new edit (AddNode id labels) asked left = subst (λ e. Next g e new) (sym asked.0) left
next g new edit (AddEdge id labels source target) asked left = subst (λ e. Next g e new) (sym asked.2) (source.0, target.0, asked.4.named, asked.5.named, left)
next g new edit (Live site) asked left = subst (λ e. Next g e new) (sym asked.1) (site.object.0, asked.2.object.named, left)
next g new edit (Gone site) asked left = subst (λ e. Next g e new) (sym asked.1) (site.object.0, asked.2.object.named, left)
next g new edit (Put site prop value) asked left = subst (λ e. Next g e new) (sym asked.1) (site.object.0, asked.2.object.named, left)
next g new edit (Clear site prop) asked left = subst (λ e. Next g e new) (sym asked.1) (site.object.0, asked.2.object.named, left)
next g new edit (Remove object) asked left = subst (λ e. Next g e new) (sym asked.1) (object.0, asked.2.named, left)

pub touches : (g : Graph) (touch : Touch) (edit : Edit) (change : Change) → IsAsked g edit change → Touches g change touch → TouchOf g edit touch
touches g touch edit (Begin name horizon) asked is = subst (λ e. TouchOf g e touch) (sym asked.0) is
touches g touch edit (Widen horizon) asked is = subst (λ e. TouchOf g e touch) (sym asked.0) is
touches g touch edit (AddNode id labels) asked is = subst (λ e. TouchOf g e touch) (sym asked.0) is
touches g touch edit (AddEdge id labels source target) asked is = subst (λ e. TouchOf g e touch) (sym asked.2) is
touches g touch edit (Live site) asked is = subst (λ e. TouchOf g e touch) (sym asked.1) (site.object.0, asked.2.object.named, is)
touches g touch edit (Gone site) asked is = subst (λ e. TouchOf g e touch) (sym asked.1) (site.object.0, asked.2.object.named, is)
touches g touch edit (Put site prop value) asked is = subst (λ e. TouchOf g e touch) (sym asked.1) (site.object.0, asked.2.object.named, is)
touches g touch edit (Clear site prop) asked is = subst (λ e. TouchOf g e touch) (sym asked.1) (site.object.0, asked.2.object.named, is)
touches g touch edit (Remove object) asked is = subst (λ e. TouchOf g e touch) (sym asked.1) (object.0, asked.2.named, is)
