-- An edit that is made touches exactly one thing.
use Rattle.std.proofs.Common.{◌≡◌, ℕ, List, refl, sym, ap, ◌∙◌, subst}
use Rattle.itpg_base.specs.Words.{Word}
use Rattle.itpg_base.specs.Graphs.{Graph, Object, Good, Named, ObjectIs}
use Rattle.itpg_base.specs.declared.touch.Touch.{Touch}
use Rattle.itpg_base.specs.declared.touch.Touch.TheVariants as touched
use Rattle.itpg_base.proofs.Objects.{there, here, same_some}
use Rattle.itpg_edit.specs.declared.edit.Edit.{Edit}
use Rattle.itpg_edit.specs.declared.edit.Edit.TheVariants.{Begin, Extend, AddNode, AddEdge, Live, Gone, Put, Clear, Remove}
use Rattle.itpg_edit.specs.Next.{Next, WithLabels, TouchOf}

module _ (g : Graph) (id : Word) (by : List Word → Touch) where
  one_labelled : Good g → (x y : Touch) → WithLabels g id (λ labels. x ≡ by labels) → WithLabels g id (λ labels. y ≡ by labels) → x ≡ y
  one_labelled good x y a b =
      let same : a.0 ≡ b.0 = good.names_differ a.0 b.0 id a.1 b.1 in
      let s = there g.objects b.0 _ (subst (λ (n : ℕ). ObjectIs g n (λ z. x ≡ by z.labels)) same a.2) in
      let t = there g.objects b.0 _ b.2 in
      let object : s.0 ≡ t.0 = same_some s.0 t.0 _ s.1 t.1 in
      s.2 ∙ ap (λ (z : Object). by z.labels) object ∙ sym t.2

  some_labelled : (o : ℕ) → Named g o id → (touch : Touch) × WithLabels g id (λ labels. touch ≡ by labels)
  some_labelled o named =
      let t = there g.objects o _ named in
      (by t.0.labels, (o, named, here g.objects o (λ z. by t.0.labels ≡ by z.labels) t.0 t.1 refl))

pub one_touch : (g : Graph) (edit : Edit) → Good g → (x y : Touch) → TouchOf g edit x → TouchOf g edit y → x ≡ y
one_touch g (Begin name lo hi) good x y a b = a ∙ sym b
one_touch g (Extend lo hi) good x y a b = a ∙ sym b
one_touch g (AddNode id labels) good x y a b = a ∙ sym b
one_touch g (AddEdge id labels source target) good x y a b = a ∙ sym b
one_touch g (Live id from to) good x y a b = one_labelled g id (λ labels. touched.Live labels) good x y a b
one_touch g (Gone id from to) good x y a b = one_labelled g id (λ labels. touched.Gone labels) good x y a b
one_touch g (Put id prop value from to) good x y a b = one_labelled g id (λ labels. touched.Value labels prop) good x y a b
one_touch g (Clear id prop from to) good x y a b = one_labelled g id (λ labels. touched.Value labels prop) good x y a b
one_touch g (Remove id) good x y a b = one_labelled g id (λ labels. touched.Shape labels) good x y a b

pub some_touch : (g new : Graph) (edit : Edit) → Next g edit new → (touch : Touch) × TouchOf g edit touch
some_touch g new (Begin name lo hi) n = (touched.All, refl)
some_touch g new (Extend lo hi) n = (touched.All, refl)
some_touch g new (AddNode id labels) n = (touched.Shape labels, refl)
some_touch g new (AddEdge id labels source target) n = (touched.Shape labels, refl)
some_touch g new (Live id from to) n = some_labelled g id (λ labels. touched.Live labels) n.0 n.1
some_touch g new (Gone id from to) n = some_labelled g id (λ labels. touched.Gone labels) n.0 n.1
some_touch g new (Put id prop value from to) n = some_labelled g id (λ labels. touched.Value labels prop) n.0 n.1
some_touch g new (Clear id prop from to) n = some_labelled g id (λ labels. touched.Value labels prop) n.0 n.1
some_touch g new (Remove id) n = some_labelled g id (λ labels. touched.Shape labels) n.0 n.1
