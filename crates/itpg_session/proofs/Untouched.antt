-- An edit whose touch doesn't meet a footprint leaves a graph that agrees on it.
use Rattle.std.proofs.Common.{◌≡◌, ◌↔◌, inl, inr, ⊎_elim, ℕ, ℤ, List, None, Some, refl, sym, subst}
use Rattle.std.proofs.lemmas.Bool.Decides.{eqb_tells}
use Rattle.itpg_base.specs.Words.{Word}
use Rattle.itpg_base.specs.Spans.{Span, Covers}
use Rattle.itpg_base.specs.Graphs.{Graph, Property, Good, Named, ObjectIs, Val, PropertiesHave}
use Rattle.itpg_base.specs.declared.touch.Touch.{Touch}
use Rattle.itpg_base.specs.declared.touch.Touch.TheVariants as touched
use Rattle.itpg_base.proofs.Objects.{there, here}
use Rattle.itpg_base.proofs.Searches.{same_word}
use Rattle.itpg_graph.specs.Families.{AreProperties}
use Rattle.itpg_graph.specs.Changes.{with_object, with_live, with_properties, ValCleared, ValChanged}
use Rattle.itpg_graph.proofs.Goodness.{changed_is, changed_here}
use Rattle.label_scope.specs.declared.footprint.Footprint.{Footprint}
use Rattle.label_scope.specs.Scopes.{Has}
use Rattle.label_scope.specs.PropertyScopes.{ScopeHas}
use Rattle.label_scope.specs.Touching.{Meets}
use Rattle.label_scope.specs.Agreeing.{StandsOnEither, Agree}
use Rattle.label_scope.proofs.ByProperty.{some_has}
use Rattle.label_scope.proofs.Inside.{IsInside}
use Rattle.itpg_edit.specs.declared.edit.Edit.{Edit}
use Rattle.itpg_edit.specs.declared.edit.Edit.TheVariants.{Begin, Extend, AddNode, AddEdge, Live, Gone, Put, Clear, Remove}
use Rattle.itpg_edit.specs.Facts.{span_of}
use Rattle.itpg_edit.specs.Next.{Next, WithLabels, TouchOf}
use Rattle.itpg_session.proofs.SparedObjects.{IsSpared, agree_pushed, other_same, KeepsOutline, shape_same, spared_same, kept_same, agree_without}

-- of the object that is edited, what isn't so by its touch
touched_object : (g : Graph) (id : Word) (o : ℕ) (touch : Touch) (f : Footprint) (by : List Word → Touch) (Such : List Word → Type 0) → ((labels : List Word) → Such labels → Meets f (by labels))
    → Good g → Named g o id → WithLabels g id (λ labels. touch ≡ by labels) → (Meets f touch → ⊥) → IsSpared Such g o
touched_object g id o touch f by Such more good named touches unmet =
    let same : touches.0 ≡ o = good.names_differ touches.0 o id touches.1 named in
    let t = there g.objects o _ (subst (λ (n : ℕ). ObjectIs g n (λ x. touch ≡ by x.labels)) same touches.2) in
    here g.objects o _ t.0 t.1 (λ such. unmet (subst (Meets f) (sym t.2) (more t.0.labels such)))

-- values of one property alone change
module _ (g : Graph) (o : ℕ) (prop : Word) (properties : List Property) (f : Footprint) (spared : IsSpared (ScopeHas f.values prop) g o)
    (same : (name : Word) → (name ≡ prop → ⊥) → (t : ℤ) (value : Word) → PropertiesHave properties name t value ↔ Val g o name t value) where
  keeps : KeepsOutline (λ x. record x { properties = properties })
  keeps = record { standing = λ x. refl; labels = λ x. refl; ends = λ x. refl }

  here_same : (name : Word) (t : ℤ) (value : Word) → (name ≡ prop → ⊥) → Val g o name t value ↔ Val (with_properties g o properties) o name t value
  here_same name t value other = (
    (λ h. let x = there g.objects o _ h in changed_here g o (λ z. record z { properties = properties }) (λ z. PropertiesHave z.properties name t value) x.0 x.1 ((same name other t value).1 h)),
    (λ h. ⊎_elim (λ old. absurd (old.0 refl)) (λ new. let x = there g.objects o _ new.1 in (same name other t value).0 x.2) (changed_is g o (λ z. record z { properties = properties }) (λ z. PropertiesHave z.properties name t value) o h)),
  )

  value_same : (k : ℕ) (name : Word) (t : ℤ) (value : Word) → StandsOnEither (ScopeHas f.values name) g (with_properties g o properties) k → Val g k name t value ↔ Val (with_properties g o properties) k name t value
  value_same k name t value stands = ⊎_elim
      (λ own. spared_same g o (λ x. record x { properties = properties }) keeps (ScopeHas f.values name) (λ x. PropertiesHave x.properties name t value) k (subst (λ (n : Word). IsSpared (ScopeHas f.values n) g o) (sym own) spared) stands)
      (λ other. elim (eqb_tells k o) [
        | inl at ↦ subst (λ (n : ℕ). Val g n name t value ↔ Val (with_properties g o properties) n name t value) (sym at.1) (here_same name t value other)
        | inr elsewhere ↦ other_same g o (λ z. record z { properties = properties }) (λ z. PropertiesHave z.properties name t value) k elsewhere.1
      ])
      (same_word name prop)

  pub agree_values : Agree g (with_properties g o properties) f
  agree_values = record {
    horizons = refl;
    shape = λ k outline has. shape_same g o (λ x. record x { properties = properties }) keeps k outline;
    live = λ k t stands. kept_same g o (λ x. record x { properties = properties }) (λ x. Covers x.live t) k (λ x h. h) (λ x h. h);
    values = λ k name t value stands. value_same k name t value stands;
  }

-- the existence of one object changes
agree_live : (g : Graph) (o : ℕ) (live : List Span) (f : Footprint) → IsSpared (Has f.live) g o → Agree g (with_live g o live) f
agree_live g o live f spared =
    let keeps : KeepsOutline (λ x. record x { live = live }) = record { standing = λ x. refl; labels = λ x. refl; ends = λ x. refl } in
    record {
      horizons = refl;
      shape = λ k outline has. shape_same g o (λ x. record x { live = live }) keeps k outline;
      live = λ k t stands. spared_same g o (λ x. record x { live = live }) keeps (Has f.live) (λ x. Covers x.live t) k spared stands;
      values = λ k name t value stands. kept_same g o (λ x. record x { live = live }) (λ x. PropertiesHave x.properties name t value) k (λ x h. h) (λ x h. h);
    }

-- its existence and its values change
agree_gone : (g : Graph) (o : ℕ) (live : List Span) (properties : List Property) (f : Footprint) → IsSpared (Has f.live) g o → ((prop : Word) → IsSpared (ScopeHas f.values prop) g o)
    → Agree g (with_object g o (λ x. record x { live = live; properties = properties })) f
agree_gone g o live properties f spared values =
    let keeps : KeepsOutline (λ x. record x { live = live; properties = properties }) = record { standing = λ x. refl; labels = λ x. refl; ends = λ x. refl } in
    record {
      horizons = refl;
      shape = λ k outline has. shape_same g o (λ x. record x { live = live; properties = properties }) keeps k outline;
      live = λ k t stands. spared_same g o (λ x. record x { live = live; properties = properties }) keeps (Has f.live) (λ x. Covers x.live t) k spared stands;
      values = λ k name t value stands. spared_same g o (λ x. record x { live = live; properties = properties }) keeps (ScopeHas f.values name) (λ x. PropertiesHave x.properties name t value) k (values name) stands;
    }

-- what a property's values in a span that are put or taken away leave of another property
cleared_same : (g : Graph) (o : ℕ) (s : Span) (prop : Word) (properties : List Property) → AreProperties (ValCleared g o s prop) properties
    → (name : Word) → (name ≡ prop → ⊥) → (t : ℤ) (value : Word) → PropertiesHave properties name t value ↔ Val g o name t value
cleared_same g o s prop properties are name other t value = ((λ h. (are.only name t value h).0), (λ h. are.whole name t value (h, λ both. other both.0)))

put_same : (g : Graph) (o : ℕ) (s : Span) (prop new : Word) (properties : List Property) → AreProperties (ValChanged g o s prop new) properties
    → (name : Word) → (name ≡ prop → ⊥) → (t : ℤ) (value : Word) → PropertiesHave properties name t value ↔ Val g o name t value
put_same g o s prop new properties are name other t value = (
  (λ h. ⊎_elim (λ put. absurd (other put.0)) (λ left. left.0) (are.only name t value h)),
  (λ h. are.whole name t value (inr (h, λ both. other both.0))),
)

pub untouched : (g new : Graph) (edit : Edit) (touch : Touch) (f : Footprint) → IsInside f (Has f.shape) → Good g → Next g edit new → TouchOf g edit touch → (Meets f touch → ⊥) → Agree g new f
untouched g new (Begin name lo hi) touch f inside good next touches unmet = absurd (unmet (subst (Meets f) (sym touches) tt))
untouched g new (Extend lo hi) touch f inside good next touches unmet = absurd (unmet (subst (Meets f) (sym touches) tt))
untouched g new (AddNode id labels) touch f inside good next touches unmet =
    subst (λ (h : Graph). Agree g h f) (sym next) (agree_pushed g id labels None f (λ has. unmet (subst (Meets f) (sym touches) has)))
untouched g new (AddEdge id labels source target) touch f inside good next touches unmet =
    subst (λ (h : Graph). Agree g h f) (sym next.4) (agree_pushed g id labels (Some (record { source = next.0; target = next.1 })) f (λ has. unmet (subst (Meets f) (sym touches) has)))
untouched g new (Live id from to) touch f inside good next touches unmet =
    let o = next.0 in
    let spared = touched_object g id o touch f touched.Live (Has f.live) (λ labels has. has) good next.1 touches unmet in
    subst (λ (h : Graph). Agree g h f) (sym next.2.is) (agree_live g o next.2.live f spared)
untouched g new (Gone id from to) touch f inside good next touches unmet =
    let o = next.0 in
    subst (λ (h : Graph). Agree g h f) (sym next.2.is) (agree_gone g o next.2.live next.2.properties f
    (touched_object g id o touch f touched.Gone (Has f.live) (λ labels has. inl has) good next.1 touches unmet)
    (λ prop. touched_object g id o touch f touched.Gone (ScopeHas f.values prop) (λ labels has. inr (some_has f.values prop labels has)) good next.1 touches unmet))
untouched g new (Put id prop value from to) touch f inside good next touches unmet =
    let o = next.0 in
    let spared = touched_object g id o touch f (λ labels. touched.Value labels prop) (ScopeHas f.values prop) (λ labels has. has) good next.1 touches unmet in
    subst (λ (h : Graph). Agree g h f) (sym next.2.is) (agree_values g o prop next.2.properties f spared (put_same g o (span_of from to) prop value next.2.properties next.2.values))
untouched g new (Clear id prop from to) touch f inside good next touches unmet =
    let o = next.0 in
    let spared = touched_object g id o touch f (λ labels. touched.Value labels prop) (ScopeHas f.values prop) (λ labels has. has) good next.1 touches unmet in
    subst (λ (h : Graph). Agree g h f) (sym next.2.is) (agree_values g o prop next.2.properties f spared (cleared_same g o (span_of from to) prop next.2.properties next.2.values))
untouched g new (Remove id) touch f inside good next touches unmet =
    let o = next.0 in
    let spared = touched_object g id o touch f touched.Shape (Has f.shape) (λ labels has. has) good next.1 touches unmet in
    subst (λ (h : Graph). Agree g h f) (sym next.2) (agree_without g o f inside spared)
